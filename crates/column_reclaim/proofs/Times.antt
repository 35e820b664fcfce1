-- How often an id comes in a list of ids.
use Rattle.std.proofs.Common.{◌≡◌, ℕ, ◌+◌, ◌<◌, ◌≤◌, List, [], ◌∷◌, ◌++◌, Bool, true, false, refl, ap, ◌∙◌, cond, eqb, arith, length, get_or, take}
use Rattle.std.specs.Prelude.{◌==◌, ◌||◌, ◌≢◌}
use Rattle.std.specs.List.{list_any}
use Rattle.std.proofs.lemmas.Bool.{eq-eqb, ne_eqb}
use Rattle.std.proofs.lemmas.List.{take_more}
use Rattle.std.proofs.lemmas.List.Sums.{sum_by-cons, sum_by-append, sum_by-take-le}
use Rattle.column_reclaim.specs.Registry.{times}

pub times-cons : (id x : ℕ) (ids : List ℕ) → times id (x ∷ ids) ≡ cond (x == id) 1 0 + times id ids
times-cons id x ids = sum_by-cons (λ k. cond (k == id) 1 0) x ids

pub times-append : (id : ℕ) (xs ys : List ℕ) → times id (xs ++ ys) ≡ times id xs + times id ys
times-append id xs ys = sum_by-append (λ k. cond (k == id) 1 0) xs ys

-- in a list of one id
pub times_same : (id x : ℕ) → x ≡ id → times id (x ∷ []) ≡ 1
times_same id x e = rw (eq-eqb x id e) refl

pub times_other : (id x : ℕ) → x ≢ id → times id (x ∷ []) ≡ 0
times_other id x ne = rw (ne_eqb x id ne) refl

-- the ids before a place, and the one there, come no more often than all
pub times_more_le : (id k d : ℕ) (ids : List ℕ) → k < length ids → times id (take k ids) + times id (get_or ids k d ∷ []) ≤ times id ids
times_more_le id k d ids lt =
    omega (arith, ap (times id) (take_more ids k d lt), times-append id (take k ids) (get_or ids k d ∷ []), sum_by-take-le (λ j. cond (j == id) 1 0) ids (k + 1))

one_of : (b d : Bool) (n : ℕ) → cond b 1 0 + n ≤ 1 → n ≡ cond d 1 0 → cond b 1 0 + n ≡ cond (b || d) 1 0
one_of true d n le e = omega (arith, le)
one_of false d n le e = omega (arith, e)

-- an id that comes at most once comes once or is not there
pub times_distinct : (id : ℕ) (ids : List ℕ) → times id ids ≤ 1 → times id ids ≡ cond (list_any (λ k. k == id) ids) 1 0
times_distinct id [] le = refl
times_distinct id (x ∷ ids) le =
    let e = times-cons id x ids in
    let h : cond (eqb x id) 1 0 + times id ids ≤ 1 = omega (arith, e, le) in
    e ∙ one_of (eqb x id) (list_any (λ k. k == id) ids) (times id ids) h (times_distinct id ids (omega (arith, h)))
