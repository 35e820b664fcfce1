-- the places of ends that stand one list after another, or are numbered on
use Rattle.std.proofs.Common.{◌≡◌, ℕ, ◌+◌, ◌-◌, ◌<◌, ◌≤◌, ℤ, Bool, true, false, ◌==◌, List, [], ◌∷◌, ◌++◌, All, length, map, if◌then◌else◌, refl, ap, ◌∙◌, arith}
use Rattle.std.specs.Prelude.{Contains}
use Rattle.std.specs.Int.RustNames.{unsigned_abs}
use Rattle.std.proofs.lemmas.Bool.Decides.{nat_tests}
use Rattle.std.proofs.lemmas.List.Elements.{All-contains_itself, All-weaker}
use Rattle.std.proofs.lemmas.Option.{slice_get_within}
use Rattle.csr_rows.specs.Rows.{places_from, places_of}
use Rattle.csr_rows.proofs.Meaning.{place_of_end}

-- ---- one list after another

front_if : (b : Bool) (first : ℕ) (p q t : List ℕ) → p ≡ q ++ t → (if b then first ∷ p else p) ≡ (if b then first ∷ q else q) ++ t
front_if true first p q t e = ap (λ (xs : List ℕ). first ∷ xs) e
front_if false first p q t e = e

pub places_append : (first : ℕ) (xs ys : List ℕ) (v : ℕ) → places_from first (xs ++ ys) v ≡ places_from first xs v ++ places_from (first + length xs) ys v
places_append first [] ys v = ap (λ k. places_from k ys v) (omega arith)
places_append first (x ∷ xs) ys v =
    let on : (first + 1) + length xs ≡ first + length (x ∷ xs) = omega arith in
    front_if (x == v) first _ _ _ (places_append (first + 1) xs ys v ∙ ap (λ k. places_from (first + 1) xs v ++ places_from k ys v) on)

-- ---- another first place

shift_if : (b : Bool) (first a : ℕ) (p q : List ℕ) → p ≡ map (λ k. first + k) q → (if b then (first + a) ∷ p else p) ≡ map (λ k. first + k) (if b then a ∷ q else q)
shift_if true first a p q e = ap (λ (xs : List ℕ). (first + a) ∷ xs) e
shift_if false first a p q e = e

places_shift : (first : ℕ) (xs : List ℕ) (v a : ℕ) → places_from (first + a) xs v ≡ map (λ k. first + k) (places_from a xs v)
places_shift first [] v a = refl
places_shift first (x ∷ xs) v a =
    let on : (first + a) + 1 ≡ first + (a + 1) = omega arith in
    shift_if (x == v) first a _ _ (ap (λ k. places_from k xs v) on ∙ places_shift first xs v (a + 1))

pub places_from_first : (first : ℕ) (xs : List ℕ) (v : ℕ) → places_from first xs v ≡ map (λ k. first + k) (places_of xs v)
places_from_first first xs v =
    let on : first ≡ first + 0 = omega arith in
    ap (λ k. places_from k xs v) on ∙ places_shift first xs v 0

-- ---- ends that are numbered on from a first one

same_by : (k m v : ℕ) (a b : Bool) → k ≤ v → (k + m == v) ≡ a → (m == v - k) ≡ b → a ≡ b
same_by k m v true true le p q = refl
same_by k m v true false le p q = let no : ⊥ = grind (arith, nat_tests) in absurd no
same_by k m v false true le p q = let no : ⊥ = grind (arith, nat_tests) in absurd no
same_by k m v false false le p q = refl

same_if : (a b : Bool) (first : ℕ) (p q : List ℕ) → a ≡ b → p ≡ q → (if a then first ∷ p else p) ≡ (if b then first ∷ q else q)
same_if a b first p q e f = ap (λ t. if t then first ∷ p else p) e ∙ ap (λ (xs : List ℕ). if b then first ∷ xs else xs) f

pub places_on : (first k : ℕ) (zs : List ℤ) (v : ℕ) → k ≤ v → places_from first (map (λ z. k + unsigned_abs z) zs) v ≡ places_from first (map unsigned_abs zs) (v - k)
places_on first k [] v le = refl
places_on first k (z ∷ zs) v le =
    same_if (k + unsigned_abs z == v) (unsigned_abs z == v - k) first _ _ (same_by k (unsigned_abs z) v _ _ le refl refl) (places_on (first + 1) k zs v le)

none_if : (b : Bool) (first : ℕ) (p : List ℕ) → b ≡ false → p ≡ [] → (if b then first ∷ p else p) ≡ []
none_if true first p e f = cc
none_if false first p e f = f

pub places_none : (first k : ℕ) (zs : List ℤ) (v : ℕ) → v < k → places_from first (map (λ z. k + unsigned_abs z) zs) v ≡ []
places_none first k [] v lt = refl
places_none first k (z ∷ zs) v lt =
    let no : (k + unsigned_abs z == v) ≡ false = grind (arith, nat_tests) in
    none_if (k + unsigned_abs z == v) first _ no (places_none (first + 1) k zs v lt)

-- ---- places are within their list

pub places_within : (xs : List ℕ) (i : ℕ) → All (λ p. p < length xs) (places_of xs i)
places_within xs i =
    All-weaker (λ p. Contains (places_of xs i) p) (λ p. p < length xs) (λ p h. slice_get_within xs p i (place_of_end xs i p h)) (places_of xs i) (All-contains_itself (places_of xs i))
