-- marks in four bytes
use Rattle.std.proofs.Common.{◌≡◌, ◌≢◌, ℕ, zero, suc, ◌<◌, ◌↔◌, Bool, true, false, ◌==◌, List, ◌∷◌, Option, Some, None, length, set, replicate, slice_index, slice_index_or, if◌then◌else◌, refl, ap, sym, ◌∙◌, arith}
use Rattle.std.specs.Prelude.{IsTrue}
use Rattle.std.specs.Option.{is_none}
use Rattle.std.proofs.lemmas.Bool.Decides.{nat_tests}
use Rattle.std.proofs.lemmas.List.{length-map, get_or-map, map-set}
use Rattle.algo_digraph.specs.Marks.{mark_in, marks_in}

-- a number that is not the greatest is a mark
kept_by : (n : ℕ) (b : Bool) → (n == 4294967295) ≡ b → n < 4294967295 → (if b then None else Some n) ≡ Some n
kept_by n true e lt = let no : ⊥ = grind (arith, nat_tests) in absurd no
kept_by n false e lt = refl

pub mark_kept : (n : ℕ) → n < 4294967295 → mark_in n ≡ Some n
mark_kept n lt = kept_by n (n == 4294967295) refl lt

given_by : (n : ℕ) (b : Bool) → (n == 4294967295) ≡ b → (if b then None else Some n) ≢ None → (if b then None else Some n) ≡ Some n
given_by n true e ne = absurd (ne refl)
given_by n false e ne = refl

pub mark_given : (n : ℕ) → mark_in n ≢ None → mark_in n ≡ Some n
mark_given n ne = given_by n (n == 4294967295) refl ne

-- no mark, and a mark, by the numbers
free_by : (n : ℕ) (b : Bool) → (n == 4294967295) ≡ b → IsTrue b ↔ ((if b then None else Some n) ≡ None)
free_by n true e = (λ t. refl, λ h. refl)
free_by n false e = (λ t. cc, λ h. cc)

pub free_is : (n : ℕ) → IsTrue (n == 4294967295) ↔ (mark_in n ≡ None)
free_is n = free_by n (n == 4294967295) refl

none_by : (n : ℕ) (b : Bool) → b ≡ is_none (if b then None else Some n)
none_by n true = refl
none_by n false = refl

pub is_free : (n : ℕ) → (n == 4294967295) ≡ is_none (mark_in n)
is_free n = none_by n (n == 4294967295)

has_by : (n m : ℕ) (b c : Bool) → (n == 4294967295) ≡ b → (n == m) ≡ c → m < 4294967295 → IsTrue c ↔ ((if b then None else Some n) ≡ Some m)
has_by n m true true e f lt = let no : ⊥ = grind (arith, nat_tests) in absurd no
has_by n m true false e f lt = (λ t. cc, λ h. cc)
has_by n m false true e f lt = let same : n ≡ m = grind (arith, nat_tests) in (λ t. ap Some same, λ h. refl)
has_by n m false false e f lt = let other : n ≢ m = grind (arith, nat_tests) in (λ t. cc, λ h. absurd (other cc))

pub has_is : (n m : ℕ) → m < 4294967295 → IsTrue (n == m) ↔ (mark_in n ≡ Some m)
has_is n m lt = has_by n m (n == 4294967295) (n == m) refl refl lt

-- ---- lists

pub no_marks : (n : ℕ) → marks_in (replicate n 4294967295) ≡ replicate n None
no_marks zero = refl
no_marks (suc n) = ap (λ (xs : List (Option ℕ)). None ∷ xs) (no_marks n)

pub cells_long : (cells : List ℕ) → length (marks_in cells) ≡ length cells
cells_long cells = length-map cells mark_in

pub cell_at : (cells : List ℕ) (v : ℕ) → v < length (marks_in cells) → mark_in (slice_index cells v) ≡ slice_index_or (marks_in cells) v None
cell_at cells v lt = sym (get_or-map mark_in cells v 0 None (omega (arith, lt, cells_long cells)))

pub set_mark : (cells : List ℕ) (v mark : ℕ) → mark < 4294967295 → marks_in (set cells v mark) ≡ set (marks_in cells) v (Some mark)
set_mark cells v mark lt = map-set mark_in cells v mark ∙ ap (set (marks_in cells) v) (mark_kept mark lt)

-- all marks as numbers
module _ (cells list : List ℕ) (is : list ≡ cells) where
  pub numbers_long : length list ≡ length (marks_in cells)
  numbers_long = ap length is ∙ sym (cells_long cells)

  pub number_at : ((v : ℕ) → v < length (marks_in cells) → slice_index_or (marks_in cells) v None ≢ None) → (v : ℕ) → v < length (marks_in cells) → slice_index_or (marks_in cells) v None ≡ Some (slice_index list v)
  number_at all v lt =
      let here = cell_at cells v lt in
      sym here ∙ mark_given (slice_index cells v) (λ none. all v lt (sym here ∙ none)) ∙ ap (λ xs. Some (slice_index xs v)) (sym is)
