-- where the rows of a table stand by their keys
use Rattle.std.proofs.Common.{◌≡◌, ℕ, zero, suc, ◌+◌, ◌<◌, ◌≤◌, ℤ, Bool, true, false, List, [], ◌∷◌, Some, None, length, get_or, slice_get, map, cond, sum_by, refl, ap, sym, ◌∙◌, arith}
use Rattle.std.specs.Prelude.{nat_lt, position}
use Rattle.std.specs.List.{list_any, position_or_len}
use Rattle.std.specs.Option.{option_map}
use Rattle.std.specs.Ordering.{int_eq}
use Rattle.std.proofs.lemmas.Bool.Decides.{nat_tests, Decides-int_eq}
use Rattle.std.proofs.lemmas.List.Sums.{sum_by-cons}
use Rattle.graph_model.specs.Keys.{rows_at, count_in}
use Rattle.graph_model.proofs.Rows.{or_false, got, has_position, position_of_one}
use Rattle.graph_columns.proofs.Places.{position_cons}

-- ---- the place of a row that passes a test

-- the first row that passes is there
pub record PlaceThere {R : Type 0} (p : R → Bool) (rows : List R) : Type 0 where
  pub found : position p rows ≡ Some (position_or_len p rows)
  pub within : position_or_len p rows < length rows

place_by : {R : Type 0} (p : R → Bool) (rows : List R) (b : Bool) → nat_lt (position_or_len p rows) (length rows) ≡ b → (position p rows ≡ None → ⊥) → PlaceThere p rows
place_by p rows true e some = record {
  found = ap (λ b. cond b (Some (position_or_len p rows)) None) e;
  within = grind (arith, nat_tests);
}
place_by p rows false e some = absurd (some (ap (λ b. cond b (Some (position_or_len p rows)) None) e))

pub place_there : {R : Type 0} (p : R → Bool) (rows : List R) → list_any p rows ≡ true → PlaceThere p rows
place_there p rows e = place_by p rows (nat_lt (position_or_len p rows) (length rows)) refl (has_position p rows e)

pub position_nowhere : {R : Type 0} (p : R → Bool) (rows : List R) → list_any p rows ≡ false → position p rows ≡ None
position_nowhere p [] e = refl
position_nowhere p (r ∷ rows) e =
    let parts = or_false (p r) (list_any p rows) e in
    position_cons p r rows ∙ ap (λ b. cond b (Some 0) (option_map (λ n. 1 + n) (position p rows))) parts.0
    ∙ ap (λ o. option_map (λ n. 1 + n) o) (position_nowhere p rows parts.1)

pub position-map : {R S : Type 0} (p : S → Bool) (f : R → S) (rows : List R) → position p (map f rows) ≡ position (λ r. p (f r)) rows
position-map p f [] = refl
position-map p f (r ∷ rows) =
    position_cons p (f r) (map f rows) ∙ ap (λ o. cond (p (f r)) (Some 0) (option_map (λ n. 1 + n) o)) (position-map p f rows)
    ∙ sym (position_cons (λ x. p (f x)) r rows)

-- ---- the place of a row's key

pub rows_within : {R : Type 0} (w : List R → ℕ) (tables : List (List R)) (t : ℕ) → w [] ≡ 0 → w (rows_at tables t) ≤ sum_by w tables
rows_within w [] t e = omega (arith, e)
rows_within w (rows ∷ tables) zero e = omega (arith, sum_by-cons w rows tables)
rows_within w (rows ∷ tables) (suc t) e = omega (arith, sum_by-cons w rows tables, rows_within w tables t e)

-- a row is found by its key where no other row of its table has it
pub row_found : {R : Type 0} (key : R → ℤ) (rows : List R) (place : ℕ) (row : R) → slice_get rows place ≡ Some row → count_in key (key row) rows ≤ 1 → position (λ q. int_eq q (key row)) (map key rows) ≡ Some place
row_found {R} key rows place row there once =
    let p : R → Bool = λ r. int_eq (key r) (key row) in
    let here = got rows place row row there in
    let passes : p (get_or rows place row) ≡ true = ap p here.1 ∙ (Decides-int_eq (key row) (key row)).1 refl in
    position-map (λ q. int_eq q (key row)) key rows ∙ position_of_one p rows place row here.0 passes once
