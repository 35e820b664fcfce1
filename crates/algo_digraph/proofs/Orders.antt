-- sums of sizes of tables
use Rattle.std.proofs.Common.{◌≡◌, ℕ, zero, suc, ◌+◌, ◌<◌, List, [], ◌∷◌, ◌++◌, length, slice_index, take, map, refl, ap, sym, ◌∙◌, arith, inl, inr}
use Rattle.std.specs.Prelude.{sum}
use Rattle.std.proofs.lemmas.List.{take-append-le}
use Rattle.std.proofs.lemmas.List.Sums.{sum_by_more_le}
use Rattle.std.proofs.lemmas.List.{get_or_append_left}
use Rattle.std.proofs.Math.Seq.{take-append_seam, get_or-append_seam}
use Rattle.std.proofs.lemmas.Bool.{cases_lt}
use Rattle.graph_model.specs.Keys.{rows_at}

-- what the tables before one, and that one, have is no more than what all have
pub one_within : (sizes : List ℕ) (t place : ℕ) → t < length sizes → place < slice_index sizes t → sum (take t sizes) + place < sum sizes
one_within sizes t place lt within = omega (arith, sum_by_more_le (λ x. x) sizes t 0 lt)

-- a table past the last has no place
pub table_within : (sizes : List ℕ) (t place : ℕ) → place < slice_index sizes t → t < length sizes
table_within [] t place within = absurd (omega arith)
table_within (x ∷ xs) zero place within = omega arith
table_within (x ∷ xs) (suc t) place within = omega (arith, table_within xs t place within)

-- the size of a table is how many rows it has
pub size_at : {R : Type 0} (tables : List (List R)) (t : ℕ) → slice_index (map length tables) t ≡ length (rows_at tables t)
size_at [] t = refl
size_at (x ∷ xs) zero = refl
size_at (x ∷ xs) (suc t) = size_at xs t

-- the sums so far, with one table more
module _ (sizes firsts : List ℕ) (size total : ℕ) (long : length firsts ≡ length sizes) (is : total ≡ sum sizes)
    (each : (t : ℕ) → t < length sizes → slice_index firsts t ≡ sum (take t sizes)) where
  earlier : (t : ℕ) → t < length sizes → slice_index (firsts ++ total ∷ []) t ≡ sum (take t (sizes ++ size ∷ []))
  earlier t lt =
      let within : t < length firsts = omega (arith, long) in
      let front : take t (sizes ++ size ∷ []) ≡ take t sizes = take-append-le t sizes (size ∷ []) (omega arith) in
      get_or_append_left firsts (total ∷ []) 0 t within ∙ each t lt ∙ ap sum (sym front)

  last : (t : ℕ) → t ≡ length sizes → slice_index (firsts ++ total ∷ []) t ≡ sum (take t (sizes ++ size ∷ []))
  last t q =
      let at : t ≡ length firsts = omega (arith, long) in
      let front : take t (sizes ++ size ∷ []) ≡ sizes = ap (λ n. take n (sizes ++ size ∷ [])) q ∙ take-append_seam sizes (size ∷ []) in
      ap (slice_index (firsts ++ total ∷ [])) at ∙ get_or-append_seam firsts total [] 0 ∙ is ∙ ap sum (sym front)

  pub firsts_more : (t : ℕ) → t < length sizes + 1 → slice_index (firsts ++ total ∷ []) t ≡ sum (take t (sizes ++ size ∷ []))
  firsts_more t lt =
      elim (cases_lt t (length sizes)) [
        | inl less ↦ earlier t less
        | inr ge ↦ last t (omega arith)
      ]
