-- Rows that stand one after another in one list, and the pairs of ends and places from which they are read off.
use Rattle.std.specs.Prelude.{ℕ, ◌+◌, ◌-◌, ◌*◌, ◌%◌, ◌<◌, ◌≤◌, List, [], ◌∷◌, length, map, take, drop, slice_index, count_by, nat_lt}
use Rattle.std.specs.List.{range_with_len}

-- the row that begins at one offset and ends at the next
abbrev pub row_between : List ℕ → List ℕ → ℕ → List ℕ
row_between offsets places i = take (slice_index offsets (i + 1) - slice_index offsets i) (drop (slice_index offsets i) places)

-- there is a row before each offset but the first
abbrev pub rows_between : List ℕ → List ℕ → List (List ℕ)
rows_between offsets places = map (row_between offsets places) (range_with_len 0 (length offsets - 1))

-- offsets rise, up to the number of places
abbrev pub AreOffsets : List ℕ → List ℕ → Type 0
AreOffsets offsets places =
    (i : ℕ) → i + 1 < length offsets → (slice_index offsets i ≤ slice_index offsets (i + 1)) × (slice_index offsets (i + 1) ≤ length places)

-- a pair is one number: an end in its upper half and a place in its lower half, so pairs are ordered by ends and then by places
abbrev pub half : ℕ
half = 4294967296

abbrev pub pair_of : ℕ → ℕ → ℕ
pair_of end place = end * half + place

abbrev pub place_in : ℕ → ℕ
place_in pair = pair % half

-- the pairs of ends and their places, counted from a first place
abbrev pub pairs_from : ℕ → List ℕ → List ℕ
pairs_from first [] = []
pairs_from first (e ∷ ends) = pair_of e first ∷ pairs_from (first + 1) ends

abbrev pub pairs_of : List ℕ → List ℕ
pairs_of ends = pairs_from 0 ends

-- how many pairs are below a row
abbrev pub pairs_below : List ℕ → ℕ → ℕ
pairs_below pairs i = count_by (λ pair. nat_lt pair (i * half)) pairs

-- where each of so many rows begins among sorted pairs, and where the last one ends
abbrev pub offsets_of : List ℕ → ℕ → List ℕ
offsets_of pairs rows = map (pairs_below pairs) (range_with_len 0 (rows + 1))
