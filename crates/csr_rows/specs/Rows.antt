use Rattle.std.specs.Prelude.{ℕ, ◌+◌, ◌==◌, max, List, [], ◌∷◌, map, fold, if◌then◌else◌, slice_index_or}
use Rattle.std.specs.List.{range_with_len}

-- the places at which a list of ends has i, counted from a first place
abbrev pub places_from : ℕ → List ℕ → ℕ → List ℕ
places_from first [] i = []
places_from first (e ∷ ends) i = if e == i then first ∷ places_from (first + 1) ends i else places_from (first + 1) ends i

-- the places at which the end is i, in rising order
abbrev pub places_of : List ℕ → ℕ → List ℕ
places_of ends i = places_from 0 ends i

-- one more than the greatest end; 0 where there is no end
abbrev pub row_count : List ℕ → ℕ
row_count ends = fold (λ count e. max count (e + 1)) 0 ends

-- the first n rows: row i lists the places whose end is i
abbrev pub first_rows : ℕ → List ℕ → List (List ℕ)
first_rows n ends = map (places_of ends) (range_with_len 0 n)

-- the rows up to that of the greatest end
abbrev pub rows_of : List ℕ → List (List ℕ)
rows_of ends = first_rows (row_count ends) ends

-- a row, empty past the last
abbrev pub row_at : List (List ℕ) → ℕ → List ℕ
row_at rows i = slice_index_or rows i []
