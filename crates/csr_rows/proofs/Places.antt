-- the rows of a list of ends, one by one
use Rattle.std.proofs.Common.{◌≡◌, ℕ, ◌<◌, List, length, get_or, arith}
use Rattle.std.proofs.lemmas.List.FromFn.{length-map-range_with_len, get_or-map-range_with_len}
use Rattle.csr_rows.specs.Rows.{places_of, first_rows}

pub row_is : (n : ℕ) (ends : List ℕ) (k : ℕ) (d : List ℕ) → k < n → get_or (first_rows n ends) k d ≡ places_of ends k
row_is n ends k d h = get_or-map-range_with_len (places_of ends) 0 n k k d h (omega arith)

pub length-first_rows : (n : ℕ) (ends : List ℕ) → length (first_rows n ends) ≡ n
length-first_rows n ends = length-map-range_with_len (places_of ends) 0 n
