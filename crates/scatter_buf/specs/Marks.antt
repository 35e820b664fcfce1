-- One bit for each place: 64 a word, the lowest first.
use Rattle.std.specs.Prelude.{ℕ, ◌/◌, ◌%◌, ◌==◌, Bool, List, slice_index}
use Rattle.std.specs.Int.{bit_at}

-- whether a place is marked
abbrev pub is_marked : List ℕ → ℕ → Bool
is_marked words place = bit_at (slice_index words (place / 64)) (place % 64) == 1
