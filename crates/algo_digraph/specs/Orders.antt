-- What an order of vertices keeps.
use Rattle.std.specs.Prelude.{◌≡◌, ℕ, ◌<◌, ◌≤◌, ◌^◌, List, length, sum, take, slice_index}

-- for each table how many vertices stand before it, and how many there are in all
pub record AreSums (sizes firsts : List ℕ) (total : ℕ) : Type 0 where
  pub long : length firsts ≡ length sizes
  pub short : length sizes < 2 ^ 32
  pub each : (t : ℕ) → t < length sizes → slice_index firsts t ≡ sum (take t sizes)
  pub all : total ≡ sum sizes
  pub few : total ≤ 1048576
