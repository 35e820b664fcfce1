-- What the objects in memory are seen as.
use Rattle.std.specs.Prelude.{◌≡◌, ◌+◌, ◌-◌, ◌^◌, ◌<◌, ℕ, min, List, length}

-- one more, where a count stops at the last value of a u64: the number of the next call, or a count that rose
abbrev pub one_more : ℕ → ℕ
one_more n = min (n + 1) (2 ^ 64 - 1)

-- bytes that are left to read, and the most that one call gives
pub record Reader : Type 0 where
  pub rest : List ℕ
  pub piece : ℕ

-- the same with the numbers of the calls that fail, and the counts of calls made and failed
pub record FailingReader : Type 0 where
  pub rest : List ℕ
  pub piece : ℕ
  pub fails : List ℕ
  pub calls : ℕ
  pub faults : ℕ

-- files by name, with the same
pub record FailingFiles : Type 0 where
  pub files : List (List ℕ × List ℕ)
  pub fails : List ℕ
  pub calls : ℕ
  pub faults : ℕ

-- bytes that were taken, the most that are taken in all and by one call, with the same
pub record FailingWriter : Type 0 where
  pub bytes : List ℕ
  pub room : ℕ
  pub piece : ℕ
  pub fails : List ℕ
  pub calls : ℕ
  pub faults : ℕ

-- no room is left for a piece of so many bytes, which is not empty
abbrev pub IsFull : FailingWriter → ℕ → Type 0
IsFull w count = (length w.bytes ≡ w.room) × (0 < count)
