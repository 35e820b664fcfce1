-- The names of actors.
use Rattle.std.specs.Prelude.{ℕ, ◌-◌, List, [], slice_get, unwrap_or}

-- the name of an actor, counted from 1; empty past the last
abbrev pub name_of : List (List ℕ) → ℕ → List ℕ
name_of names who = unwrap_or (slice_get names (who - 1)) []
