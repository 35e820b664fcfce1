-- Items at places.
use Rattle.std.specs.Prelude.{ℕ, List, slice_get}
use Rattle.std.specs.List.{filter_map}

-- the items of a list at these places, one after another
abbrev pub taken : {X : Type 0} → List X → List ℕ → List X
taken items places = filter_map (slice_get items) places
