-- What the callers of a catalogue hold.
use Rattle.std.specs.Prelude.{◌≡◌, ℕ, ◌<◌, List, [], length, slice_index_or}
use Rattle.catalogue_hall.specs.declared.held.Named.{Named}
use Rattle.catalogue_hall.specs.History.{History, held_by}

-- at the place of each caller stands what it holds
abbrev pub AreUpToDate : History → List (List Named) → Type 0
AreUpToDate h helds = (who : ℕ) → who < length helds → slice_index_or helds who [] ≡ held_by h who
