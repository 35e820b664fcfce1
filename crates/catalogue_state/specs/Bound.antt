-- The state before any call, and how far the numbers may have come.
use Rattle.std.specs.Prelude.{◌*◌, ◌≤◌, List, [], length, map, count_by, Contains}
use Rattle.std.specs.Str.{bytes_eq}
use Rattle.graph_slots.specs.Slots.{slots}
use Rattle.catalogue_state.specs.declared.parts.SourceData.{SourceData}
use Rattle.catalogue_state.specs.declared.parts.Source.{Source}
use Rattle.catalogue_state.specs.State.{Name, State}

-- a source of which no change is to be seen, and the source alone
abbrev pub unfed : SourceData → Source
unfed d = record { «data» = d; visible = 0 }

abbrev pub data_of : Source → SourceData
data_of s = s.data

-- the state of these sources before any call
abbrev pub opened : List SourceData → State
opened sources = record { sources = map unfed sources; lines = []; sessions = []; next_sid = 1; next_column = 1 }

-- the state before any call from which a state comes
abbrev pub opening : State → State
opening m = opened (map data_of m.sources)

-- no two sources have the same name
abbrev pub NamesDiffer : List SourceData → Type 0
NamesDiffer sources = (n : Name) → count_by (λ d. bytes_eq d.name n) sources ≤ 1

-- opening graphs have at most 2,208 slots
abbrev pub HasSmall : State → Type 0
HasSmall m = (s : Source) → Contains m.sources s → length (slots s.data.opening.schema) ≤ 2208

-- there are numbers left for one more snapshot and its columns
pub record IsReady (m : State) : Type 0 where
  pub sids : m.next_sid ≤ 33554432
  pub columns : m.next_column ≤ 2208 * m.next_sid
