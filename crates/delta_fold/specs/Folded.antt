-- The graph after a list of changes, and which slots of it are the base's.
use Rattle.std.specs.Prelude.{ℕ, Bool, true, false, List, map, fold, Option}
use Rattle.graph_model.specs.Graph.{GraphData}
use Rattle.graph_model.specs.declared.change.Change.{Change}
use Rattle.graph_model.specs.Change.{apply}
use Rattle.graph_slots.specs.declared.slot.SlotName.{SlotName}
use Rattle.graph_slots.specs.Slots.{slots}
use Rattle.graph_slots.specs.Numbers.{slot_number}
use Rattle.graph_slots.specs.Touched.{touched, untouched_slots}
use Rattle.graph_slots.specs.declared.part.Part.{Part}
use Rattle.graph_slots.specs.Meaning.{slot_value}
use Rattle.graph_snap.specs.declared.derived.Derived.{Derived}
use Rattle.graph_snap.specs.declared.derived.Derived.TheVariants.{Kept, New}

-- the graph after the changes, made one after the other. One that does not fit the graph after those before it changes nothing
abbrev pub folded : GraphData → List Change → GraphData
folded g changes = fold apply g changes

-- for each slot the number of the base's slot whose part it keeps: its own number. None where it is new, which is exactly where
-- a change that fits touches it
abbrev pub kept_slots : GraphData → List Change → List (Option ℕ)
kept_slots g changes = untouched_slots g changes

-- a new part where the slot is touched, and the base's part of a slot's number where it is not
abbrev pub derived_if : Bool → Part → ℕ → Derived
derived_if true part n = New part
derived_if false part n = Kept n

-- what a slot of the new snapshot gets: what it holds in the graph after the changes where it is touched, and the base's part of
-- the same number where it is not
abbrev pub folded_slot : GraphData → List Change → SlotName → Derived
folded_slot g changes x = derived_if (touched g changes x) (slot_value (folded g changes) x) (slot_number g.schema x)

-- what each slot gets, in slot order
abbrev pub folded_slots : GraphData → List Change → List Derived
folded_slots g changes = map (folded_slot g changes) (slots g.schema)
