-- What is derived from a graph, by a change of the whole or by a list of changes, and the columns that it keeps.
use Rattle.std.specs.Prelude.{◌≡◌, ℕ, suc, ◌+◌, List, [], ◌∷◌, fold, slice_get, slice_index_or, Option, Some, None, option_map, option_and_then}
use Rattle.graph_schema.specs.declared.schema.EdgeTable.{EdgeTable}
use Rattle.graph_schema.specs.Schema.{SchemaData}
use Rattle.graph_model.specs.declared.change.Change.{Change}
use Rattle.graph_model.specs.declared.change.Why.{Why}
use Rattle.graph_model.specs.Graph.{GraphData}
use Rattle.graph_model.specs.Change.{apply}
use Rattle.graph_slots.specs.declared.part.Part.{Part}
use Rattle.graph_slots.specs.Touched.{untouched_slots}
use Rattle.graph_snap.specs.declared.built.Built.{Built}
use Rattle.graph_snap.specs.Sharing.{IsBuiltOn}
use Rattle.changeset.specs.Misfit.{first_misfit}
use Rattle.graph_mutate.specs.declared.mutation.MutateFault.{MutateFault}
use Rattle.graph_mutate.specs.declared.mutation.MutateFault.TheVariants as fault
use Rattle.graph_mutate.specs.Mutated.{mutated, fault_of, kept_slots}
use Rattle.catalogue_state.specs.declared.ask.How.{How}
use Rattle.catalogue_state.specs.declared.ask.How.TheVariants.{Mutate, Changes}
use Rattle.catalogue_state.specs.declared.call.Made.{Made}
use Rattle.catalogue_state.specs.declared.call.Made.TheVariants.{Ready, Refused, Missing}
use Rattle.catalogue_state.specs.declared.reply.Refusal.{Refusal}
use Rattle.catalogue_state.specs.declared.reply.Refusal.TheVariants as refusal
use Rattle.catalogue_state.specs.State.{Name}

-- ---- the derived graph

-- the graph
abbrev pub derived_graph : How → GraphData → GraphData
derived_graph (Mutate how) g = mutated how g
derived_graph (Changes changes) g = fold apply g changes

-- for each slot of the derived graph the number of the slot that it keeps
abbrev pub kept_by : How → GraphData → List (Option ℕ)
kept_by (Mutate how) g = kept_slots how g
kept_by (Changes changes) g = untouched_slots g changes

-- ---- why there is none

-- the name of an edge table; no table has an empty name
abbrev pub name_of : Option EdgeTable → Name
name_of None = []
name_of (Some t) = t.name

-- the refusal that a fault is told as
abbrev pub refusal_of : SchemaData → MutateFault → Option Refusal
refusal_of s (fault.MixedEnds t) = Some (refusal.MixedEnds (name_of (slice_get s.edges t)))
refusal_of s fault.KeysSpent = Some refusal.KeysSpent
refusal_of s fault.TooBig = Some refusal.TooBig
refusal_of s fault.NoMemory = None

abbrev pub bad_change : ℕ × Why → Refusal
bad_change at = refusal.BadChange at.0 at.1

-- the first reason for which no graph is derived
abbrev pub why_not : How → GraphData → Option Refusal
why_not (Mutate how) g = option_and_then (refusal_of g.schema) (fault_of how g)
why_not (Changes changes) g = option_map bad_change (first_misfit g changes)

-- ---- the columns

-- the numbers of the columns of a derived snapshot, by those of its base: a slot that keeps one of the base's has its number, and the
-- others have new numbers, in order
abbrev pub numbers_by : List ℕ → ℕ → List (Option ℕ) → List ℕ
numbers_by old next [] = []
numbers_by old next (Some n ∷ kept) = slice_index_or old n 0 ∷ numbers_by old next kept
numbers_by old next (None ∷ kept) = next ∷ numbers_by old (next + 1) kept

-- the numbers that are the base's
abbrev pub numbers_kept : List ℕ → List (Option ℕ) → List ℕ
numbers_kept old [] = []
numbers_kept old (Some n ∷ kept) = slice_index_or old n 0 ∷ numbers_kept old kept
numbers_kept old (None ∷ kept) = numbers_kept old kept

-- how many slots are new, and what they hold
abbrev pub new_count : List (Option ℕ) → ℕ
new_count [] = 0
new_count (Some n ∷ kept) = new_count kept
new_count (None ∷ kept) = suc (new_count kept)

abbrev pub new_parts : List (Option ℕ) → List Part → List Part
new_parts [] parts = []
new_parts (Some n ∷ kept) [] = []
new_parts (None ∷ kept) [] = []
new_parts (Some n ∷ kept) (p ∷ parts) = new_parts kept parts
new_parts (None ∷ kept) (p ∷ parts) = p ∷ new_parts kept parts

-- ---- what is built beforehand

-- the derived graph, which nothing refuses, with its kept slots
pub record IsDerived (how : How) (g : GraphData) (built : Built) : Type 0 where
  pub allowed : why_not how g ≡ None
  pub shot : built.shot ≡ derived_graph how g
  pub kept : built.kept ≡ kept_by how g
  pub shares : IsBuiltOn g built

-- what was built from a graph: the derived graph, or why there is none
abbrev pub IsBuilt : How → GraphData → Made → Type 0
IsBuilt how g (Ready built) = IsDerived how g built
IsBuilt how g (Refused r) = why_not how g ≡ Some r
IsBuilt how g Missing = ⊥
