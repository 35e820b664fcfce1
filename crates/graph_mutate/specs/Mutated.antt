-- What a change of a whole graph makes of it, which slots it keeps, and when it is refused.
use Rattle.std.specs.Prelude.{◌≡◌, ℕ, if◌then◌else◌, List, map, Option, Some, None, option_map, Result, Ok, Err}
use Rattle.graph_model.specs.Graph.{GraphData}
use Rattle.graph_slots.specs.declared.slot.SlotName.{SlotName}
use Rattle.graph_slots.specs.declared.slot.SlotName.TheVariants.{VertexKey, VertexProp, EdgeKey, Source, Destination, Out, Into, EdgeProp}
use Rattle.graph_slots.specs.Slots.{slots}
use Rattle.graph_slots.specs.Numbers.{slot_number}
use Rattle.graph_snap.specs.declared.built.Built.{Built}
use Rattle.graph_mutate.specs.declared.mutation.Mutation.{Mutation}
use Rattle.graph_mutate.specs.declared.mutation.Mutation.TheVariants.{Clone, Transpose, Undirect, Simplify, SortByDegree}
use Rattle.graph_mutate.specs.declared.mutation.MutateFault.{MutateFault}
use Rattle.graph_mutate.specs.declared.mutation.MutateFault.TheVariants.{MixedEnds, KeysSpent, TooBig, NoMemory}
use Rattle.graph_mutate.specs.Transposed.{transposed, turned_slot}
use Rattle.graph_mutate.specs.Simplified.{simplified}
use Rattle.graph_mutate.specs.Sorted.{sorted}
use Rattle.graph_mutate.specs.Undirected.{undirected, mixed_table, keys_are_spent, is_too_big}

-- the graph
abbrev pub mutated : Mutation → GraphData → GraphData
mutated Clone g = g
mutated Transpose g = transposed g
mutated Undirect g = undirected g
mutated Simplify g = simplified g
mutated SortByDegree g = sorted g

-- the first reason for which a graph is not made undirected
abbrev pub fault_unless_mixed : Option ℕ → GraphData → Option MutateFault
fault_unless_mixed (Some t) g = Some (MixedEnds t)
fault_unless_mixed None g = if keys_are_spent g then Some KeysSpent else if is_too_big g then Some TooBig else None

-- the first reason for which there is no changed graph
abbrev pub fault_of : Mutation → GraphData → Option MutateFault
fault_of Clone g = None
fault_of Transpose g = None
fault_of Undirect g = fault_unless_mixed (mixed_table g) g
fault_of Simplify g = None
fault_of SortByDegree g = None

-- a slot of a vertex table is kept, one of an edge table is not
abbrev pub of_vertex_table : SlotName → Option SlotName
of_vertex_table (VertexKey t) = Some (VertexKey t)
of_vertex_table (VertexProp t p) = Some (VertexProp t p)
of_vertex_table (EdgeKey t) = None
of_vertex_table (Source t) = None
of_vertex_table (Destination t) = None
of_vertex_table (Out t) = None
of_vertex_table (Into t) = None
of_vertex_table (EdgeProp t p) = None

-- the slot of the graph whose part a slot of the changed graph keeps, none where its part is new
abbrev pub kept_from : Mutation → SlotName → Option SlotName
kept_from Clone x = Some x
kept_from Transpose x = Some (turned_slot x)
kept_from Undirect x = of_vertex_table x
kept_from Simplify x = of_vertex_table x
kept_from SortByDegree x = None

-- for each slot of the changed graph the number of the slot that it keeps
abbrev pub kept_slots : Mutation → GraphData → List (Option ℕ)
kept_slots how g = map (λ x. option_map (slot_number g.schema) (kept_from how x)) (slots (mutated how g).schema)

-- the changed graph, which nothing refuses, with its kept slots
pub record IsMutated (how : Mutation) (g : GraphData) (built : Built) : Type 0 where
  pub allowed : fault_of how g ≡ None
  pub shot : built.shot ≡ mutated how g
  pub kept : built.kept ≡ kept_slots how g
  pub skipped : built.skipped ≡ 0

-- what is answered: the changed graph, else the first reason; memory may run out
abbrev pub Mutates : Mutation → GraphData → Result Built MutateFault → Type 0
Mutates how g (Ok built) = IsMutated how g built
Mutates how g (Err (MixedEnds t)) = fault_of how g ≡ Some (MixedEnds t)
Mutates how g (Err KeysSpent) = fault_of how g ≡ Some KeysSpent
Mutates how g (Err TooBig) = fault_of how g ≡ Some TooBig
Mutates how g (Err NoMemory) = Unit {0}
