-- How many steps a changed graph takes.
use Rattle.std.specs.Prelude.{ℕ, Option, Some, None, sum_by}
use Rattle.graph_model.specs.Graph.{GraphData}
use Rattle.graph_slots.specs.declared.slot.SlotName.{SlotName}
use Rattle.graph_slots.specs.declared.slot.SlotName.TheVariants.{VertexKey, VertexProp, EdgeKey, Source, Destination, Out, Into, EdgeProp}
use Rattle.graph_slots.specs.Slots.{slots}
use Rattle.graph_columns.specs.SlotSteps.{slot_steps}
use Rattle.graph_mutate.specs.declared.mutation.Mutation.{Mutation}
use Rattle.graph_mutate.specs.declared.mutation.Mutation.TheVariants.{Clone, Transpose, Undirect, Simplify, SortByDegree}
use Rattle.graph_mutate.specs.Mutated.{mutated, kept_from}

-- one for each row of the slot's table where its part is new, none where it is kept
abbrev pub steps_unless_kept : GraphData → SlotName → Option SlotName → ℕ
steps_unless_kept g x None = slot_steps g x
steps_unless_kept g x (Some y) = 0

-- the keys and the values of edges, which no order of the vertices changes. Their parts are shared when vertices are sorted, though
-- their slots count as new
abbrev pub of_edges_alone : SlotName → Option SlotName
of_edges_alone (VertexKey t) = None
of_edges_alone (VertexProp t p) = None
of_edges_alone (EdgeKey t) = Some (EdgeKey t)
of_edges_alone (Source t) = None
of_edges_alone (Destination t) = None
of_edges_alone (Out t) = None
of_edges_alone (Into t) = None
of_edges_alone (EdgeProp t p) = Some (EdgeProp t p)

-- the slot of the graph whose part is shared
abbrev pub shared_from : Mutation → SlotName → Option SlotName
shared_from Clone x = kept_from Clone x
shared_from Transpose x = kept_from Transpose x
shared_from Undirect x = kept_from Undirect x
shared_from Simplify x = kept_from Simplify x
shared_from SortByDegree x = of_edges_alone x

-- those of all slots of the changed graph whose parts are not shared
abbrev pub new_steps : Mutation → GraphData → ℕ
new_steps how g = sum_by (λ x. steps_unless_kept (mutated how g) x (shared_from how x)) (slots g.schema)

-- one for each row of each slot that counts as new
abbrev pub most_steps : Mutation → GraphData → ℕ
most_steps how g = sum_by (λ x. steps_unless_kept (mutated how g) x (kept_from how x)) (slots g.schema)
