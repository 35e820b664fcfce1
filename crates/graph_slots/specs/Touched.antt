-- Which slots changes touch.
use Rattle.std.specs.Prelude.{ℕ, ◌+◌, Bool, true, false, ◌&&◌, ◌||◌, ◌==◌, List, [], ◌∷◌, map, Option, Some, None}
use Rattle.graph_schema.specs.Schema.{SchemaData}
use Rattle.graph_model.specs.Graph.{source_at, destination_at}
use Rattle.graph_model.specs.Graph.{GraphData}
use Rattle.graph_model.specs.declared.change.Change.{Change}
use Rattle.graph_model.specs.declared.change.Change.TheVariants.{InsertVertex, DeleteVertex, InsertEdge, DeleteEdge, SetVertex, SetEdge}
use Rattle.graph_model.specs.declared.change.Why.{Why}
use Rattle.graph_model.specs.Change.{misfit, apply}
use Rattle.graph_slots.specs.declared.slot.SlotName.{SlotName}
use Rattle.graph_slots.specs.Slots.{slots}
use Rattle.graph_slots.specs.Numbers.{slot_number}
use Rattle.graph_slots.specs.declared.slot.SlotName.TheVariants.{VertexKey, VertexProp, EdgeKey, Source, Destination, Out, Into, EdgeProp}

-- a slot of a vertex table
abbrev pub of_vertices : ℕ → SlotName → Bool
of_vertices t (VertexKey u) = u == t
of_vertices t (VertexProp u p) = u == t
of_vertices t x = false

-- a slot that tells where edges start or end, in a vertex table
abbrev pub ends_in : SchemaData → ℕ → SlotName → Bool
ends_in s t (Source u) = source_at s u == t
ends_in s t (Out u) = source_at s u == t
ends_in s t (Destination u) = destination_at s u == t
ends_in s t (Into u) = destination_at s u == t
ends_in s t x = false

-- a slot of an edge table
abbrev pub of_edges : ℕ → SlotName → Bool
of_edges t (EdgeKey u) = u == t
of_edges t (Source u) = u == t
of_edges t (Destination u) = u == t
of_edges t (Out u) = u == t
of_edges t (Into u) = u == t
of_edges t (EdgeProp u p) = u == t
of_edges t x = false

-- the slot of a property of a vertex table, or of an edge table
abbrev pub is_vertex_prop : ℕ → ℕ → SlotName → Bool
is_vertex_prop t p (VertexProp u q) = u == t && q == p
is_vertex_prop t p x = false

abbrev pub is_edge_prop : ℕ → ℕ → SlotName → Bool
is_edge_prop t p (EdgeProp u q) = u == t && q == p
is_edge_prop t p x = false

-- the slots that a change touches where it fits: of its table where a row comes or goes, also those that tell where edges
-- start or end in its table where a vertex goes, and the slot of its property where a value is set
abbrev pub touches : SchemaData → Change → SlotName → Bool
touches s (InsertVertex t k vs) x = of_vertices t x
touches s (DeleteVertex t k) x = of_vertices t x || ends_in s t x
touches s (InsertEdge t k f d vs) x = of_edges t x
touches s (DeleteEdge t k) x = of_edges t x
touches s (SetVertex t k p v) x = is_vertex_prop t p x
touches s (SetEdge t k p v) x = is_edge_prop t p x

-- a change that does not fit touches nothing
abbrev pub touches_unless : Option Why → SchemaData → Change → SlotName → Bool
touches_unless (Some why) s c x = false
touches_unless None s c x = touches s c x

-- the slots that some change of a list touches, of those that fit the graph after the changes before them
abbrev pub touched : GraphData → List Change → SlotName → Bool
touched g [] x = false
touched g (c ∷ cs) x = touches_unless (misfit g c) g.schema c x || touched (apply g c) cs x

-- the number of a slot that stays as it is; none where it is touched
abbrev pub number_unless : Bool → SchemaData → SlotName → Option ℕ
number_unless true s x = None
number_unless false s x = Some (slot_number s x)

-- for each slot after some changes the slot before them that it keeps, that of the same number; none where a change touches it
abbrev pub untouched_slots : GraphData → List Change → List (Option ℕ)
untouched_slots g changes = map (λ x. number_unless (touched g changes x) g.schema x) (slots g.schema)

-- a change that does not fit counts as skipped
abbrev pub skips : Option Why → ℕ
skips (Some why) = 1
skips None = 0

-- how many changes of a list do not fit
abbrev pub skipped : GraphData → List Change → ℕ
skipped g [] = 0
skipped g (c ∷ cs) = skips (misfit g c) + skipped (apply g c) cs
