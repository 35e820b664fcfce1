-- What of a graph tells whether a change fits, and what a change makes of it. It speaks of keys and numbers alone, so it can be
-- kept beside a graph that stays as it is.
use Rattle.std.specs.Prelude.{ℕ, ◌+◌, ◌-◌, ℤ, Bool, true, false, ◌&&◌, ◌||◌, ◌==◌, not, nat_lt, nat_eq, if◌then◌else◌, List, length, sum_by, find, Option, Some, None}
use Rattle.std.specs.List.{list_any, range_with_len, zip}
use Rattle.std.specs.Ordering.{int_eq}
use Rattle.graph_schema.specs.declared.schema.Keys.{Keys}
use Rattle.graph_schema.specs.declared.schema.Keys.TheVariants.{Whole, PerTable}
use Rattle.graph_schema.specs.declared.schema.EdgeTable.{EdgeTable}
use Rattle.graph_schema.specs.Schema.{SchemaData}
use Rattle.graph_model.specs.declared.row.EdgeRow.{EdgeRow}
use Rattle.graph_model.specs.declared.change.Change.{Change}
use Rattle.graph_model.specs.declared.change.Change.TheVariants.{InsertVertex, DeleteVertex, InsertEdge, DeleteEdge, SetVertex, SetEdge}
use Rattle.graph_model.specs.declared.change.Why.{Why}
use Rattle.graph_model.specs.declared.change.Why.TheVariants.{Table, Count, Prop as NoProp, Kind, KeyTaken, KeyMissing, EndMissing, HasEdges, Limit}
use Rattle.graph_model.specs.Keys.{rows_at}
use Rattle.graph_model.specs.Graph.{GraphData, vertex_props_at, edge_props_at, source_at, destination_at, has_vertex_in, kinds_fit, vertex_total, edge_total, cell_total, most_vertices, most_edges, most_cells}
use Rattle.graph_model.specs.Change.{kind_fits_at}
use Rattle.changeset.specs.declared.state.VertexState.{VertexState}
use Rattle.changeset.specs.declared.state.EdgeState.{EdgeState}
use Rattle.changeset.specs.declared.state.EdgeState.TheVariants.{Gone, There}

-- ---- the facts of a graph

abbrev pub one_if : Bool → ℕ
one_if b = if b then 1 else 0

-- how many of the two ends of an edge of a table stand at the vertex of key k of vertex table t
abbrev pub ends_there : ℕ → ℤ → EdgeTable → EdgeRow → ℕ
ends_there t k x r = one_if (x.source == t && int_eq r.source k) + one_if (x.destination == t && int_eq r.destination k)

-- how many ends of edges of all tables stand there
abbrev pub end_count : SchemaData → ℕ → ℤ → List (List EdgeRow) → ℕ
end_count s t k edges = sum_by (λ p. sum_by (ends_there t k p.0) p.1) (zip s.edges edges)

abbrev pub edge_state : Option EdgeRow → EdgeState
edge_state None = Gone
edge_state (Some r) = There r.source r.destination

-- for each vertex table and key whether the vertex is there and how many ends of edges stand at it; for each edge table and key
-- the ends of the edge, if it is there; and how many vertices, edges and values there are
pub record Facts : Type 0 where
  pub vertex : ℕ → ℤ → VertexState
  pub edge : ℕ → ℤ → EdgeState
  pub vertices : ℕ
  pub edges : ℕ
  pub cells : ℕ

abbrev pub vertex_fact : GraphData → ℕ → ℤ → VertexState
vertex_fact g t k = record { there = has_vertex_in k (rows_at g.vertices t); ends = end_count g.schema t k g.edges }

abbrev pub edge_fact : GraphData → ℕ → ℤ → EdgeState
edge_fact g t k = edge_state (find (λ r. int_eq r.key k) (rows_at g.edges t))

abbrev pub facts : GraphData → Facts
facts g = record { vertex = vertex_fact g; edge = edge_fact g; vertices = vertex_total g; edges = edge_total g; cells = cell_total g }

-- ---- whether a change fits

abbrev pub is_there : EdgeState → Bool
is_there Gone = false
is_there (There a b) = true

-- a key that no new row of table t can have, where `has` tells which of the n tables have it
abbrev pub taken_by : Keys → ℕ → (ℕ → Bool) → ℕ → Bool
taken_by Whole n has t = list_any has (range_with_len 0 n)
taken_by PerTable n has t = has t

-- the first cause for which a change does not fit, as `misfit` says of the graph
abbrev pub misfit_of : SchemaData → Facts → Change → Option Why
misfit_of s f (InsertVertex t k vs) =
    if not (nat_lt t (length s.vertices)) then Some Table
    else if not (length vs == length (vertex_props_at s t)) then Some Count
    else if not (kinds_fit (vertex_props_at s t) vs) then Some Kind
    else if taken_by s.keys (length s.vertices) (λ u. (f.vertex u k).there) t then Some KeyTaken
    else if nat_lt most_vertices (f.vertices + 1) || nat_lt most_cells (f.cells + length vs) then Some Limit
    else None
misfit_of s f (DeleteVertex t k) =
    if not (nat_lt t (length s.vertices)) then Some Table
    else if not (f.vertex t k).there then Some KeyMissing
    else if nat_lt 0 (f.vertex t k).ends then Some HasEdges
    else None
misfit_of s f (InsertEdge t k a b vs) =
    if not (nat_lt t (length s.edges)) then Some Table
    else if not (length vs == length (edge_props_at s t)) then Some Count
    else if not (kinds_fit (edge_props_at s t) vs) then Some Kind
    else if taken_by s.keys (length s.edges) (λ u. is_there (f.edge u k)) t then Some KeyTaken
    else if not (f.vertex (source_at s t) a).there || not (f.vertex (destination_at s t) b).there then Some EndMissing
    else if nat_lt most_edges (f.edges + 1) || nat_lt most_cells (f.cells + length vs) then Some Limit
    else None
misfit_of s f (DeleteEdge t k) =
    if not (nat_lt t (length s.edges)) then Some Table
    else if not (is_there (f.edge t k)) then Some KeyMissing
    else None
misfit_of s f (SetVertex t k p v) =
    if not (nat_lt t (length s.vertices)) then Some Table
    else if not (nat_lt p (length (vertex_props_at s t))) then Some NoProp
    else if not (kind_fits_at (vertex_props_at s t) p v) then Some Kind
    else if not (f.vertex t k).there then Some KeyMissing
    else None
misfit_of s f (SetEdge t k p v) =
    if not (nat_lt t (length s.edges)) then Some Table
    else if not (nat_lt p (length (edge_props_at s t))) then Some NoProp
    else if not (kind_fits_at (edge_props_at s t) p v) then Some Kind
    else if not (is_there (f.edge t k)) then Some KeyMissing
    else None

-- ---- what a change that fits makes of the facts

-- another answer about a key of a table
abbrev pub put : {X : Type 0} → (ℕ → ℤ → X) → ℕ → ℤ → X → ℕ → ℤ → X
put f t k x u q = if nat_eq t u && int_eq k q then x else f u q

abbrev pub more_ends : (ℕ → ℤ → VertexState) → ℕ → ℤ → ℕ → ℤ → VertexState
more_ends f t k = put f t k (record { there = (f t k).there; ends = (f t k).ends + 1 })

abbrev pub fewer_ends : (ℕ → ℤ → VertexState) → ℕ → ℤ → ℕ → ℤ → VertexState
fewer_ends f t k = put f t k (record { there = (f t k).there; ends = (f t k).ends - 1 })

-- an edge goes
abbrev pub edge_gone : SchemaData → Facts → ℕ → ℤ → EdgeState → Facts
edge_gone s f t k Gone = f
edge_gone s f t k (There a b) = record {
  vertex = fewer_ends (fewer_ends f.vertex (source_at s t) a) (destination_at s t) b;
  edge = put f.edge t k Gone;
  vertices = f.vertices;
  edges = f.edges - 1;
  cells = f.cells - length (edge_props_at s t);
}

abbrev pub noted : SchemaData → Facts → Change → Facts
noted s f (InsertVertex t k vs) = record {
  vertex = put f.vertex t k (record { there = true; ends = (f.vertex t k).ends });
  edge = f.edge;
  vertices = f.vertices + 1;
  edges = f.edges;
  cells = f.cells + length vs;
}
noted s f (DeleteVertex t k) = record {
  vertex = put f.vertex t k (record { there = false; ends = (f.vertex t k).ends });
  edge = f.edge;
  vertices = f.vertices - 1;
  edges = f.edges;
  cells = f.cells - length (vertex_props_at s t);
}
noted s f (InsertEdge t k a b vs) = record {
  vertex = more_ends (more_ends f.vertex (source_at s t) a) (destination_at s t) b;
  edge = put f.edge t k (There a b);
  vertices = f.vertices;
  edges = f.edges + 1;
  cells = f.cells + length vs;
}
noted s f (DeleteEdge t k) = edge_gone s f t k (f.edge t k)
noted s f (SetVertex t k p v) = f
noted s f (SetEdge t k p v) = f
