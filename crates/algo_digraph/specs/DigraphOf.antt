-- The digraph of a graph: its vertices in order of positions, its edges by tables and places.
use Rattle.std.specs.Prelude.{ℕ, ◌+◌, ◌<◌, ℤ, List, map, take, sum, length, flat_map, slice_index}
use Rattle.std.specs.List.{range_with_len}
use Rattle.graph_model.specs.declared.row.EdgeRow.{EdgeRow}
use Rattle.graph_model.specs.Keys.{rows_at}
use Rattle.graph_model.specs.Graph.{GraphData, vertex_total, source_at, destination_at}
use Rattle.graph_slots.specs.Meaning.{place_in}
use Rattle.graph_columns.specs.declared.position.VertexAt.{VertexAt}
use Rattle.algo_digraph.specs.Digraph.{Digraph}

-- how many vertices each table has
abbrev pub table_sizes : GraphData → List ℕ
table_sizes g = map length g.vertices

-- tables of these sizes have a vertex there
abbrev pub IsPosition : List ℕ → VertexAt → Type 0
IsPosition sizes at = at.place < slice_index sizes at.table

-- the index of a vertex counts the vertices of the tables before it, and those before it in its own table
abbrev pub index_in : List ℕ → ℕ → ℕ → ℕ
index_in sizes table place = sum (take table sizes) + place

abbrev pub index_of : List ℕ → VertexAt → ℕ
index_of sizes at = index_in sizes at.table at.place

-- the index of the vertex of a key in a table
abbrev pub index_of_key : GraphData → ℕ → ℤ → ℕ
index_of_key g t k = index_in (table_sizes g) t (place_in (rows_at g.vertices t) k)

-- the indexes of the vertices where an edge of a table starts and ends
abbrev pub ends_of : GraphData → ℕ → EdgeRow → ℕ × ℕ
ends_of g t r = (index_of_key g (source_at g.schema t) r.source, index_of_key g (destination_at g.schema t) r.destination)

-- the edges by tables and places, each with its table
unfoldable pub all_edges : GraphData → List (ℕ × EdgeRow)
all_edges g = flat_map (λ t. map (λ r. (t, r)) (rows_at g.edges t)) (range_with_len 0 (length g.edges))

abbrev pub digraph_edges : GraphData → List (ℕ × ℕ)
digraph_edges g = map (λ p. ends_of g p.0 p.1) (all_edges g)

-- the edges of one table
abbrev pub table_edges : GraphData → ℕ → List (ℕ × ℕ)
table_edges g t = map (ends_of g t) (rows_at g.edges t)

-- the digraph of a graph
abbrev pub digraph_of : GraphData → Digraph
digraph_of g = record { vertices = vertex_total g; edges = digraph_edges g }
