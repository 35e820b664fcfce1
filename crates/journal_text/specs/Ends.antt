-- The keys of the edges at a vertex. A vertex is told by its table and its key, since another table may have the same key.
use Rattle.std.specs.Prelude.{ℕ, ℤ, pos, Bool, ◌&&◌, ◌==◌, List, length, map, filter, slice_index_or}
use Rattle.std.specs.List.{flat_map, range_with_len}
use Rattle.std.specs.Ordering.{int_eq}
use Rattle.graph_schema.specs.Schema.{SchemaData}
use Rattle.graph_model.specs.declared.row.EdgeRow.{EdgeRow}
use Rattle.graph_model.specs.Keys.{rows_at}
use Rattle.graph_model.specs.Graph.{GraphData, edge_key, source_at, destination_at}

-- an edge of edge table e leaves the vertex of key k of vertex table t: the edges of its table start in t, and its source is k
abbrev pub leaves : SchemaData → ℕ → ℤ → ℕ → EdgeRow → Bool
leaves s t k e edge = source_at s e == t && int_eq edge.source k

-- it enters the vertex: the edges of its table end in t, and its destination is k
abbrev pub enters : SchemaData → ℕ → ℤ → ℕ → EdgeRow → Bool
enters s t k e edge = destination_at s e == t && int_eq edge.destination k

-- the keys of the edges of edge table e that leave the vertex, by their places
abbrev pub leaving_in : GraphData → ℕ → ℤ → ℕ → List ℤ
leaving_in g t k e = map edge_key (filter (leaves g.schema t k e) (rows_at g.edges e))

-- and of those that enter it
abbrev pub entering_in : GraphData → ℕ → ℤ → ℕ → List ℤ
entering_in g t k e = map edge_key (filter (enters g.schema t k e) (rows_at g.edges e))

-- the keys of all edges that leave the vertex, by their positions
abbrev pub leaving : GraphData → ℕ → ℤ → List ℤ
leaving g t k = flat_map (leaving_in g t k) (range_with_len 0 (length g.schema.edges))

-- and of those that enter it
abbrev pub entering : GraphData → ℕ → ℤ → List ℤ
entering g t k = flat_map (entering_in g t k) (range_with_len 0 (length g.schema.edges))

-- the edges of all tables, by positions
abbrev pub all_edges : GraphData → List EdgeRow
all_edges g = flat_map (λ rows. rows) g.edges

-- the keys at some places of a list of keys
abbrev pub keys_at : List ℤ → List ℕ → List ℤ
keys_at keys places = map (λ place. slice_index_or keys place (pos 0)) places
