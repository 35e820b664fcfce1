-- What `least_weights` answers.
use Rattle.std.specs.Prelude.{◌≡◌, ℕ, ℤ, ◌<◌, true, false, List, Option, Some, None, slice_get, slice_index_or}
use Rattle.graph_model.specs.declared.row.EdgeRow.{EdgeRow}
use Rattle.graph_model.specs.Graph.{GraphData, has_vertex, vertex_total}
use Rattle.graph_columns.specs.declared.position.VertexAt.{VertexAt}
use Rattle.graph_snap.specs.Reading.{vertex_keys_at, IsLeast}
use Rattle.algo_digraph.specs.DigraphOf.{all_edges, digraph_of, table_sizes, index_of}
use Rattle.algo_digraph.specs.Walks.{IsLeastWeight}
use Rattle.algo_paths.specs.declared.fault.PathFault.{PathFault}
use Rattle.algo_paths.specs.declared.fault.PathFault.TheVariants.{NoVertex, NoProp, BadWeight, NoMemory}
use Rattle.algo_paths.specs.Weights.{has_weight, edge_weight, AreWeights, IsFirstBad}

-- the edge of the key is the first without a weight
abbrev pub IsBadEdge : GraphData → List ℕ → ℤ → Type 0
IsBadEdge g name key = (p : ℕ × EdgeRow) × IsFirstBad (edge_weight name g) (all_edges g) p × (key ≡ p.1.key)

-- why there is no answer, in the order in which causes are looked for, with what was asked for; out of memory may come anywhere
abbrev pub IsCause : GraphData → ℤ → List ℕ → PathFault → Type 0
IsCause g from name (NoVertex key) = (has_vertex from g.vertices ≡ false) × (key ≡ from)
IsCause g from name (NoProp told) = (has_vertex from g.vertices ≡ true) × (has_weight name g.schema.edges ≡ false) × (told ≡ name)
IsCause g from name (BadWeight key) = (has_vertex from g.vertices ≡ true) × (has_weight name g.schema.edges ≡ true) × IsBadEdge g name key
IsCause g from name NoMemory = Unit {0}

-- the start is the vertex of least position that has the key, each edge has a weight, and each vertex has the least weight of
-- the walks to it
pub record IsAnswer (g : GraphData) (from : ℤ) (name : List ℕ) (found : List (Option ℤ)) : Type 0 where
  pub vertex : has_vertex from g.vertices ≡ true
  pub property : has_weight name g.schema.edges ≡ true
  pub at : VertexAt
  pub start : slice_get (vertex_keys_at g at.table) at.place ≡ Some from
  pub first : IsLeast (vertex_keys_at g) from at.table at.place
  pub weights : List ℕ
  pub are : AreWeights (edge_weight name g) (all_edges g) weights
  pub least : (v : ℕ) → v < vertex_total g → IsLeastWeight (digraph_of g) weights (index_of (table_sizes g) at) v (slice_index_or found v None)
