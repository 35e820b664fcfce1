-- the tables of a graph and their parts
use Rattle.std.proofs.Common.{◌≡◌, List, length, ap, ◌∙◌}
use Rattle.graph_schema.specs.declared.schema.VertexTable.{VertexTable}
use Rattle.graph_schema.specs.declared.schema.EdgeTable.{EdgeTable}
use Rattle.graph_schema.specs.Schema.{SchemaData}
use Rattle.graph_model.specs.Graph.{GraphData, IsGraph, AreVertices, AreEdges}
use Rattle.graph_model.proofs.Zips.{AllZip-length}

-- ---- how many tables there are

pub vertex_table_count : (g : GraphData) (s : SchemaData) (shapes : List VertexTable) → IsGraph g → s ≡ g.schema → shapes ≡ s.vertices → length shapes ≡ length g.vertices
vertex_table_count g s shapes is of_graph of_schema = ap length (of_schema ∙ ap (λ t. t.vertices) of_graph) ∙ AllZip-length AreVertices g.schema.vertices g.vertices is.vertices

pub edge_table_count : (g : GraphData) (s : SchemaData) (shapes : List EdgeTable) → IsGraph g → s ≡ g.schema → shapes ≡ s.edges → length shapes ≡ length g.edges
edge_table_count g s shapes is of_graph of_schema = ap length (of_schema ∙ ap (λ t. t.edges) of_graph) ∙ AllZip-length (AreEdges g.vertices) g.schema.edges g.edges is.edges
