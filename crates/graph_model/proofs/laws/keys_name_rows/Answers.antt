use Rattle.std.proofs.Common.{subst}
use Rattle.graph_model.specs.Keys.{AreDistinct}
use Rattle.graph_model.specs.Graph.{vertex_key, edge_key}
use Rattle.graph_model.proofs.Distinct.{names_rows, names_rows_of_tables}
use Rattle.graph_model.proofs.laws.keys_name_rows.Goals as goal

pub returns-clause-vertices : goal.returns-clause-vertices
returns-clause-vertices c = λ g is whole. names_rows vertex_key g.vertices (subst (λ k. AreDistinct k vertex_key g.vertices) whole is.vertex_keys)

pub returns-clause-edges : goal.returns-clause-edges
returns-clause-edges c = λ g is whole. names_rows edge_key g.edges (subst (λ k. AreDistinct k edge_key g.edges) whole is.edge_keys)

pub returns-clause-vertices_of_tables : goal.returns-clause-vertices_of_tables
returns-clause-vertices_of_tables c = λ g is. names_rows_of_tables g.schema.keys vertex_key g.vertices is.vertex_keys

pub returns-clause-edges_of_tables : goal.returns-clause-edges_of_tables
returns-clause-edges_of_tables c = λ g is. names_rows_of_tables g.schema.keys edge_key g.edges is.edge_keys
