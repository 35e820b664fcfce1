use Rattle.std.proofs.Common.{◌≡◌, ◌∙◌, [], arith, sym, ap, subst, length, replicate}
use Rattle.graph_schema.proofs.Sound.{few_tables}
use Rattle.graph_model.specs.FromRows.{FitEach, vertex_put, edge_put, puts, made}
use Rattle.graph_model.proofs.Zips.{AllZip-length}
use Rattle.graph_model.proofs.Fitting.{graph_of}
use Rattle.graph_model.proofs.FromRows.{vertices_put, edges_put}
use Rattle.graph_model.proofs.graph.Graph.from_tables.Goals as goal

pub put_vertex_tables-requires-clause-few : goal.put_vertex_tables-requires-clause-few
put_vertex_tables-requires-clause-few c =
    let a = c.args in
    omega (arith, few_tables a.schema c.requires.schema, AllZip-length _ a.schema.vertices a.vertices c.requires.vertices)

pub put_vertex_tables-requires-clause-fit : goal.put_vertex_tables-requires-clause-fit
put_vertex_tables-requires-clause-fit c =
    let a = c.args in
    subst (λ g. FitEach g (puts vertex_put 0 a.vertices)) (sym c.in_ok-graph.ensures) (vertices_put a.schema a.vertices a.edges c.requires).0

pub put_edge_tables-requires-clause-few : goal.put_edge_tables-requires-clause-few
put_edge_tables-requires-clause-few c =
    let a = c.args in
    omega (arith, few_tables a.schema c.requires.schema, AllZip-length _ a.schema.edges a.edges c.requires.edges)

pub put_edge_tables-requires-clause-fit : goal.put_edge_tables-requires-clause-fit
put_edge_tables-requires-clause-fit c =
    let a = c.args in
    let vertices : c.put_vertex_tables.new.graph ≡ graph_of a.schema a.vertices (replicate (length a.schema.edges) []) =
    c.in_ok-put_vertex_tables.ensures ∙ ap (λ g. made g (puts vertex_put 0 a.vertices)) c.in_ok-graph.ensures ∙ (vertices_put a.schema a.vertices a.edges c.requires).1 in
    subst (λ g. FitEach g (puts edge_put 0 a.edges)) (sym vertices) (edges_put a.schema a.vertices a.edges c.requires).0

pub returns : goal.returns
returns c =
    let a = c.args in
    let vertices : c.put_vertex_tables.new.graph ≡ graph_of a.schema a.vertices (replicate (length a.schema.edges) []) =
    c.in_ok-put_vertex_tables.ensures ∙ ap (λ g. made g (puts vertex_put 0 a.vertices)) c.in_ok-graph.ensures ∙ (vertices_put a.schema a.vertices a.edges c.requires).1 in
    c.in_ok-put_edge_tables.ensures ∙ ap (λ g. made g (puts edge_put 0 a.edges)) vertices ∙ (edges_put a.schema a.vertices a.edges c.requires).1
