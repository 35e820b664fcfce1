use Rattle.std.proofs.Common.{◌≡◌, ◌≤◌, Some, length, slice_get, arith, ap, sym, ◌∙◌, rules}
use Rattle.graph_schema.specs.declared.schema.VertexTable.{VertexTable}
use Rattle.graph_schema.proofs.Sound.{few_vertex_props}
use Rattle.graph_model.specs.Graph.{vertex_table_props}
use Rattle.graph_snap.proofs.Taken.{table_there, table_past, few_at}
use Rattle.changeset.proofs.base.vertex_width.Goals as goal

pub overflow_cast-result : goal.overflow_cast-result
overflow_cast-result c =
    let s = c.args.schema.now in
    let there : slice_get s.vertices c.args.table ≡ Some c.in-Some.shape.now = table_there s.vertices c.vertices.result.now c.args.table c.in-Some.shape.now c.vertices.ensures c.in-Some.ensures.lookup.0 c.in-Some.ensures.lookup.1 in
    let few : length c.in-Some.shape.now.props ≤ 64 = few_at (λ (x : VertexTable). length x.props) s.vertices c.args.table c.in-Some.shape.now (few_vertex_props s c.sound.ensures) there in
    let small : c.len.result ≤ 64 = omega (arith, few, c.len.ensures) in
    search rules

pub returns-in-Some : goal.returns-in-Some
returns-in-Some c =
    let s = c.args.schema.now in
    let there : slice_get s.vertices c.args.table ≡ Some c.in-Some.shape.now = table_there s.vertices c.vertices.result.now c.args.table c.in-Some.shape.now c.vertices.ensures c.in-Some.ensures.lookup.0 c.in-Some.ensures.lookup.1 in
    c.len.ensures ∙ ap (λ o. length (vertex_table_props o)) (sym there)

pub returns-in-None : goal.returns-in-None
returns-in-None c = ap (λ o. length (vertex_table_props o)) (sym (table_past c.args.schema.now.vertices c.vertices.result.now c.args.table c.vertices.ensures c.in-None.ensures.lookup.0))
