use Rattle.std.proofs.Common.{◌≤◌, length, subst, ap, ◌∙◌, arith, rules}
use Rattle.graph_schema.specs.Schema.{IsSchema}
use Rattle.graph_schema.specs.declared.schema.EdgeTable.{EdgeTable}
use Rattle.graph_schema.proofs.Sound.{few_edge_props}
use Rattle.graph_snap.proofs.Taken.{few_at}
use Rattle.graph_mutate.proofs.EdgeTables.{shape_there, edge_width}
use Rattle.graph_mutate.proofs.edge_slots.prop_count.Goals as goal

pub overflow_cast-result : goal.overflow_cast-result
overflow_cast-result c =
    let s = c.args.base.now.schema in
    let x = c.index-edges-table.result in
    let there = shape_there s.edges c.edges.result.now c.args.table x (c.edges.ensures ∙ ap (λ t. t.edges) c.schema-2.ensures) c.requires c.index-edges-table.is in
    let few = few_at (λ (x : EdgeTable). length x.props) s.edges c.args.table x (few_edge_props s (subst IsSchema c.schema.ensures c.sound.ensures)) there in
    let small : c.len.result ≤ 64 = omega (arith, few, c.len.ensures, ap (λ (x : EdgeTable). length x.props) c.index-edges-table.is) in
    search rules

pub returns-clause-value : goal.returns-clause-value
returns-clause-value c =
    let s = c.args.base.now.schema in
    let x = c.index-edges-table.result in
    let there = shape_there s.edges c.edges.result.now c.args.table x (c.edges.ensures ∙ ap (λ t. t.edges) c.schema-2.ensures) c.requires c.index-edges-table.is in
    omega (arith, edge_width s c.args.table x there, c.len.ensures, ap (λ (x : EdgeTable). length x.props) c.index-edges-table.is)

pub returns-clause-few : goal.returns-clause-few
returns-clause-few c =
    let s = c.args.base.now.schema in
    let x = c.index-edges-table.result in
    let there = shape_there s.edges c.edges.result.now c.args.table x (c.edges.ensures ∙ ap (λ t. t.edges) c.schema-2.ensures) c.requires c.index-edges-table.is in
    let few = few_at (λ (x : EdgeTable). length x.props) s.edges c.args.table x (few_edge_props s (subst IsSchema c.schema.ensures c.sound.ensures)) there in
    omega (arith, few, c.len.ensures, ap (λ (x : EdgeTable). length x.props) c.index-edges-table.is)
