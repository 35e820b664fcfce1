use Rattle.std.proofs.Common.{◌≤◌, length, arith, ap, ◌∙◌}
use Rattle.std.proofs.lemmas.List.{take_all}
use Rattle.graph_schema.specs.Schema.{SchemaData}
use Rattle.graph_model.specs.Keys.{row_total}
use Rattle.graph_model.proofs.Zips.{AllZip-length}
use Rattle.changeset.proofs.base.edge_total.Goals as goal

pub returns : goal.returns
returns c =
    let g = c.args.base.now in
    let all : length g.edges ≤ c.loop-table.table = omega (arith, c.loop-table-test.false, ap length c.edges.ensures, ap (λ (s : SchemaData). length s.edges) c.schema.ensures, AllZip-length _ _ _ c.sound.ensures.edges) in
    c.loop-table.invariant ∙ ap row_total (take_all c.loop-table.table g.edges all)
