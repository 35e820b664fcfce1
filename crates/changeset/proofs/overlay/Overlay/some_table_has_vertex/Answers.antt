use Rattle.std.proofs.Common.{◌<◌, ◌∙◌, length, ap, sym, arith, w64}
use Rattle.std.proofs.lemmas.Int.{to_z-of_z}
use Rattle.graph_schema.specs.Schema.{SchemaData}
use Rattle.changeset.specs.Overlay.{told}
use Rattle.changeset.proofs.Ranges.{range_any, range_none}
use Rattle.changeset.proofs.overlay.Overlay.some_table_has_vertex.Goals as goal

pub returns-then-has_vertex : goal.returns-then-has_vertex
returns-then-has_vertex c =
    let t = c.loop-table.table in
    let known : t < length c.args.base.now.schema.vertices = omega (arith, c.loop-table-test.true, ap length c.vertices.ensures, ap (λ (s : SchemaData). length s.vertices) c.schema.ensures) in
    let here = rw (to_z-of_z w64 c.args.key c.ranges.key) at c.has_vertex.ensures in
    sym (range_any (λ u. ((told c.args.base.now c.args.self.now).vertex u c.args.key).there) (length c.args.base.now.schema.vertices) t known (sym here ∙ c.if-has_vertex.true))

pub loop-table-preserved : goal.loop-table-preserved
loop-table-preserved c = range_none _ c.loop-table.table c.loop-table.invariant (sym c.has_vertex.ensures ∙ c.if-has_vertex.false)
