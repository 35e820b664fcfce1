use Rattle.std.proofs.Common.{◌≡◌, ◌<◌, ◌==◌, ◌∙◌, sym, ap, length, not, false, nat_lt, arith, w64, slice_get, Some}
use Rattle.std.proofs.lemmas.Bool.Decides.{nat_tests}
use Rattle.std.proofs.lemmas.Int.{to_z-of_z}
use Rattle.graph_schema.specs.Schema.{SchemaData}
use Rattle.graph_model.specs.Graph.{edge_props_at, edge_table_props, kinds_fit}
use Rattle.graph_model.proofs.Rows.{got}
use Rattle.graph_model.proofs.Zips.{passed_over}
use Rattle.graph_snap.proofs.Taken.{table_there}
use Rattle.changeset.proofs.overlay.Overlay.insert_edge_misfit.Goals as goal

pub returns : goal.returns
returns c =
    let g = c.args.base.now in
    let t = c.args.table in
    let vs = c.args.values.now in
    let shape = c.in-Some.shape.now in
    let edges = c.edges.ensures ∙ ap (λ (s : SchemaData). s.edges) c.schema.ensures in
    let there : slice_get g.schema.edges t ≡ Some shape = table_there g.schema.edges c.edges.result.now t shape edges c.in-Some.ensures.lookup.0 c.in-Some.ensures.lookup.1 in
    let props : edge_props_at g.schema t ≡ shape.props = ap edge_table_props there in
    let within : t < length g.schema.edges = (got g.schema.edges t shape shape there).0 in
    let table : not (nat_lt t (length g.schema.edges)) ≡ false = grind (arith, nat_tests, within) in
    let count : not (length vs == length (edge_props_at g.schema t)) ≡ false = grind (arith, nat_tests, ap length props) in
    let kinds : not (kinds_fit (edge_props_at g.schema t) vs) ≡ false = ap (λ p. not (kinds_fit p vs)) props ∙ ap not (sym c.values_have_kinds.ensures ∙ c.if-not-values_have_kinds.false) in
    let rest = rw (c.len-3.ensures, to_z-of_z w64 c.args.key c.ranges.key, to_z-of_z w64 c.args.source c.ranges.source, to_z-of_z w64 c.args.destination c.ranges.destination) at c.new_edge_misfit.ensures in
    passed_over _ _ _ _ table (passed_over _ _ _ _ count (passed_over _ _ _ _ kinds rest))
