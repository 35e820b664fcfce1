use Rattle.std.proofs.Common.{◌∙◌, ap, length, arith, w64, rules, FitsSigned}
use Rattle.std.proofs.lemmas.Int.{to_z-of_z}
use Rattle.graph_schema.specs.Schema.{SchemaData}
use Rattle.graph_model.specs.Graph.{source_at, destination_at, edge_props_at}
use Rattle.changeset.specs.declared.state.EdgeState.TheVariants.{Gone}
use Rattle.changeset.specs.Facts.{edge_gone}
use Rattle.changeset.specs.Overlay.{told}
use Rattle.changeset.proofs.Written.{renumbered, edge_goes}
use Rattle.changeset.proofs.overlay.Overlay.delete_edge.Goals as goal

pub returns : goal.returns
returns c =
    let g = c.args.base.now in
    let t = c.args.table in
    let a = c.in-There.source in
    let b = c.in-There.destination in
    let fits_a : FitsSigned w64 a = search rules in
    let fits_b : FitsSigned w64 b = search rules in
    let read = rw (to_z-of_z w64 c.args.key c.ranges.key) at c.in-There.ensures in
    let first = rw (to_z-of_z w64 a fits_a) at c.in_ok-lower.ensures in
    let second = rw (to_z-of_z w64 b fits_b) at c.in_ok-lower-2.ensures in
    let third = rw (to_z-of_z w64 c.args.key c.ranges.key) at (c.in_ok-put_edge.ensures g) in
    let all = edge_goes (told g c.args.self.now) (told g c.lower.new.self) (told g c.lower-2.new.self) (told g c.put_edge.new.self) c.source_table.result c.destination_table.result t (source_at g.schema t) (destination_at g.schema t)
    a b c.args.key Gone first second third c.source_table.ensures.value c.destination_table.ensures.value in
    let width = c.edge_width-width.ensures ∙ ap (λ (s : SchemaData). length (edge_props_at s t)) c.schema.ensures in
    renumbered _ _ _ _ _ _ _ _ all (ap (λ f. f.vertices) all) (omega (arith, c.saturating_sub-self.ensures, ap (λ f. f.edges) all)) (omega (arith, c.saturating_sub-self-2.ensures, ap (λ f. f.cells) all, width))
    ∙ ap (edge_gone g.schema (told g c.args.self.now) t c.args.key) read
