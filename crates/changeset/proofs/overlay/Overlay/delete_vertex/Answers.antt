use Rattle.std.proofs.Common.{◌∙◌, ap, false, length, arith, w64}
use Rattle.std.proofs.lemmas.Int.{to_z-of_z}
use Rattle.graph_schema.specs.Schema.{SchemaData}
use Rattle.graph_model.specs.Graph.{vertex_props_at}
use Rattle.changeset.specs.Overlay.{told}
use Rattle.changeset.proofs.Written.{renumbered, put_vertex}
use Rattle.changeset.proofs.overlay.Overlay.delete_vertex.Goals as goal

pub returns : goal.returns
returns c =
    let g = c.args.base.now in
    let read = rw (to_z-of_z w64 c.args.key c.ranges.key) at c.ends-ends.ensures in
    let wrote = rw (to_z-of_z w64 c.args.key c.ranges.key) at (c.in_ok-put_vertex.ensures g) in
    let put = put_vertex (told g c.args.self.now) (told g c.put_vertex.new.self) c.args.table c.args.key false c.ends-ends.result wrote read in
    let width = c.vertex_width-width.ensures ∙ ap (λ (s : SchemaData). length (vertex_props_at s c.args.table)) c.schema.ensures in
    renumbered _ _ _ _ _ _ _ _ put (omega (arith, c.saturating_sub-self.ensures, ap (λ f. f.vertices) put)) (ap (λ f. f.edges) put) (omega (arith, c.saturating_sub-self-2.ensures, ap (λ f. f.cells) put, width))
