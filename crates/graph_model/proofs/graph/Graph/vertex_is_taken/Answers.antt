use Rattle.std.proofs.Common.{◌∙◌, sym, ap, FitsSigned, w64}
use Rattle.std.proofs.lemmas.Int.{to_z-of_z}
use Rattle.graph_model.specs.Keys.{is_taken}
use Rattle.graph_model.specs.Graph.{vertex_key}
use Rattle.graph_model.proofs.StoredRows.{vertex_taken_is}
use Rattle.graph_model.proofs.graph.Graph.vertex_is_taken.Goals as goal

pub returns : goal.returns
returns c =
    let g = c.self.inside in
    let fits : FitsSigned w64 c.args.key = c.ranges.key in
    let told = rw (to_z-of_z w64 c.args.key fits, c.as_slice.ensures, c.keys.ensures) at c.is_taken.ensures in
    told ∙ sym (vertex_taken_is g.schema g.vertices g.edges g.ends c.args.key c.args.table) ∙ ap (λ x. is_taken x.schema.keys vertex_key c.args.key x.vertices c.args.table) c.self.view_is
