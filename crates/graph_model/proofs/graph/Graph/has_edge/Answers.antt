use Rattle.std.proofs.Common.{◌∙◌, sym, ap, FitsSigned, w64}
use Rattle.std.proofs.lemmas.Int.{to_z-of_z}
use Rattle.graph_model.specs.Keys.{rows_at}
use Rattle.graph_model.specs.Graph.{has_edge_in}
use Rattle.graph_model.proofs.StoredRows.{has_edge_is}
use Rattle.graph_model.proofs.graph.Graph.has_edge.Goals as goal

pub returns : goal.returns
returns c =
    let g = c.self.inside in
    let fits : FitsSigned w64 c.args.key = c.ranges.key in
    let told = rw (to_z-of_z w64 c.args.key fits, c.as_slice.ensures) at c.has_key.ensures in
    told ∙ sym (has_edge_is g.schema g.vertices g.edges g.ends c.self.invariant.stored.long c.args.table c.args.key) ∙ ap (λ x. has_edge_in c.args.key (rows_at x.edges c.args.table)) c.self.view_is
