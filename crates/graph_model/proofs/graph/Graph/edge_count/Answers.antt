use Rattle.std.proofs.Common.{◌≡◌, ◌∙◌, arith, sym, ap}
use Rattle.graph_model.specs.Graph.{edge_total}
use Rattle.graph_model.specs.Stored.{live_total}
use Rattle.graph_model.proofs.StoredRows.{edge_total_is}
use Rattle.graph_model.proofs.graph.Graph.edge_count.Goals as goal

pub count_rows-requires : goal.count_rows-requires
count_rows-requires c =
    let g = c.self.inside in
    rw c.as_slice.ensures (omega (arith, edge_total_is g.schema g.vertices g.edges g.ends c.self.invariant.stored.long, c.self.invariant.stored.graph.few_edges))

pub returns : goal.returns
returns c =
    let g = c.self.inside in
    let here = c.count_rows.ensures ∙ ap live_total c.as_slice.ensures in
    let all = edge_total_is g.schema g.vertices g.edges g.ends c.self.invariant.stored.long in
    record {
      total = here ∙ sym all ∙ ap edge_total c.self.view_is;
      few = omega (arith, here, all, c.self.invariant.stored.graph.few_edges);
    }
