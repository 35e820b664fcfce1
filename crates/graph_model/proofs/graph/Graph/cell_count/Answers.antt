use Rattle.std.proofs.Common.{◌≡◌, ◌+◌, ◌≤◌, ◌∙◌, arith, sym, ap}
use Rattle.graph_model.specs.Graph.{cell_total, most_cells}
use Rattle.graph_model.specs.Stored.{live_cells}
use Rattle.graph_model.proofs.StoredRows.{cell_total_is}
use Rattle.graph_model.proofs.graph.Graph.cell_count.Goals as goal

pub count_cells-requires : goal.count_cells-requires
count_cells-requires c =
    let g = c.self.inside in
    rw c.as_slice.ensures (omega (arith, cell_total_is g.schema g.vertices g.edges g.ends c.self.invariant.stored.long, c.self.invariant.stored.graph.few_cells))

pub count_cells-requires-2 : goal.count_cells-requires-2
count_cells-requires-2 c =
    let g = c.self.inside in
    rw c.as_slice-2.ensures (omega (arith, cell_total_is g.schema g.vertices g.edges g.ends c.self.invariant.stored.long, c.self.invariant.stored.graph.few_cells))

pub overflow_add-result : goal.overflow_add-result
overflow_add-result c =
    let g = c.self.inside in
    let here = c.count_cells.ensures ∙ ap live_cells c.as_slice.ensures in
    let there = c.count_cells-2.ensures ∙ ap live_cells c.as_slice-2.ensures in
    omega (arith, here, there, cell_total_is g.schema g.vertices g.edges g.ends c.self.invariant.stored.long, c.self.invariant.stored.graph.few_cells)

pub returns : goal.returns
returns c =
    let g = c.self.inside in
    let here = c.count_cells.ensures ∙ ap live_cells c.as_slice.ensures in
    let there = c.count_cells-2.ensures ∙ ap live_cells c.as_slice-2.ensures in
    let sum : c.count_cells.result + c.count_cells-2.result ≡ live_cells g.vertices + live_cells g.edges = omega (arith, here, there) in
    let all = cell_total_is g.schema g.vertices g.edges g.ends c.self.invariant.stored.long in
    record {
      total = sum ∙ sym all ∙ ap cell_total c.self.view_is;
      few = omega (arith, sum, all, c.self.invariant.stored.graph.few_cells);
    }
