use Rattle.std.proofs.Common.{◌∙◌, ◌+◌, ap, sym, subst, arith}
use Rattle.algo_digraph.proofs.Cells.{cells_long, cell_at}
use Rattle.algo_reach.specs.Marks.{mark_of, HasSource, IsPulled}
use Rattle.algo_reach.proofs.levels.distance_round.Goals as goal

pub returns-clause-each : goal.returns-clause-each
returns-clause-each g c = λ v lt.
    let cells = c.in_ok-cells.cells in
    let at = c.in_ok-cells.ensures.at v 0 (omega (arith, lt, c.vertex_count.ensures.count)) in
    let kept = cell_at cells v (omega (arith, lt, cells_long cells, c.in_ok-cells.ensures.len, c.vertex_count.ensures.count)) ∙ ap (λ marks. mark_of marks v) (sym c.from_cells.ensures) in
    subst (IsPulled (HasSource c.args.digraph.now c.args.distances.now c.args.level v) (c.args.level + 1) (mark_of c.args.distances.now v)) kept at
