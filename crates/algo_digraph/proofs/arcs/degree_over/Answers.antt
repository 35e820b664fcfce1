use Rattle.std.proofs.Common.{arith}
use Rattle.algo_digraph.proofs.Sides.{row_counted}
use Rattle.algo_digraph.proofs.arcs.degree_over.Goals as goal

pub overflow_cast-count : goal.overflow_cast-count
overflow_cast-count c =
    omega (arith, c.requires, row_counted c.args.v c.args.sides.now c.loop-side.side-index c.side-item.result c.row.result.now c.loop-side-test.true c.side-item.is c.row.ensures)

pub overflow_add-count : goal.overflow_add-count
overflow_add-count c =
    omega (
      arith,
      c.requires,
      c.loop-side.invariant,
      row_counted c.args.v c.args.sides.now c.loop-side.side-index c.side-item.result c.row.result.now c.loop-side-test.true c.side-item.is c.row.ensures,
    )
