use Rattle.std.proofs.Common.{arith, ap, length}
use Rattle.algo_digraph.proofs.order.VertexOrder.position.Goals as goal

pub overflow_add-table : goal.overflow_add-table
overflow_add-table c = omega (arith, c.loop-size.invariant.table, c.loop-size-test.true, ap length c.as_slice-size-items.ensures, c.self.invariant.short)
