use Rattle.std.proofs.Common.{◌≡◌, ◌+◌, take}
use Rattle.std.specs.Prelude.{sum}
use Rattle.algo_digraph.proofs.order.VertexOrder.position.Given as goal

abbrev pub invariant-loop-size : goal.invariant-loop-size
invariant-loop-size l = record {
  table : l.table ≡ l.size-index;
  place : sum (take l.size-index l.size-items) + l.place ≡ l.index;
}
