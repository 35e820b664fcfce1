use Rattle.std.proofs.Common.{◌≡◌, ℕ, ◌<◌, length, map, take, slice_index}
use Rattle.std.specs.Prelude.{sum}
use Rattle.algo_digraph.proofs.order.VertexOrder.new.Given as goal

abbrev pub invariant-loop-table : goal.invariant-loop-table
invariant-loop-table l = record {
  sizes : l.sizes ≡ map length (take l.table l.on.vertices);
  count : length l.sizes ≡ l.table;
  long : length l.firsts ≡ length l.sizes;
  each : (t : ℕ) → t < length l.sizes → slice_index l.firsts t ≡ sum (take t l.sizes);
  total : l.total ≡ sum l.sizes;
}
