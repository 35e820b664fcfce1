use Rattle.std.proofs.Common.{◌≡◌, ℕ, ◌≤◌, length, get_or}
use Rattle.graph_model.proofs.counts.grow.Given as goal

abbrev pub invariant-loop-i : goal.invariant-loop-i
invariant-loop-i l = record {
  count : length l.list ≡ l._i;
  long : length l.fn.list ≤ length l.list;
  each : (i : ℕ) → get_or l.list i 0 ≡ get_or l.fn.list i 0;
}
