use Rattle.std.proofs.Common.{◌≡◌, ◌*◌, ◌≤◌, length, slice_index}
use Rattle.std.specs.Prelude.{sum_by}
use Rattle.algo_rank.proofs.rounds.handed_on.Given as goal

abbrev pub invariant-loop-arc : goal.invariant-loop-arc
invariant-loop-arc l = record {
  sum : l.sum ≡ sum_by (λ a. slice_index l.shares a.vertex) l.yielded;
  few : l.sum ≤ length l.yielded * 4294967296;
}
