use Rattle.std.proofs.Common.{◌+◌, ◌≤◌, All, slice_index}
use Rattle.algo_paths.specs.Search.{IsRelaxing}
use Rattle.algo_paths.proofs.relax.relax_vertex.Given as goal

abbrev pub invariant-loop-arc : goal.invariant-loop-arc
invariant-loop-arc l = record {
  relaxing : IsRelaxing l.digraph l.weights l.v l.initial.best l.best l.initial.queue l.queue;
  sofar : All (λ a. slice_index l.best a.vertex ≤ l.own + slice_index l.weights a.edge) l.yielded;
}
