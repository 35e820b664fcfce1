use Rattle.std.proofs.Common.{◌≡◌, ◌⊎◌, ℕ, ◌+◌, ◌≤◌, All, slice_index}
use Rattle.algo_digraph.specs.Digraph.{Goes}
use Rattle.algo_paths.proofs.round.next_best.Given as goal

abbrev pub invariant-loop-arc : goal.invariant-loop-arc
invariant-loop-arc l = record {
  own : l.least ≤ slice_index l.best l.v;
  sofar : All (λ a. l.least ≤ slice_index l.best a.vertex + slice_index l.weights a.edge) l.yielded;
  some : (l.least ≡ slice_index l.best l.v) ⊎ ((e : ℕ) × (u : ℕ) × Goes l.digraph e u l.v × (l.least ≡ slice_index l.best u + slice_index l.weights e));
}
