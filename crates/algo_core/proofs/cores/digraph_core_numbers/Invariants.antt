use Rattle.std.proofs.Common.{◌≡◌, ℕ, ◌<◌, ◌≤◌, None, length}
use Rattle.std.specs.Prelude.{Contains}
use Rattle.algo_core.specs.Peeling.{core_of, IsPeeling}
use Rattle.algo_core.proofs.cores.digraph_core_numbers.Given as goal

abbrev pub invariant-levels : goal.invariant-levels
invariant-levels g l = record {
  peeling : IsPeeling l.digraph l.level l.cores l.ends;
  small : l.level ≤ 8388608;
  listed : (v : ℕ) → Contains l.left v → (v < l.digraph.vertices) × (core_of l.cores v ≡ None);
  has : (v : ℕ) → v < l.digraph.vertices → core_of l.cores v ≡ None → Contains l.left v;
}

abbrev pub decreases-levels : goal.decreases-levels
decreases-levels g l = length l.left
