use Rattle.std.proofs.Common.{◌≡◌, ◌++◌, map}
use Rattle.std.specs.Prelude.{filter}
use Rattle.algo_core.specs.Peeling.{is_above}
use Rattle.algo_core.proofs.wave.add_sources.Given as goal

abbrev pub invariant-loop-arc : goal.invariant-loop-arc
invariant-loop-arc l = l.list ≡ l.initial.list ++ filter (is_above l.ends l.level) (map (λ a. a.vertex) l.yielded)
