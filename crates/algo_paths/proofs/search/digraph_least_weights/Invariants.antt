use Rattle.std.proofs.Common.{◌+◌, ◌*◌, length}
use Rattle.std.specs.Prelude.{sum}
use Rattle.algo_paths.specs.Search.{IsSearch}
use Rattle.algo_paths.proofs.search.digraph_least_weights.Given as goal

abbrev pub invariant-waves : goal.invariant-waves
invariant-waves g l = IsSearch l.digraph l.weights l.from l.best l.queue

abbrev pub decreases-waves : goal.decreases-waves
decreases-waves g l = 2 * sum l.best + length l.queue
