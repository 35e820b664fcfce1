use Rattle.std.proofs.Common.{drop}
use Rattle.algo_paths.specs.Search.{IsProgress}
use Rattle.algo_paths.proofs.relax.narrow_wave.Given as goal

abbrev pub invariant-loop-v : goal.invariant-loop-v
invariant-loop-v l = IsProgress l.digraph l.weights l.wave (drop l.v-index l.wave) l.initial.best l.best l.initial.queue l.queue
