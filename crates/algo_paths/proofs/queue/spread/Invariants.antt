use Rattle.std.proofs.Common.{◌≡◌, length, take}
use Rattle.algo_paths.specs.Queue.{entries, IsSpread}
use Rattle.algo_paths.proofs.queue.spread.Given as goal

abbrev pub invariant-loop-entry : goal.invariant-loop-entry
invariant-loop-entry l = record {
  len : length l.buckets ≡ length l.initial.buckets;
  spread : IsSpread l.best l.nearest (take l.entry-index l.bucket) (entries l.initial.buckets) (entries l.buckets) l.wave.items;
}
