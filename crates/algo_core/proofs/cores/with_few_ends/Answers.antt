use Rattle.std.proofs.lemmas.List.Elements.{Contains-get_or}
use Rattle.algo_core.proofs.cores.with_few_ends.Goals as goal

pub bounds-ends-v : goal.bounds-ends-v
bounds-ends-v c = c.requires _ (Contains-get_or c.args.left.now c.loop-v.v-index 0 c.loop-v-test.true)
