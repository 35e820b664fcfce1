use Rattle.std.proofs.lemmas.List.{take_more}
use Rattle.algo_core.proofs.Peels.{lowering_then}
use Rattle.algo_core.proofs.wave.lower_each.Goals as goal

pub loop-w-preserved : goal.loop-w-preserved
loop-w-preserved c = rw (take_more c.args.listed.now c.loop-w.w-index 0 c.loop-w-test.true) (lowering_then c.args.level _ _ _ _ _ _ _ _ c.loop-w.invariant c.in_ok-lower_end.ensures)
