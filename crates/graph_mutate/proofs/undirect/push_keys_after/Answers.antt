use Rattle.std.proofs.Common.{arith}
use Rattle.std.proofs.lemmas.Int.{ints}
use Rattle.graph_mutate.proofs.ReverseKeys.{keys_more}
use Rattle.graph_mutate.proofs.undirect.push_keys_after.Goals as goal

pub loop-i-preserved : goal.loop-i-preserved
loop-i-preserved c = keys_more c.args.keys.now c.loop-i.keys c.push.new.self _ _ c.loop-i.i c.loop-i.invariant c.in_ok-push.ensures.ok (omega (arith, ints))
