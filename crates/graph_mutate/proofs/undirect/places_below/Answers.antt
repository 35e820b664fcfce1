use Rattle.graph_mutate.proofs.EdgeTables.{range_more}
use Rattle.graph_mutate.proofs.undirect.places_below.Goals as goal

pub loop-place-preserved : goal.loop-place-preserved
loop-place-preserved c = range_more c.loop-place.place c.loop-place.places c.push.new.self c.loop-place.invariant c.in_ok-push.ensures.ok
