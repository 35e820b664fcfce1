use Rattle.scatter_buf.proofs.Kept.{values_of_full}
use Rattle.scatter_buf.proofs.filled.Filled.new.Goals as goal

pub invariant_of-result : goal.invariant_of-result
invariant_of-result g c = (c.requires.heap, c.requires.size, values_of_full c.args.places.values c.requires.full)

pub returns : goal.returns
returns g c = values_of_full c.args.places.values c.requires.full
