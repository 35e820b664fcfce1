use Rattle.std.proofs.Common.{◌≡◌, take, fold}
use Rattle.std.specs.Int.{int_max}
use Rattle.graph_mutate.proofs.undirect.greatest_of.Given as goal

abbrev pub invariant-loop-other : goal.invariant-loop-other
invariant-loop-other l = l.greatest ≡ fold int_max l.key (take l.other-index l.keys)
