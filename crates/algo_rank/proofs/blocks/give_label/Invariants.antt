use Rattle.std.proofs.Common.{take}
use Rattle.std.specs.Prelude.{Contains}
use Rattle.algo_rank.specs.Search.{IsLabelling}
use Rattle.algo_rank.proofs.blocks.give_label.Given as goal

abbrev pub invariant-loop-v : goal.invariant-loop-v
invariant-loop-v l = IsLabelling (Contains (take l.v-index l.block)) l.label l.initial.stages l.stages
