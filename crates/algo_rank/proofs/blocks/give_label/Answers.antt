use Rattle.std.proofs.Common.{◌<◌, length, slice_index, subst, arith}
use Rattle.std.specs.Prelude.{Contains}
use Rattle.std.proofs.lemmas.List.{take_all}
use Rattle.std.proofs.lemmas.List.Elements.{Contains-get_or}
use Rattle.algo_rank.specs.Search.{IsLabelling}
use Rattle.algo_rank.proofs.Labelling.{labelling_none, labelling_more}
use Rattle.algo_rank.proofs.blocks.give_label.Goals as goal

pub loop-v-init : goal.loop-v-init
loop-v-init c = labelling_none c.args.label c.args.stages.now

pub set-requires : goal.set-requires
set-requires c = omega (arith, c.requires _ (Contains-get_or c.args.block.now c.loop-v.v-index 0 c.loop-v-test.true), c.loop-v.invariant.long)

pub loop-v-preserved : goal.loop-v-preserved
loop-v-preserved c =
    let block = c.args.block.now in
    let i = c.loop-v.v-index in
    let within : slice_index block i < length c.args.stages.now = c.requires _ (Contains-get_or block i 0 c.loop-v-test.true) in
    rw c.set.ensures (labelling_more block i c.args.label c.args.stages.now c.loop-v.stages c.loop-v-test.true c.loop-v.invariant within)

pub returns : goal.returns
returns c =
    subst (λ xs. IsLabelling (Contains xs) c.args.label c.args.stages.now c.loop-v.stages) (take_all c.loop-v.v-index c.args.block.now (omega (arith, c.loop-v-test.false))) c.loop-v.invariant
