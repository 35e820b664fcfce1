use Rattle.std.proofs.Common.{arith, subst}
use Rattle.std.specs.Prelude.{Contains}
use Rattle.std.proofs.lemmas.List.{take_all}
use Rattle.std.proofs.lemmas.List.Elements.{Contains-get_or}
use Rattle.algo_core.specs.Peeling.{IsNumbering}
use Rattle.algo_core.proofs.Peels.{numbering_first, numbering_more}
use Rattle.algo_core.proofs.cores.number_all.Goals as goal

pub loop-v-init : goal.loop-v-init
loop-v-init c = numbering_first c.args.level c.args.queue.now c.args.cores.now

pub number_vertex-requires-clause-vertex : goal.number_vertex-requires-clause-vertex
number_vertex-requires-clause-vertex c = omega (arith, c.requires.within _ (Contains-get_or c.args.queue.now c.loop-v.v-index 0 c.loop-v-test.true), c.loop-v.invariant.long)

pub loop-v-preserved : goal.loop-v-preserved
loop-v-preserved c = numbering_more c.args.level c.args.queue.now c.loop-v.v-index _ _ _ c.loop-v-test.true c.loop-v.invariant c.number_vertex.ensures

pub returns : goal.returns
returns c = subst (λ xs. IsNumbering (Contains xs) c.args.level c.args.cores.now c.loop-v.cores) (take_all c.loop-v.v-index c.args.queue.now c.loop-v-test.false) c.loop-v.invariant
