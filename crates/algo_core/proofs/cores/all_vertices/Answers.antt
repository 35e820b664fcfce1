use Rattle.std.proofs.Common.{◌∙◌, ◌++◌, ◌∷◌, [], ap, sym}
use Rattle.algo_core.proofs.Levels.{range_more}
use Rattle.algo_core.proofs.cores.all_vertices.Goals as goal

pub loop-v-preserved : goal.loop-v-preserved
loop-v-preserved c = c.in_ok-push.ensures.ok ∙ ap (λ l. l ++ c.loop-v.v ∷ []) c.loop-v.invariant ∙ sym (range_more c.loop-v.v)
