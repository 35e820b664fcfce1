use Rattle.graph_slots.proofs.Kept.{fold_kept}
use Rattle.delta_fold.proofs.laws.untouched_slots_stay.Goals as goal

pub returns : goal.returns
returns c = λ changes x untouched. fold_kept c.args.graph.now changes x c.sound.ensures untouched
