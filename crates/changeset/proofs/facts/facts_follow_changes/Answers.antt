use Rattle.changeset.proofs.Following.{facts_follow}
use Rattle.changeset.proofs.facts.facts_follow_changes.Goals as goal

pub returns : goal.returns
returns c = λ change fits. facts_follow c.args.graph.now change c.sound.ensures fits
