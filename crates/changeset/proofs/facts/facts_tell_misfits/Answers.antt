use Rattle.changeset.proofs.Telling.{misfits_told}
use Rattle.changeset.proofs.facts.facts_tell_misfits.Goals as goal

pub returns : goal.returns
returns c = λ change. misfits_told c.args.graph.now change c.sound.ensures
