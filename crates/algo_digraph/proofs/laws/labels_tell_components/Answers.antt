use Rattle.algo_digraph.proofs.Meaning.{labels_tell}
use Rattle.algo_digraph.proofs.laws.labels_tell_components.Goals as goal

pub returns : goal.returns
returns c = labels_tell
