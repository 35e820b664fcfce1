use Rattle.algo_rank.proofs.Reaching.{one_label, labels_tell, label_own}
use Rattle.algo_rank.proofs.laws.strong_labels_tell_components.Goals as goal

pub returns : goal.returns
returns c = record { one = one_label; same = labels_tell; own = label_own }
