use Rattle.delta_fold.proofs.Prefixes.{none_of, each_fits}
use Rattle.delta_fold.proofs.Following.{skipped_few}
use Rattle.delta_fold.proofs.laws.changes_that_fit_are_not_skipped.Goals as goal

pub returns : goal.returns
returns c = record {
  all_fit = none_of;
  none_skipped = each_fits;
  few = skipped_few;
}
