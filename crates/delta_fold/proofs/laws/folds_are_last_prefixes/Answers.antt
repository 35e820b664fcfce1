use Rattle.delta_fold.proofs.Prefixes.{last_prefix, in_parts}
use Rattle.delta_fold.proofs.laws.folds_are_last_prefixes.Goals as goal

pub returns : goal.returns
returns c = record {
  last = last_prefix;
  parts = in_parts;
}
