use Rattle.std.proofs.Common.{sym}
use Rattle.algo_paths.specs.Weights.{is_named}
use Rattle.algo_paths.proofs.Told.{place_missing}
use Rattle.algo_paths.proofs.weights.prop_place.Goals as goal

pub returns-in-None : goal.returns-in-None
returns-in-None c = place_missing (is_named c.args.name.now) c.args.props.now (sym c.in-None.ensures)
