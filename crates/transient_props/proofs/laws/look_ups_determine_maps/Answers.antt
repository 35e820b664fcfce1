use Rattle.transient_props.proofs.Alike.{one_list}
use Rattle.transient_props.proofs.laws.look_ups_determine_maps.Goals as goal

pub returns : goal.returns
returns c = one_list c.args.one.now c.args.other.now c.props.ensures.rising c.props-2.ensures.rising
