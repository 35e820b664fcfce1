use Rattle.graph_mutate.proofs.KeptSlots.{kept_once, kept_known, as_many_slots}
use Rattle.graph_mutate.proofs.laws.no_slot_is_kept_twice.Goals as goal

pub returns-clause-once : goal.returns-clause-once
returns-clause-once c = kept_once c.args.how c.args.graph.now

pub returns-clause-known : goal.returns-clause-known
returns-clause-known c = kept_known c.args.how c.args.graph.now

pub returns-clause-slots : goal.returns-clause-slots
returns-clause-slots c = as_many_slots c.args.how c.args.graph.now
