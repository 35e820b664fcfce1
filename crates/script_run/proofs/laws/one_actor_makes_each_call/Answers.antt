use Rattle.script_run.proofs.Running.{one_actor}
use Rattle.script_run.proofs.laws.one_actor_makes_each_call.Goals as goal

pub returns : goal.returns
returns c = one_actor
