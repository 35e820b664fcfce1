use Rattle.std.proofs.Common.{◌≡◌, ◌*◌, take}
use Rattle.session_run.specs.Turns.{at_place, at_work}
use Rattle.session_run.specs.Ran.{Ran, OnlyOwn}
use Rattle.session_run.proofs.alone.run_alone.Given as goal

abbrev pub invariant-loop-command : goal.invariant-loop-command
invariant-loop-command g l = record {
  who : l.actor.who ≡ l.fn.actor.who;
  ran : Ran l.fn.actor.who (take l.command-index l.commands) (at_work l.fn.alone l.fn.actor) (at_place l.alone l.place l.actor);
  alone : OnlyOwn l.fn.actor.who (257 * l.command-index) l.fn.alone l.alone;
}
