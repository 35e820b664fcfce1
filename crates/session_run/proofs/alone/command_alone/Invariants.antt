use Rattle.std.proofs.Common.{◌≡◌, ◌≤◌, ◌-◌, length}
use Rattle.session_run.specs.Turns.{at_place}
use Rattle.session_run.specs.Ran.{Going, OnlyOwn}
use Rattle.session_run.proofs.alone.command_alone.Given as goal

abbrev pub invariant-loop-replies : goal.invariant-loop-replies
invariant-loop-replies g l = record {
  who : l.actor.who ≡ l.fn.actor.who;
  going : Going l.fn.actor.who l.command l.replies (at_place l.fn.alone l.fn.place l.fn.actor) (at_place l.alone l.place l.actor);
  few : length l.replies ≤ 257;
  alone : OnlyOwn l.fn.actor.who (length l.replies) l.fn.alone l.alone;
}

abbrev pub decreases-loop-replies : goal.decreases-loop-replies
decreases-loop-replies g l = 257 - length l.replies
