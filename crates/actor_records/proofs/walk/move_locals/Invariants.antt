use Rattle.std.proofs.Common.{◌≡◌, ◌++◌, length}
use Rattle.actor_records.specs.Walk.{locals, behind}
use Rattle.actor_records.proofs.walk.move_locals.Given as goal

abbrev pub invariant-loop-record : goal.invariant-loop-record
invariant-loop-record g l = record {
  moved : l.out ++ locals l.queue.items ≡ l.fn.out ++ locals l.fn.queue.items;
  left : behind l.queue.items ≡ behind l.fn.queue.items;
}

abbrev pub decreases-loop-record : goal.decreases-loop-record
decreases-loop-record g l = length l.queue.items
