use Rattle.std.proofs.Common.{◌≡◌, ◌++◌, map, drop}
use Rattle.actor_records.specs.Records.{parts_of}
use Rattle.actor_records.specs.Walk.{walk_from}
use Rattle.actor_records.proofs.walk.move_blocks.Given as goal

abbrev pub invariant-loop-entry : goal.invariant-loop-entry
invariant-loop-entry g l =
    l.out ++ walk_from (drop l.entry-index l.book) (parts_of (map (λ q. q.items) l.queues)) ≡ l.fn.out ++ walk_from l.fn.book (parts_of (map (λ q. q.items) l.fn.queues))
