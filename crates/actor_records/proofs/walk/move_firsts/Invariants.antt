use Rattle.std.proofs.Common.{◌≡◌, ◌++◌, map}
use Rattle.std.specs.List.{flat_map}
use Rattle.actor_records.specs.Walk.{locals, behind}
use Rattle.actor_records.proofs.walk.move_firsts.Given as goal

abbrev pub invariant-loop-list : goal.invariant-loop-list
invariant-loop-list g l = record {
  moved : l.out ≡ l.fn.out ++ flat_map locals l.yielded;
  left : map (λ q. q.items) l.queues.items ≡ map behind l.yielded;
}
