use Rattle.std.proofs.Common.{ap, ◌∙◌, map}
use Rattle.actor_records.proofs.Queues.{walk_whole}
use Rattle.actor_records.proofs.walk.walk_records.Goals as goal

pub returns : goal.returns
returns g c =
    walk_whole (λ q. q.items) c.args.book.now c.args.records c.deref_mut.result.now c.new-out.result c.move_firsts.new.out c.move_blocks.new.out
    c.new-out.ensures c.in_ok-queues.ensures.moved (ap (map (λ q. q.items)) c.deref_mut.ensures.value ∙ c.in_ok-queues.ensures.left) c.in_ok-move_blocks.ensures
