use Rattle.std.proofs.Common.{◌≡◌, ◌++◌, map, ◌-◌, ◌<◌, ◌⊎◌, inl, inr, length, arith}
use Rattle.actor_records.specs.Records.{parts_of}
use Rattle.actor_records.specs.Walk.{walk_from}
use Rattle.actor_records.proofs.Queues.{walk_on, walk_past}
use Rattle.actor_records.proofs.walk.move_blocks.Goals as goal
use Rattle.actor_records.proofs.walk.move_blocks.Goals.{then-who-gt0+then-who-queues+in_ok-move_block, else-who-gt0, else-who-gt0-via-then-who-gt0+else-who-queues, else-who-gt0-via-else-who-gt0}

pub loop-entry-preserved : goal.loop-entry-preserved
loop-entry-preserved g c =
    let book = c.args.book.now in
    let i = c.loop-entry.entry-index in
    let e = c.entry-item.result in
    let queues = c.loop-entry.queues in
    let out = c.loop-entry.out in
    let whole = c.args.out.now ++ walk_from book (parts_of (map (λ q. q.items) c.args.queues.now)) in
    elim c.if-who-gt0.branch [
      | then-who-gt0+then-who-queues+in_ok-move_block w ↦
          let some = w.if-who-gt0.true in
          let within = w.if-who-queues.true in
          let moved = w.in_ok-move_block.ensures in
          rw (w.queues-is, w.out-is)
          (walk_on (λ q. q.items) book i e (e.who - 1) queues w.index-queues-who.result w.move_block.new.queue out w.move_block.new.out whole
          c.loop-entry-test.true c.entry-item.is (omega arith) (omega arith) moved.moved moved.left c.loop-entry.invariant)
      | else-who-gt0 w ↦
          let not : (e.who ≡ 0) ⊎ (length queues < e.who)
          = elim w.else-who-gt0.branch [
            | else-who-gt0-via-then-who-gt0+else-who-queues x ↦ (let past = x.if-who-queues.false in inr (omega arith))
            | else-who-gt0-via-else-who-gt0 x ↦ (let none = x.if-who-gt0.false in inl (omega arith))
          ] in
          rw (w.queues-is, w.out-is) (walk_past (λ q. q.items) book i e queues out whole c.loop-entry-test.true c.entry-item.is not c.loop-entry.invariant)
    ]
