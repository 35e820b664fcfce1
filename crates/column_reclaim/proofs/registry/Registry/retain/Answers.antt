use Rattle.std.proofs.Common.{◌<◌, arith, length}
use Rattle.column_reclaim.proofs.Changes.{room_more}
use Rattle.column_reclaim.proofs.registry.Registry.retain.Goals as goal

pub raise-requires-clause-room : goal.raise-requires-clause-room
raise-requires-clause-room g c =
    let k = c.loop-id.id-index in
    let lt : k < length c.args.ids.now = omega (arith, c.loop-id-test.true, c.loop-id.auto.id-index-end) in
    rw c.loop-id.invariant.rows (room_more _ k 0 c.args.ids.now lt c.self.inside.rows.items (rw (← c.self.view_is) at c.requires.room))
