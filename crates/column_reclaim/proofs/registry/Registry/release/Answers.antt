use Rattle.std.proofs.Common.{◌<◌, arith, length}
use Rattle.column_reclaim.proofs.Changes.{used_more}
use Rattle.column_reclaim.proofs.registry.Registry.release.Goals as goal

pub lower-requires-clause-used : goal.lower-requires-clause-used
lower-requires-clause-used g c =
    let k = c.loop-id.id-index in
    let lt : k < length c.args.ids.now = omega (arith, c.loop-id-test.true, c.loop-id.auto.id-index-end) in
    rw c.loop-id.invariant.rows (used_more k 0 c.args.ids.now lt c.self.inside.rows.items (rw (← c.self.view_is) at c.requires.used))
