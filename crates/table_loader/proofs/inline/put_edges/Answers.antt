use Rattle.std.proofs.Common.{◌+◌, refl}
use Rattle.table_loader.specs.Inline.{edge_line}
use Rattle.table_loader.proofs.Putting.{item_fits, item_stops, items_end}
use Rattle.table_loader.proofs.inline.put_edges.Goals as goal

pub returns-in-Err-clause-cause : goal.returns-in-Err-clause-cause
returns-in-Err-clause-cause c =
    rw c.fault_at.ensures
    (item_stops edge_line 1 (c.loop-place.place + 1) c.loop-place.graph _ c.args.edges.now c.loop-place.place _ _ c.in-Err.fault c.loop-place-test.true refl c.loop-place.invariant c.in-Err.ensures.cause)

pub loop-place-preserved : goal.loop-place-preserved
loop-place-preserved c =
    item_fits edge_line 1 (c.loop-place.place + 1) c.loop-place.graph c.put_edge.new.graph _ c.args.edges.now c.loop-place.place _ _ c.loop-place-test.true refl c.loop-place.invariant c.in_default.ensures.ok

pub returns-clause-ok : goal.returns-clause-ok
returns-clause-ok c = items_end edge_line 1 (c.loop-place.place + 1) c.loop-place.graph _ c.args.edges.now c.loop-place.place c.loop-place-test.false c.loop-place.invariant
