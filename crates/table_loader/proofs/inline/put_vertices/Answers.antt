use Rattle.std.proofs.Common.{◌+◌, refl}
use Rattle.table_loader.specs.Inline.{vertex_line}
use Rattle.table_loader.proofs.Putting.{item_fits, item_stops, items_end}
use Rattle.table_loader.proofs.inline.put_vertices.Goals as goal

pub returns-in-Err-clause-cause : goal.returns-in-Err-clause-cause
returns-in-Err-clause-cause c =
    rw c.fault_at.ensures
    (item_stops vertex_line 0 (c.loop-place.place + 1) c.loop-place.graph _ c.args.keys.now c.loop-place.place _ _ c.in-Err.fault c.loop-place-test.true refl c.loop-place.invariant c.in-Err.ensures.cause)

pub loop-place-preserved : goal.loop-place-preserved
loop-place-preserved c =
    item_fits vertex_line 0 (c.loop-place.place + 1) c.loop-place.graph c.put_vertex.new.graph _ c.args.keys.now c.loop-place.place _ _ c.loop-place-test.true refl c.loop-place.invariant c.in_default.ensures.ok

pub returns-clause-ok : goal.returns-clause-ok
returns-clause-ok c = items_end vertex_line 0 (c.loop-place.place + 1) c.loop-place.graph _ c.args.keys.now c.loop-place.place c.loop-place-test.false c.loop-place.invariant
