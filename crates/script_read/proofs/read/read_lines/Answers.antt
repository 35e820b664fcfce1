use Rattle.std.proofs.Common.{arith}
use Rattle.script_read.proofs.Steps.{goes_on, stops, ends}
use Rattle.script_read.proofs.read.read_lines.Goals as goal

pub returns-in-Err : goal.returns-in-Err
returns-in-Err c =
    let h = rw c.cleaned.ensures at c.in-Err.ensures in
    rw c.at_line.ensures (stops c.loop-rest.number c.in-Err.fault c.loop-rest.reading c.read_line.new.reading _ _ _ _ c.first_line.ensures.lines h c.loop-rest.invariant.so_far)

pub loop-rest-preserved : goal.loop-rest-preserved
loop-rest-preserved c =
    let h = rw c.cleaned.ensures at c.in-Ok.ensures in
    record {
      so_far = goes_on c.loop-rest.number c.loop-rest.reading c.read_line.new.reading _ _ _ _ c.first_line.ensures.lines h c.loop-rest.invariant.so_far;
      few = omega (arith, c.first_line.ensures.shorter, c.loop-rest.invariant.few);
    }

pub returns : goal.returns
returns c = ends c.loop-rest.number c.loop-rest.reading c.loop-rest.rest.now _ _ _ c.is_empty.ensures c.loop-rest-test.false c.finish.ensures c.loop-rest.invariant.so_far
