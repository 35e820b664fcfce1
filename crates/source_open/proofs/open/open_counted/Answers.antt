use Rattle.std.proofs.Common.{arith}
use Rattle.source_open.proofs.Kept.{keeps_on, next_opened, next_named, next_inline}
use Rattle.source_open.proofs.open.open_counted.Goals as goal

pub loop-source-preserved : goal.loop-source-preserved
loop-source-preserved g c =
    let old = (g.L.Library.seen c.args.lib.now).files in
    let mid = (g.L.Library.seen c.loop-source.lib).files in
    record {
      due = rw c.in_ok-push.ensures.ok
          (next_opened c.args.sources.now c.loop-source.source-index c.source-item.result c.source-item.result c.loop-source-test.true c.source-item.is old mid c.loop-source.openings c.in_ok-opening.opening
          c.loop-source.invariant.same c.loop-source.invariant.due c.in_ok-opening.ensures.ok);
      names = rw c.in_ok-push.ensures.ok
          (next_named c.args.sources.now c.loop-source.source-index c.source-item.result c.source-item.result c.loop-source-test.true c.source-item.is c.loop-source.openings c.in_ok-opening.opening
          c.loop-source.invariant.names c.in_ok-opening.ensures.name);
      inline = rw c.in_ok-push.ensures.ok
          (next_inline c.args.sources.now c.loop-source.source-index c.source-item.result c.source-item.result c.loop-source-test.true c.source-item.is c.loop-source.openings c.in_ok-opening.opening
          c.loop-source.invariant.inline c.in_ok-opening.ensures.inline);
      same = keeps_on old mid (g.L.Library.seen c.open_source.new.lib).files c.loop-source.invariant.same c.open_source.ensures.same;
      later = omega arith;
    }
