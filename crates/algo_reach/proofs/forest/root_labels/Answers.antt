use Rattle.std.proofs.Common.{ap, length, arith}
use Rattle.std.proofs.lemmas.List.{length_push}
use Rattle.algo_reach.proofs.Forests.{labels_more}
use Rattle.algo_reach.proofs.forest.root_labels.Goals as goal

pub loop-v-preserved : goal.loop-v-preserved
loop-v-preserved c =
    let inv = c.loop-v.invariant in
    let up = rw c.as_slice.ensures at c.label_of-label.ensures.up in
    record {
      long = omega (arith, ap length c.in_ok-push.ensures.ok, length_push c.loop-v.labels c.label_of-label.result, inv.long);
      each = λ g root forest.
          labels_more c.args.parents.now c.loop-v.labels c.push.new.self c.loop-v.v c.label_of-label.result inv.long c.in_ok-push.ensures.ok c.label_of-label.ensures.own up g root forest c.loop-v-test.true
          (inv.each g root forest);
    }

pub returns-clause-each : goal.returns-clause-each
returns-clause-each c = λ g root forest v lt. c.loop-v.invariant.each g root forest v (omega (arith, lt, c.loop-v-test.false))
