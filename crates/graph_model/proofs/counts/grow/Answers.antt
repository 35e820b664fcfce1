use Rattle.std.proofs.Common.{◌≡◌, ◌+◌, ◌≤◌, ◌∙◌, arith, ap, length, get_or, refl}
use Rattle.std.proofs.lemmas.List.{length_push}
use Rattle.graph_model.proofs.CountLists.{zero_more}
use Rattle.graph_model.proofs.counts.grow.Goals as goal

pub returns-in_err-push-clause-long : goal.returns-in_err-push-clause-long
returns-in_err-push-clause-long c = omega (arith, c.loop-i.invariant.long, ap length c.in_err-push.ensures.err)

pub returns-in_err-push-clause-each : goal.returns-in_err-push-clause-each
returns-in_err-push-clause-each c = λ i. ap (λ l. get_or l i 0) c.in_err-push.ensures.err ∙ c.loop-i.invariant.each i

pub loop-i-preserved : goal.loop-i-preserved
loop-i-preserved c =
    let l = c.loop-i in
    record {
      count = omega (arith, l.invariant.count, ap length c.in_ok-push.ensures.ok, length_push l.list 0);
      long = omega (arith, l.invariant.long, ap length c.in_ok-push.ensures.ok, length_push l.list 0);
      each = λ i. ap (λ x. get_or x i 0) c.in_ok-push.ensures.ok ∙ zero_more l.list i ∙ l.invariant.each i;
    }
