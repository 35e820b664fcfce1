use Rattle.std.proofs.Common.{◌∙◌, sym, arith}
use Rattle.std.proofs.lemmas.Bool.{false≢true}
use Rattle.algo_reach.proofs.Marking.{new_none, new_more, new_passed}
use Rattle.algo_reach.proofs.marks.newly_marked.Goals as goal
use Rattle.algo_reach.proofs.marks.newly_marked.Goals.{then-is_new+in_ok-push, else-is_new}

pub loop-v-init : goal.loop-v-init
loop-v-init c = rw c.new-found.ensures (new_none c.args.old.now c.args.new.now)

pub loop-v-preserved : goal.loop-v-preserved
loop-v-preserved c =
    let old = c.args.old.now in
    let new = c.args.new.now in
    let i = c.loop-v.v in
    elim c.if-is_new.branch [
      | then-is_new+in_ok-push w ↦
          rw (w.found-is, w.in_ok-push.ensures.ok)
          (new_more old new i c.loop-v.found (omega (arith, c.loop-v-test.true, c.requires.old)) (omega (arith, c.loop-v-test.true, c.requires.new)) c.loop-v.invariant (c.is_new.ensures.0 w.if-is_new.true))
      | else-is_new w ↦
          rw w.found-is
          (new_passed old new i c.loop-v.found (omega (arith, c.loop-v-test.true, c.requires.old)) (omega (arith, c.loop-v-test.true, c.requires.new)) (c.requires.kept i) c.loop-v.invariant (λ both. false≢true (sym w.if-is_new.false ∙ c.is_new.ensures.1 both)))
    ]

pub returns-clause-listed : goal.returns-clause-listed
returns-clause-listed c = λ v h. let l = c.loop-v.invariant.listed v h in (omega (arith, l.0, c.loop-v.auto.v-end, c.requires.old), l.1, l.2)
