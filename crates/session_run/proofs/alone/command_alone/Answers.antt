use Rattle.std.specs.Prelude.{◌≡◌, ◌+◌, ◌++◌, ◌∷◌, [], ℕ, length, Some, None}
use Rattle.std.proofs.Common.{arith, sym, refl, subst, ◌∙◌, length-append}
use Rattle.session_run.specs.Next.{next_call}
use Rattle.session_run.specs.Turns.{at_place, CallEnds, CallStops}
use Rattle.session_run.specs.Ran.{OnlyOwn}
use Rattle.session_run.proofs.Nexts.{calls_are_few}
use Rattle.session_run.proofs.Runs.{going_start, going_answered, going_starved, going_ended, going_stopped, call_stopped, locally_stopped, ran_locally}
use Rattle.session_run.proofs.AloneCalls.{own_none, own_on, own_same, on_err}
use Rattle.session_run.proofs.alone.command_alone.Goals as goal

pub returns-then-is_local-clause-ran : goal.returns-then-is_local-clause-ran
returns-then-is_local-clause-ran g c = ran_locally c.args.actor.now.who c.args.command.now _ _ (sym c.if-is_local.ensures) c.requires.work c.in_ok-do_alone.ensures.ends

pub loop-replies-init : goal.loop-replies-init
loop-replies-init g c = rw (c.new-replies.ensures) (record {
  who = refl;
  going = going_start c.args.actor.now.who c.args.command.now _ (sym c.if-is_local.ensures) c.requires.work;
  few = omega arith;
  alone = own_none c.args.actor.now.who c.args.alone.now;
})

pub call_alone-requires-clause-calls : goal.call_alone-requires-clause-calls
call_alone-requires-clause-calls g c κs within =
    let due : next_call c.args.command.now c.loop-replies.actor.own c.loop-replies.replies ≡ Some c.in-Some.ask = rw (← c.as_slice.ensures, ← c.in_ok-ask.ensures) c.in-Some.is in
    let few = calls_are_few c.args.command.now.form c.loop-replies.actor.own c.loop-replies.replies c.in-Some.ask due in
    let grew = c.loop-replies.invariant.alone.few in
    let room = c.requires.calls in
    omega arith

pub loop-replies-smaller : goal.loop-replies-smaller
loop-replies-smaller g c =
    let due : next_call c.args.command.now c.loop-replies.actor.own c.loop-replies.replies ≡ Some c.in-Some.ask = rw (← c.as_slice.ensures, ← c.in_ok-ask.ensures) c.in-Some.is in
    let few = calls_are_few c.args.command.now.form c.loop-replies.actor.own c.loop-replies.replies c.in-Some.ask due in
    let more : length c.push.new.self ≡ length c.loop-replies.replies + 1 = rw (c.in_ok-push-in-Some-2.ensures.ok) (length-append c.loop-replies.replies _) in
    omega arith

pub loop-replies-preserved : goal.loop-replies-preserved
loop-replies-preserved g c =
    let due : next_call c.args.command.now c.loop-replies.actor.own c.loop-replies.replies ≡ Some c.in-Some.ask = rw (← c.as_slice.ensures, ← c.in_ok-ask.ensures) c.in-Some.is in
    let few = calls_are_few c.args.command.now.form c.loop-replies.actor.own c.loop-replies.replies c.in-Some.ask due in
    let same = c.loop-replies.invariant.who in
    let ends = subst (λ (who : ℕ). CallEnds (at_place c.loop-replies.alone c.loop-replies.place c.loop-replies.actor) who c.in-Some.ask c.in_ok-reply.field-0 (at_place c.call_alone.new.alone c.call_alone.new.place c.call_alone.new.actor)) same c.in_ok-reply.ensures.ends in
    let own = subst (λ (who : ℕ). OnlyOwn who 1 c.loop-replies.alone c.call_alone.new.alone) same c.call_alone.ensures.own in
    let more : length c.push.new.self ≡ length c.loop-replies.replies + 1 = rw (c.in_ok-push-in-Some-2.ensures.ok) (length-append c.loop-replies.replies _) in
    record {
      who = c.call_alone.ensures.who ∙ same;
      going = rw (c.in_ok-push-in-Some-2.ensures.ok)
          (going_answered c.args.actor.now.who c.args.command.now c.loop-replies.replies _ _ _ c.in-Some.ask c.in-Some-2.reply due c.in_ok-reply.field-0 c.in-Some-2.is ends c.loop-replies.invariant.going);
      few = omega arith;
      alone = own_on c.args.actor.now.who (length c.loop-replies.replies) 1 (length c.push.new.self) _ _ _ (omega arith) c.loop-replies.invariant.alone own;
    }

pub returns-in-None-clause-ran : goal.returns-in-None-clause-ran
returns-in-None-clause-ran g c =
    let due : next_call c.args.command.now c.loop-replies.actor.own c.loop-replies.replies ≡ Some c.in-Some.ask = rw (← c.as_slice.ensures, ← c.in_ok-ask.ensures) c.in-Some.is in
    let few = calls_are_few c.args.command.now.form c.loop-replies.actor.own c.loop-replies.replies c.in-Some.ask due in
    let same = c.loop-replies.invariant.who in
    let ends = subst (λ (who : ℕ). CallEnds (at_place c.loop-replies.alone c.loop-replies.place c.loop-replies.actor) who c.in-Some.ask c.in_ok-reply.field-0 (at_place c.call_alone.new.alone c.call_alone.new.place c.call_alone.new.actor)) same c.in_ok-reply.ensures.ends in
    going_starved c.args.actor.now.who c.args.command.now c.loop-replies.replies _ _ _ c.in-Some.ask few due c.in_ok-reply.field-0 c.in-None.is ends c.loop-replies.invariant.going

pub returns-in-None-clause-own : goal.returns-in-None-clause-own
returns-in-None-clause-own g c =
    let due : next_call c.args.command.now c.loop-replies.actor.own c.loop-replies.replies ≡ Some c.in-Some.ask = rw (← c.as_slice.ensures, ← c.in_ok-ask.ensures) c.in-Some.is in
    let few = calls_are_few c.args.command.now.form c.loop-replies.actor.own c.loop-replies.replies c.in-Some.ask due in
    let same = c.loop-replies.invariant.who in
    let own = subst (λ (who : ℕ). OnlyOwn who 1 c.loop-replies.alone c.call_alone.new.alone) same c.call_alone.ensures.own in
    own_on c.args.actor.now.who (length c.loop-replies.replies) 1 257 _ _ _ (omega arith) c.loop-replies.invariant.alone own

pub returns-clause-ran : goal.returns-clause-ran
returns-clause-ran g c =
    let ended : next_call c.args.command.now c.loop-replies.actor.own c.loop-replies.replies ≡ None = rw (← c.as_slice.ensures, ← c.in_ok-ask.ensures) c.in_default.is in
    going_ended c.args.actor.now.who c.args.command.now c.loop-replies.replies _ _ c.loop-replies.invariant.few ended c.loop-replies.invariant.going

pub returns-then-is_local-clause-own : goal.returns-then-is_local-clause-own
returns-then-is_local-clause-own g c = own_same c.args.actor.now.who 257 c.args.alone.now c.args.alone.now refl

pub returns-clause-own : goal.returns-clause-own
returns-clause-own g c =
    let few = c.loop-replies.invariant.few in
    own_on c.args.actor.now.who (length c.loop-replies.replies) 0 257 _ _ _ (omega arith) c.loop-replies.invariant.alone (own_none c.args.actor.now.who c.loop-replies.alone)

-- where memory ran out

pub returns-in_err-do_alone-clause-stopped : goal.returns-in_err-do_alone-clause-stopped
returns-in_err-do_alone-clause-stopped g c = on_err _ (locally_stopped c.args.actor.now.who c.args.command.now _ _ c.requires.work c.in_err-do_alone.ensures.stopped)

pub returns-in_err-ask-clause-stopped : goal.returns-in_err-ask-clause-stopped
returns-in_err-ask-clause-stopped g c =
    on_err _ (going_stopped c.args.actor.now.who c.args.command.now c.loop-replies.replies _ _ c.loop-replies.invariant.few c.loop-replies.invariant.going)

pub returns-in_err-reply-clause-stopped : goal.returns-in_err-reply-clause-stopped
returns-in_err-reply-clause-stopped g c =
    let due : next_call c.args.command.now c.loop-replies.actor.own c.loop-replies.replies ≡ Some c.in-Some.ask = rw (← c.as_slice.ensures, ← c.in_ok-ask.ensures) c.in-Some.is in
    let few = calls_are_few c.args.command.now.form c.loop-replies.actor.own c.loop-replies.replies c.in-Some.ask due in
    let same = c.loop-replies.invariant.who in
    let stops = subst (λ (who : ℕ). CallStops (at_place c.loop-replies.alone c.loop-replies.place c.loop-replies.actor) who c.in-Some.ask (at_place c.call_alone.new.alone c.call_alone.new.place c.call_alone.new.actor)) same c.in_err-reply.ensures.stopped in
    on_err _ (call_stopped c.args.actor.now.who c.args.command.now c.loop-replies.replies _ _ _ c.in-Some.ask few due stops c.loop-replies.invariant.going)

pub returns-in_err-reply-clause-own : goal.returns-in_err-reply-clause-own
returns-in_err-reply-clause-own g c =
    let due : next_call c.args.command.now c.loop-replies.actor.own c.loop-replies.replies ≡ Some c.in-Some.ask = rw (← c.as_slice.ensures, ← c.in_ok-ask.ensures) c.in-Some.is in
    let few = calls_are_few c.args.command.now.form c.loop-replies.actor.own c.loop-replies.replies c.in-Some.ask due in
    let same = c.loop-replies.invariant.who in
    let own = subst (λ (who : ℕ). OnlyOwn who 1 c.loop-replies.alone c.call_alone.new.alone) same c.call_alone.ensures.own in
    own_on c.args.actor.now.who (length c.loop-replies.replies) 1 257 _ _ _ (omega arith) c.loop-replies.invariant.alone own

pub returns-in_err-push-in-Some-2-clause-stopped : goal.returns-in_err-push-in-Some-2-clause-stopped
returns-in_err-push-in-Some-2-clause-stopped g c =
    let due : next_call c.args.command.now c.loop-replies.actor.own c.loop-replies.replies ≡ Some c.in-Some.ask = rw (← c.as_slice.ensures, ← c.in_ok-ask.ensures) c.in-Some.is in
    let few = calls_are_few c.args.command.now.form c.loop-replies.actor.own c.loop-replies.replies c.in-Some.ask due in
    let same = c.loop-replies.invariant.who in
    let ends = subst (λ (who : ℕ). CallEnds (at_place c.loop-replies.alone c.loop-replies.place c.loop-replies.actor) who c.in-Some.ask c.in_ok-reply.field-0 (at_place c.call_alone.new.alone c.call_alone.new.place c.call_alone.new.actor)) same c.in_ok-reply.ensures.ends in
    let more = length-append c.loop-replies.replies (c.in-Some-2.reply ∷ []) in
    on_err _ (going_stopped c.args.actor.now.who c.args.command.now (c.loop-replies.replies ++ c.in-Some-2.reply ∷ []) _ _ (omega arith)
    (going_answered c.args.actor.now.who c.args.command.now c.loop-replies.replies _ _ _ c.in-Some.ask c.in-Some-2.reply due c.in_ok-reply.field-0 c.in-Some-2.is ends c.loop-replies.invariant.going))

pub returns-in_err-push-in-Some-2-clause-own : goal.returns-in_err-push-in-Some-2-clause-own
returns-in_err-push-in-Some-2-clause-own g c =
    let due : next_call c.args.command.now c.loop-replies.actor.own c.loop-replies.replies ≡ Some c.in-Some.ask = rw (← c.as_slice.ensures, ← c.in_ok-ask.ensures) c.in-Some.is in
    let few = calls_are_few c.args.command.now.form c.loop-replies.actor.own c.loop-replies.replies c.in-Some.ask due in
    let same = c.loop-replies.invariant.who in
    let own = subst (λ (who : ℕ). OnlyOwn who 1 c.loop-replies.alone c.call_alone.new.alone) same c.call_alone.ensures.own in
    own_on c.args.actor.now.who (length c.loop-replies.replies) 1 257 _ _ _ (omega arith) c.loop-replies.invariant.alone own
