use Rattle.std.proofs.Common.{inr, ◌≡◌, ◌++◌, ◌∷◌, [], ◌∙◌, sym, subst}
use Rattle.std.specs.Prelude.{Some}
use Rattle.turn_hall.specs.Replay.{entry}
use Rattle.actor_records.specs.declared.record.Did.TheVariants.{Core}
use Rattle.catalogue_state.specs.declared.reply.Reply.{Reply}
use Rattle.session_run.specs.Own.{own_told}
use Rattle.session_run.proofs.AloneCalls.{alone_answered, own_call, on_err}
use Rattle.session_run.proofs.alone.call_alone.Goals as goal

pub returns-in_ok-reply-in-Ok-clause-ends : goal.returns-in_ok-reply-in-Ok-clause-ends
returns-in_ok-reply-in-Ok-clause-ends g c =
    let reply = c.in_ok-reply-in-Ok.field-0 in
    let copied : reply ≡ c.in-Ok.told.reply = c.in_ok-reply-in-Ok.ensures in
    let own : c.told.new.self ≡ own_told c.args.actor.now.own c.args.ask reply = c.told.ensures ∙ cc (c.in_ok-kept.ensures, copied) in
    let records : c.push_reserved.new.self.items ≡ c.args.actor.now.records ++ record { number = Some c.in-Ok.told.number; after = 0; index = 0; who = c.args.actor.now.who; did = Core c.args.ask reply } ∷ []
    = cc (c.push_reserved.ensures.items, c.in_ok-room.ensures.items, c.in_ok-kept.ensures, copied) in
    let book = subst (λ (r : Reply). c.ask.new.self ≡ record { start = c.args.alone.now.start; book = c.args.alone.now.book ++ entry c.args.actor.now.who c.args.ask r ∷ [] }) (sym copied) c.in-Ok.ensures.book in
    alone_answered c.args.alone.now c.ask.new.self c.args.actor.now.held c.ask.new.held c.args.actor.now.own c.told.new.self c.args.place.now c.args.actor.now.records c.push_reserved.new.self.items c.args.actor.now.who c.args.ask reply c.in-Ok.told.number
    book c.in-Ok.ensures.held c.in-Ok.ensures.number own records

pub returns-in_ok-reply-in-Ok-clause-own : goal.returns-in_ok-reply-in-Ok-clause-own
returns-in_ok-reply-in-Ok-clause-own g c = own_call c.args.actor.now.who c.args.alone.now c.ask.new.self c.args.ask c.in-Ok.told.reply c.in-Ok.ensures.book

pub returns-in_err-reply-in-Ok-clause-stopped : goal.returns-in_err-reply-in-Ok-clause-stopped
returns-in_err-reply-in-Ok-clause-stopped g c =
    let reply = c.in-Ok.told.reply in
    let records : c.push_reserved.new.self.items ≡ c.args.actor.now.records ++ record { number = Some c.in-Ok.told.number; after = 0; index = 0; who = c.args.actor.now.who; did = Core c.args.ask reply } ∷ []
    = cc (c.push_reserved.ensures.items, c.in_ok-room.ensures.items, c.in_ok-kept.ensures) in
    let own : c.told.new.self ≡ own_told c.args.actor.now.own c.args.ask reply = c.told.ensures ∙ cc (c.in_ok-kept.ensures) in
    on_err _ (inr (
      reply,
      alone_answered c.args.alone.now c.ask.new.self c.args.actor.now.held c.ask.new.held c.args.actor.now.own c.told.new.self c.args.place.now c.args.actor.now.records c.push_reserved.new.self.items c.args.actor.now.who c.args.ask reply c.in-Ok.told.number
          c.in-Ok.ensures.book c.in-Ok.ensures.held c.in-Ok.ensures.number own records,
    ))

pub returns-in_err-reply-in-Ok-clause-own : goal.returns-in_err-reply-in-Ok-clause-own
returns-in_err-reply-in-Ok-clause-own g c = own_call c.args.actor.now.who c.args.alone.now c.ask.new.self c.args.ask c.in-Ok.told.reply c.in-Ok.ensures.book
