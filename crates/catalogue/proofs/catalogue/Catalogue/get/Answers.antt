use Rattle.std.proofs.Common.{◌≡◌, ◌∙◌, ap, sym, subst, refl, None, Some}
use Rattle.std.proofs.lemmas.Result.{IfOk-weaker}
use Rattle.catalogue_state.specs.declared.ask.Ask.TheVariants.{Get}
use Rattle.catalogue_state.specs.State.{State, held_of}
use Rattle.catalogue_state.specs.Step.{with_session, hold_more}
use Rattle.catalogue_state.specs.declared.reply.Reply.TheVariants.{Sid}
use Rattle.catalogue_state.specs.declared.parts.Held.{Held}
use Rattle.catalogue_state.specs.Gift.{held_under}
use Rattle.catalogue.specs.Response.{IsServed}
use Rattle.catalogue.proofs.Drawing.{held_pinned, came_served, refused_served}
use Rattle.catalogue.proofs.catalogue.Catalogue.get.Goals as goal

pub returns-in-Ok-clause-ok : goal.returns-in-Ok-clause-ok
returns-in-Ok-clause-ok c =
    let m = c.args.self.now in
    let who = c.args.who in
    let name = c.args.name.now in
    let h = c.in-Ok.held in
    let may = c.in-Ok.ensures.may in
    let n = with_session m who (hold_more h) in
    let free : held_of may.session h.name ≡ None = ap (held_of may.session) may.named ∙ may.free in
    let has : held_under n who name ≡ Some h = ap (held_under n who) (sym may.named) ∙ held_pinned m who h may.session may.is free in
    IfOk-weaker c.hold_pin.result _ _
    (λ r told. subst (λ (x : State). IsServed m who (Get c.args.line.now name) x r) (sym told.1)
    (came_served m who (Get c.args.line.now name) name h n r c.in-Ok.ensures.tests has (λ s k. refl) told.0))
    c.hold_pin.ensures.ok

pub returns-in-Err-clause-ok : goal.returns-in-Err-clause-ok
returns-in-Err-clause-ok c =
    let m = c.args.self.now in
    let who = c.args.who in
    refused_served {X = Held} m who (Get c.args.line.now c.args.name.now) (λ h. (Sid h.snap.sid, with_session m who (hold_more h))) c.in-Err.fault c.refused.result (λ r. refl)
    c.in-Err.ensures.tests c.refused.ensures
