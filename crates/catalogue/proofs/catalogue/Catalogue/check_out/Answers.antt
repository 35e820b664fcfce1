use Rattle.std.proofs.Common.{sym, subst, refl}
use Rattle.std.proofs.lemmas.Result.{IfOk-weaker}
use Rattle.catalogue_state.specs.declared.ask.Ask.TheVariants.{Checkout}
use Rattle.catalogue_state.specs.State.{State}
use Rattle.catalogue_state.specs.declared.reply.Reply.TheVariants.{Sid}
use Rattle.catalogue_state.specs.declared.parts.Snap.{Snap}
use Rattle.catalogue_state.specs.Step.{with_session, move_to, to_snap}
use Rattle.catalogue.specs.Response.{IsServed}
use Rattle.catalogue.proofs.Drawing.{held_moved, came_served, refused_served}
use Rattle.catalogue.proofs.catalogue.Catalogue.check_out.Goals as goal

pub returns-in-Ok-clause-ok : goal.returns-in-Ok-clause-ok
returns-in-Ok-clause-ok c =
    let m = c.args.self.now in
    let who = c.args.who in
    let name = c.args.name.now in
    let b = c.in-Ok.snap in
    let may = c.in-Ok.ensures.may in
    let ask = Checkout name c.args.target.now in
    let n = with_session m who (move_to name b) in
    IfOk-weaker c.move_pin.result _ _
    (λ r told. subst (λ (x : State). IsServed m who ask x r) (sym told.1)
    (came_served m who ask name (to_snap b may.graph) n r c.in-Ok.ensures.tests (held_moved m who name b may.session may.graph may.is may.has) (λ s k. refl) told.0))
    c.move_pin.ensures.ok

pub returns-in-Err-clause-ok : goal.returns-in-Err-clause-ok
returns-in-Err-clause-ok c =
    let m = c.args.self.now in
    let who = c.args.who in
    let name = c.args.name.now in
    refused_served {X = Snap} m who (Checkout name c.args.target.now) (λ b. (Sid b.sid, with_session m who (move_to name b))) c.in-Err.fault c.refused.result (λ r. refl)
    c.in-Err.ensures.tests c.refused.ensures
