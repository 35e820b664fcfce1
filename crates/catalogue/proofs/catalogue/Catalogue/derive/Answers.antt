use Rattle.std.proofs.Common.{refl, None, length}
use Rattle.std.proofs.lemmas.Result.{IfOk-weaker}
use Rattle.catalogue_state.specs.declared.ask.Ask.TheVariants.{Derive}
use Rattle.catalogue_state.specs.declared.reply.Reply.TheVariants.{Sid}
use Rattle.catalogue_state.specs.Step.{drawn, private_graph}
use Rattle.catalogue.specs.declared.arrivals.Coming.{Coming}
use Rattle.catalogue.proofs.Drawing.{drawn_served, refused_served}
use Rattle.catalogue.proofs.catalogue.Catalogue.derive.Goals as goal

pub returns-in_ok-held-in-Ok-clause-ok : goal.returns-in_ok-held-in-Ok-clause-ok
returns-in_ok-held-in-Ok-clause-ok c =
    let who = c.args.who in
    let name = c.args.name.now in
    let how = c.args.how.now in
    let h = c.in_ok-held-in-Ok.held in
    IfOk-weaker c.draw.result _ _
    (λ r told. drawn_served c.args.self.now who name None c.in-Ok.coming.snap _ c.in-Ok.ensures.may (Derive name c.args.base.now how) h c.draw.new.self r c.in_ok-held-in-Ok.ensures c.in-Ok.ensures.tests
    (λ s k. refl) told.0 told.1)
    c.draw.ensures.ok

pub returns-in-Err-clause-ok : goal.returns-in-Err-clause-ok
returns-in-Err-clause-ok c =
    let m = c.args.self.now in
    let who = c.args.who in
    let name = c.args.name.now in
    refused_served {X = Coming} m who (Derive name c.args.base.now c.args.how.now) (λ k. (Sid k.snap.sid, drawn m who (private_graph name None k.snap) (length k.new))) c.in-Err.fault c.refused.result (λ r. refl)
    c.in-Err.ensures.tests c.refused.ensures
