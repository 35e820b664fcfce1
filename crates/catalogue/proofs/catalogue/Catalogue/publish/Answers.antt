use Rattle.std.proofs.Common.{refl}
use Rattle.catalogue_state.specs.declared.ask.Ask.TheVariants.{Publish}
use Rattle.catalogue_state.specs.declared.reply.Reply.TheVariants.{Sid}
use Rattle.catalogue_state.specs.declared.parts.Line.{Line}
use Rattle.catalogue_state.specs.declared.parts.Snap.{Snap}
use Rattle.catalogue_state.specs.Step.{published}
use Rattle.catalogue.proofs.Drawing.{refused_served}
use Rattle.catalogue.proofs.catalogue.Catalogue.publish.Goals as goal

pub returns-in-Err-clause-ok : goal.returns-in-Err-clause-ok
returns-in-Err-clause-ok c =
    let m = c.args.self.now in
    let who = c.args.who in
    let name = c.args.name.now in
    refused_served {X = Line × Snap} m who (Publish name c.args.line.now c.args.keep c.args.threshold) (λ p. (Sid p.1.sid, published m who name p.0)) c.in-Err.fault c.refused.result (λ r. refl)
    c.in-Err.ensures.tests c.refused.ensures
