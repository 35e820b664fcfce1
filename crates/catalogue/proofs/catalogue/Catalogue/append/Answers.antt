use Rattle.std.proofs.Common.{refl, length}
use Rattle.catalogue_state.specs.declared.ask.Ask.TheVariants.{Append}
use Rattle.catalogue_state.specs.declared.reply.Reply.TheVariants.{Sid}
use Rattle.catalogue_state.specs.State.{Name}
use Rattle.catalogue_state.specs.Step.{appended}
use Rattle.catalogue.specs.declared.arrivals.Coming.{Coming}
use Rattle.catalogue.proofs.Drawing.{refused_served}
use Rattle.catalogue.proofs.catalogue.Catalogue.append.Goals as goal

pub returns-in-Err-clause-ok : goal.returns-in-Err-clause-ok
returns-in-Err-clause-ok c =
    let m = c.args.self.now in
    refused_served {X = Name × Coming} m c.args.who (Append c.args.name.now c.args.changes.now) (λ p. (Sid p.1.snap.sid, appended m p.0 p.1.snap (length p.1.new))) c.in-Err.fault c.refused.result (λ r. refl)
    c.in-Err.ensures.tests c.refused.ensures
