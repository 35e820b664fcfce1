use Rattle.std.proofs.Common.{◌≡◌, ◌∙◌, ap, refl, sym, subst, Some, [], length}
use Rattle.std.specs.List.{range_with_len}
use Rattle.std.proofs.lemmas.Result.{IfOk-weaker}
use Rattle.catalogue_state.specs.declared.ask.Ask.TheVariants.{Place}
use Rattle.catalogue_state.specs.declared.reply.Reply.TheVariants.{Sid}
use Rattle.catalogue_state.specs.declared.parts.Snap.{Snap}
use Rattle.catalogue_state.specs.declared.parts.Held.{Held}
use Rattle.catalogue_state.specs.State.{roots}
use Rattle.catalogue.specs.Kept.{MayHold}
use Rattle.catalogue.specs.Registry.{Comes}
use Rattle.catalogue_state.specs.Step.{drawn, private_graph}
use Rattle.catalogue.proofs.Drawing.{drawn_served, refused_served}
use Rattle.catalogue.proofs.Coming.{all_new, parts_count}
use Rattle.catalogue.proofs.catalogue.Catalogue.place.Goals as goal

pub draw-requires-clause-may : goal.draw-requires-clause-may
draw-requires-clause-may c =
    let who = c.args.who in
    let m = c.args.self.now in
    let new = c.in_ok-new-in-Ok.new in
    let may = c.in-Ok.ensures.may in
    let count : length new ≡ length c.in-Ok.snap.columns = parts_count _ c.in-Ok.snap new may.numbered c.in_ok-new-in-Ok.ensures in
    subst (λ (h : Held). MayHold m who h.name h.snap (length new)) (sym c.in_ok-held-in-Ok.ensures) (subst (λ n. MayHold m who c.args.name.now c.in-Ok.snap n) (sym count) may)

pub draw-requires-clause-comes : goal.draw-requires-clause-comes
draw-requires-clause-comes c =
    let m = c.args.self.now in
    let new = c.in_ok-new-in-Ok.new in
    let s = c.in-Ok.snap in
    let count : length new ≡ length s.columns = parts_count _ s new c.in-Ok.ensures.may.numbered c.in_ok-new-in-Ok.ensures in
    let columns : s.columns ≡ range_with_len m.next_column (length new) = c.in-Ok.ensures.new ∙ ap (range_with_len m.next_column) (sym count) in
    subst (λ (h : Held). Comes (roots m) m.next_column h.snap [] new) (sym c.in_ok-held-in-Ok.ensures) (all_new (roots m) m.next_column s new columns c.in_ok-new-in-Ok.ensures)

pub returns-in_ok-held-in-Ok-clause-ok : goal.returns-in_ok-held-in-Ok-clause-ok
returns-in_ok-held-in-Ok-clause-ok c =
    let m = c.args.self.now in
    let who = c.args.who in
    let name = c.args.name.now in
    let h = c.in_ok-held-in-Ok.held in
    let new = c.in_ok-new-in-Ok.new in
    let count : length new ≡ length c.in-Ok.snap.columns = parts_count _ c.in-Ok.snap new c.in-Ok.ensures.may.numbered c.in_ok-new-in-Ok.ensures in
    IfOk-weaker c.draw.result _ _
    (λ r told. drawn_served m who name (Some c.args.source.now) c.in-Ok.snap _ c.in-Ok.ensures.may (Place name c.args.source.now c.args.front) h c.draw.new.self r c.in_ok-held-in-Ok.ensures c.in-Ok.ensures.tests
    (λ s k. refl) told.0 (told.1 ∙ ap (drawn m who h) count))
    c.draw.ensures.ok

pub returns-in-Err-clause-ok : goal.returns-in-Err-clause-ok
returns-in-Err-clause-ok c =
    let m = c.args.self.now in
    let who = c.args.who in
    let name = c.args.name.now in
    refused_served {X = Snap} m who (Place name c.args.source.now c.args.front) (λ b. (Sid b.sid, drawn m who (private_graph name (Some c.args.source.now) b) (length b.columns))) c.in-Err.fault c.refused.result (λ r. refl)
    c.in-Err.ensures.tests c.refused.ensures
