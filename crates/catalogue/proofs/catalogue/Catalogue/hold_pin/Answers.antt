use Rattle.std.proofs.Common.{sym, subst}
use Rattle.catalogue_state.specs.State.{State, roots, roots_of, change_first, of_who}
use Rattle.catalogue_state.specs.Step.{hold_more}
use Rattle.catalogue.specs.Kept.{MayPin}
use Rattle.catalogue.proofs.Limits.{pinned_kept}
use Rattle.catalogue.proofs.Apart.{registry_in, roots_more}
use Rattle.catalogue.proofs.Pinned.{shared_room, registry_shared}
use Rattle.catalogue.proofs.catalogue.Catalogue.hold_pin.Goals as goal

pub retain_snap-requires-clause-room : goal.retain_snap-requires-clause-room
retain_snap-requires-clause-room c =
    let in_ = c.self.inside in
    let m : State = record { sources = in_.sources; lines = in_.lines; sessions = in_.sessions; next_sid = in_.next_sid; next_column = in_.next_column } in
    let may = subst (λ s. MayPin s c.args.who c.args.held.name c.args.held) (sym c.self.view_is) c.requires in
    rw (c.get.ensures, c.in_ok-gift.ensures) (shared_room m in_.registry.rows c.self.invariant.registry c.self.invariant.kept c.args.held.snap may.root)

pub invariant_of-self-2 : goal.invariant_of-self-2
invariant_of-self-2 c =
    let in_ = c.self.inside in
    let m : State = record { sources = in_.sources; lines = in_.lines; sessions = in_.sessions; next_sid = in_.next_sid; next_column = in_.next_column } in
    let h = c.args.held in
    let who = c.args.who in
    let may = subst (λ s. MayPin s who h.name h) (sym c.self.view_is) c.requires in
    let came = registry_shared m in_.registry.rows c.self.invariant.registry c.self.invariant.kept h.snap may.root in
    let there = registry_in (roots m) h.snap (roots_of m.lines (change_first (of_who who) (hold_more h) m.sessions)) (roots_more m.lines m.sessions who h may.session may.is) _ came in
    record {
      kept = rw c.in_ok-hold.ensures.ok (pinned_kept m who c.self.invariant.kept may.session h may.is may.room may.root);
      registry = rw (c.in_ok-hold.ensures.ok, c.retain_snap.ensures, c.get.ensures, c.in_ok-gift.ensures) there;
    }
