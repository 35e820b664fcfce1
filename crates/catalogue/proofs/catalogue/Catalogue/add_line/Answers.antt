use Rattle.std.proofs.Common.{◌≡◌, ◌∙◌, ap, sym, subst, None}
use Rattle.catalogue_state.specs.State.{State, roots, line_of}
use Rattle.catalogue.specs.Kept.{MayPublish}
use Rattle.catalogue.proofs.Limits.{published_kept}
use Rattle.catalogue.proofs.Apart.{registry_in}
use Rattle.catalogue.proofs.Pinned.{shared_room, registry_shared, published_roots}
use Rattle.catalogue.proofs.catalogue.Catalogue.add_line.Goals as goal

pub retain_snap-requires-clause-room : goal.retain_snap-requires-clause-room
retain_snap-requires-clause-room c =
    let in_ = c.self.inside in
    let m : State = record { sources = in_.sources; lines = in_.lines; sessions = in_.sessions; next_sid = in_.next_sid; next_column = in_.next_column } in
    let may = subst (λ s. MayPublish s c.args.pin c.args.line c.args.snap.now) (sym c.self.view_is) c.requires in
    shared_room m in_.registry.rows c.self.invariant.registry c.self.invariant.kept c.args.snap.now may.root

pub invariant_of-self-2 : goal.invariant_of-self-2
invariant_of-self-2 c =
    let in_ = c.self.inside in
    let m : State = record { sources = in_.sources; lines = in_.lines; sessions = in_.sessions; next_sid = in_.next_sid; next_column = in_.next_column } in
    let l = c.args.line in
    let b = c.args.snap.now in
    let who = c.args.who in
    let name = c.args.name.now in
    let may = subst (λ s. MayPublish s c.args.pin l b) (sym c.self.view_is) c.requires in
    let free : line_of m l.name ≡ None = ap (line_of m) may.named ∙ may.free in
    let came = registry_shared m in_.registry.rows c.self.invariant.registry c.self.invariant.kept b may.root in
    let there = registry_in (roots m) b _ (published_roots m.lines m.sessions who name c.args.pin l b may.one) _ came in
    record {
      kept = rw (c.in_ok-publish.ensures.ok, c.pin_as.ensures, sym may.named) (published_kept m who c.self.invariant.kept name l b may.one may.keep may.root free may.room);
      registry = rw (c.in_ok-publish.ensures.ok, c.pin_as.ensures, c.retain_snap.ensures) there;
    }
