use Rattle.std.proofs.Common.{◌≡◌, ◌∙◌, ap, sym, subst, Option}
use Rattle.std.specs.Prelude.{option_map, option_and_then}
use Rattle.std.proofs.lemmas.Option.{same_Some}
use Rattle.catalogue_state.specs.State.{State, roots, roots_of, change_first, of_who, held_of}
use Rattle.catalogue_state.specs.declared.parts.Held.{Held}
use Rattle.catalogue_state.specs.declared.parts.Session.{Session}
use Rattle.catalogue_state.specs.Step.{move_to}
use Rattle.catalogue.specs.Kept.{MayMove}
use Rattle.catalogue.proofs.Limits.{moved_kept}
use Rattle.catalogue.proofs.Pinned.{shared_room, registry_shared, moved_roots, moved_apart}
use Rattle.catalogue.proofs.catalogue.Catalogue.move_pin.Goals as goal

pub retain_snap-requires-clause-room : goal.retain_snap-requires-clause-room
retain_snap-requires-clause-room c =
    let in_ = c.self.inside in
    let m : State = record { sources = in_.sources; lines = in_.lines; sessions = in_.sessions; next_sid = in_.next_sid; next_column = in_.next_column } in
    let may = subst (λ s. MayMove s c.args.who c.args.name.now c.args.snap) (sym c.self.view_is) c.requires in
    rw (c.get.ensures, c.in_ok-gift.ensures) (shared_room m in_.registry.rows c.self.invariant.registry c.self.invariant.kept c.args.snap may.root)

pub release_snap-requires : goal.release_snap-requires
release_snap-requires c =
    let in_ = c.self.inside in
    let m : State = record { sources = in_.sources; lines = in_.lines; sessions = in_.sessions; next_sid = in_.next_sid; next_column = in_.next_column } in
    let b = c.args.snap in
    let who = c.args.who in
    let name = c.args.name.now in
    let may = subst (λ s. MayMove s who name b) (sym c.self.view_is) c.requires in
    let old : c.in-Some.before ≡ may.graph.snap
    = same_Some c.in-Some.before may.graph.snap (sym c.in-Some.is ∙ c.move_to.ensures.old
    ∙ ap (λ (o : Option Session). option_map (λ (h : Held). h.snap) (option_and_then (λ (s : Session). held_of s name) o)) may.is ∙ ap (option_map (λ (h : Held). h.snap)) may.has) in
    let moved = roots_of m.lines (change_first (of_who who) (move_to name b) m.sessions) in
    let came = registry_shared m in_.registry.rows c.self.invariant.registry c.self.invariant.kept b may.root in
    let there = moved_apart (roots m) may.graph.snap moved b (moved_roots who name b may.session may.graph may.has m.lines m.sessions may.is) _ came in
    rw (c.get-in-Some.ensures, old, c.retain_snap.ensures, c.get.ensures, c.in_ok-gift.ensures) (moved, there)

pub invariant_of-self : goal.invariant_of-self
invariant_of-self c =
    let in_ = c.self.inside in
    let m : State = record { sources = in_.sources; lines = in_.lines; sessions = in_.sessions; next_sid = in_.next_sid; next_column = in_.next_column } in
    let b = c.args.snap in
    let who = c.args.who in
    let name = c.args.name.now in
    let may = subst (λ s. MayMove s who name b) (sym c.self.view_is) c.requires in
    let old : c.in-Some.before ≡ may.graph.snap
    = same_Some c.in-Some.before may.graph.snap (sym c.in-Some.is ∙ c.move_to.ensures.old
    ∙ ap (λ (o : Option Session). option_map (λ (h : Held). h.snap) (option_and_then (λ (s : Session). held_of s name) o)) may.is ∙ ap (option_map (λ (h : Held). h.snap)) may.has) in
    let moved = roots_of m.lines (change_first (of_who who) (move_to name b) m.sessions) in
    let came = registry_shared m in_.registry.rows c.self.invariant.registry c.self.invariant.kept b may.root in
    let there = moved_apart (roots m) may.graph.snap moved b (moved_roots who name b may.session may.graph may.has m.lines m.sessions may.is) _ came in
    record {
      kept = rw c.move_to.ensures.new (moved_kept m who c.self.invariant.kept name b may.root);
      registry = rw c.move_to.ensures.new (c.release_snap.ensures moved (rw (c.get-in-Some.ensures, old, c.retain_snap.ensures, c.get.ensures, c.in_ok-gift.ensures) there));
    }
