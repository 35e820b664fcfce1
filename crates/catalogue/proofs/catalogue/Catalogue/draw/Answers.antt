use Rattle.std.proofs.Common.{◌^◌, refl, sym, subst, arith, length}
use Rattle.catalogue_state.specs.State.{State, roots, change_first, of_who, roots_of}
use Rattle.catalogue_state.specs.Step.{hold_more}
use Rattle.catalogue.specs.Kept.{MayHold}
use Rattle.catalogue.specs.Registry.{Comes}
use Rattle.catalogue.proofs.Limits.{drawn_kept}
use Rattle.catalogue.proofs.Uses.{kept_listed, kept_room, ids_below, registry_come}
use Rattle.catalogue.proofs.Apart.{roots_more, registry_in, few_roots}
use Rattle.catalogue.proofs.catalogue.Catalogue.draw.Goals as goal

pub count_columns-requires-clause-listed : goal.count_columns-requires-clause-listed
count_columns-requires-clause-listed c =
    let in_ = c.self.inside in
    let m : State = record { sources = in_.sources; lines = in_.lines; sessions = in_.sessions; next_sid = in_.next_sid; next_column = in_.next_column } in
    let may = subst (λ s. MayHold s c.args.who c.args.held.name c.args.held.snap (length c.args.new)) (sym c.self.view_is) c.requires.may in
    let comes = subst (λ (s : State). Comes (roots s) s.next_column c.args.held.snap c.args.kept.now c.args.new) (sym c.self.view_is) c.requires.comes in
    rw c.reserve.ensures.rows
    (kept_listed in_.registry.rows m.next_column c.args.held.snap (roots m) c.args.kept.now c.args.new c.self.invariant.registry c.self.invariant.kept.numbered may.numbered.differ comes)

pub count_columns-requires-clause-room : goal.count_columns-requires-clause-room
count_columns-requires-clause-room c =
    let in_ = c.self.inside in
    let m : State = record { sources = in_.sources; lines = in_.lines; sessions = in_.sessions; next_sid = in_.next_sid; next_column = in_.next_column } in
    let may = subst (λ s. MayHold s c.args.who c.args.held.name c.args.held.snap (length c.args.new)) (sym c.self.view_is) c.requires.may in
    let comes = subst (λ (s : State). Comes (roots s) s.next_column c.args.held.snap c.args.kept.now c.args.new) (sym c.self.view_is) c.requires.comes in
    rw c.reserve.ensures.rows
    (kept_room in_.registry.rows m.next_column c.args.held.snap (roots m) c.args.kept.now c.args.new c.self.invariant.registry c.self.invariant.kept.numbered may.numbered.differ comes (2 ^ 64)
    (omega (arith, few_roots m c.self.invariant.kept)))

pub count_columns-requires-clause-greatest : goal.count_columns-requires-clause-greatest
count_columns-requires-clause-greatest c =
    let in_ = c.self.inside in
    let m : State = record { sources = in_.sources; lines = in_.lines; sessions = in_.sessions; next_sid = in_.next_sid; next_column = in_.next_column } in
    rw c.reserve.ensures.rows (ids_below in_.registry.rows (roots m) c.self.invariant.registry m.next_column c.self.invariant.kept.numbered)

pub invariant_of-self-2 : goal.invariant_of-self-2
invariant_of-self-2 c =
    let in_ = c.self.inside in
    let m : State = record { sources = in_.sources; lines = in_.lines; sessions = in_.sessions; next_sid = in_.next_sid; next_column = in_.next_column } in
    let h = c.args.held in
    let may = subst (λ s. MayHold s c.args.who h.name h.snap (length c.args.new)) (sym c.self.view_is) c.requires.may in
    let comes = subst (λ (s : State). Comes (roots s) s.next_column h.snap c.args.kept.now c.args.new) (sym c.self.view_is) c.requires.comes in
    let came = registry_come in_.registry.rows m.next_column h.snap (roots m) c.args.kept.now c.args.new c.self.invariant.registry c.self.invariant.kept.numbered may.numbered.differ comes in
    let there = registry_in (roots m) h.snap (roots_of m.lines (change_first (of_who c.args.who) (hold_more h) m.sessions)) (roots_more m.lines m.sessions c.args.who h may.session may.is) in
    record {
      kept = rw (c.in_ok-hold.ensures.ok, c.len-count.ensures) (drawn_kept m c.args.who c.self.invariant.kept h (length c.args.new) may);
      registry = rw (c.in_ok-hold.ensures.ok, c.count_columns.ensures, c.reserve.ensures.rows) (there _ came);
    }

pub returns-clause-ok : goal.returns-clause-ok
returns-clause-ok c = (rw (c.came.ensures, c.in_ok-gift.ensures) refl, rw (c.in_ok-hold.ensures.ok, c.len-count.ensures, ← c.self.view_is) refl)
