use Rattle.std.proofs.Common.{◌≡◌, ◌^◌, sym, ap, subst, ◌∙◌, arith, length}
use Rattle.std.specs.Prelude.{find}
use Rattle.catalogue_state.specs.declared.parts.Snap.{Snap}
use Rattle.catalogue_state.specs.State.{State, roots, roots_of, change_first, from_line}
use Rattle.catalogue_state.specs.Step.{with_latest}
use Rattle.catalogue.specs.Kept.{MayAppend, option_to_list, gone_of, gone_in}
use Rattle.catalogue.specs.Registry.{Comes}
use Rattle.catalogue.proofs.Limits.{appended_kept}
use Rattle.catalogue.proofs.Uses.{kept_listed, kept_room, ids_below, registry_come}
use Rattle.catalogue.proofs.Apart.{few_roots}
use Rattle.catalogue.proofs.Appending.{appended_apart}
use Rattle.catalogue.proofs.catalogue.Catalogue.add_snap.Goals as goal

pub count_columns-requires-clause-listed : goal.count_columns-requires-clause-listed
count_columns-requires-clause-listed c =
    let in_ = c.self.inside in
    let m : State = record { sources = in_.sources; lines = in_.lines; sessions = in_.sessions; next_sid = in_.next_sid; next_column = in_.next_column } in
    let k = c.args.coming in
    let may = subst (λ s. MayAppend s c.args.line.now k.snap (length k.new)) (sym c.self.view_is) c.requires.may in
    let comes = subst (λ (s : State). Comes (roots s) s.next_column k.snap k.kept k.new) (sym c.self.view_is) c.requires.comes in
    rw (c.reserve.ensures.rows, c.as_slice.ensures)
    (kept_listed in_.registry.rows m.next_column k.snap (roots m) k.kept k.new c.self.invariant.registry c.self.invariant.kept.numbered may.numbered.differ comes)

pub count_columns-requires-clause-room : goal.count_columns-requires-clause-room
count_columns-requires-clause-room c =
    let in_ = c.self.inside in
    let m : State = record { sources = in_.sources; lines = in_.lines; sessions = in_.sessions; next_sid = in_.next_sid; next_column = in_.next_column } in
    let k = c.args.coming in
    let may = subst (λ s. MayAppend s c.args.line.now k.snap (length k.new)) (sym c.self.view_is) c.requires.may in
    let comes = subst (λ (s : State). Comes (roots s) s.next_column k.snap k.kept k.new) (sym c.self.view_is) c.requires.comes in
    rw (c.reserve.ensures.rows, c.as_slice.ensures)
    (kept_room in_.registry.rows m.next_column k.snap (roots m) k.kept k.new c.self.invariant.registry c.self.invariant.kept.numbered may.numbered.differ comes (2 ^ 64)
    (omega (arith, few_roots m c.self.invariant.kept)))

pub count_columns-requires-clause-greatest : goal.count_columns-requires-clause-greatest
count_columns-requires-clause-greatest c =
    let in_ = c.self.inside in
    let m : State = record { sources = in_.sources; lines = in_.lines; sessions = in_.sessions; next_sid = in_.next_sid; next_column = in_.next_column } in
    rw c.reserve.ensures.rows (ids_below in_.registry.rows (roots m) c.self.invariant.registry m.next_column c.self.invariant.kept.numbered)

pub release_gone-requires : goal.release_gone-requires
release_gone-requires c =
    let in_ = c.self.inside in
    let m : State = record { sources = in_.sources; lines = in_.lines; sessions = in_.sessions; next_sid = in_.next_sid; next_column = in_.next_column } in
    let k = c.args.coming in
    let line = c.args.line.now in
    let may = subst (λ s. MayAppend s line k.snap (length k.new)) (sym c.self.view_is) c.requires.may in
    let comes = subst (λ (s : State). Comes (roots s) s.next_column k.snap k.kept k.new) (sym c.self.view_is) c.requires.comes in
    let came = registry_come in_.registry.rows m.next_column k.snap (roots m) k.kept k.new c.self.invariant.registry c.self.invariant.kept.numbered may.numbered.differ comes in
    let gone : option_to_list c.in_ok-gone.gone ≡ gone_of k.snap may.published
    = c.in_ok-gone.ensures.gone ∙ ap (λ (s : Snap). gone_in s (find (from_line line) m.lines)) c.in_ok-snap.ensures ∙ ap (gone_in k.snap) may.is in
    let rest = roots_of (change_first (from_line line) (with_latest k.snap) m.lines) m.sessions in
    rw (gone, c.count_columns.ensures, c.reserve.ensures.rows, c.as_slice.ensures) (rest, appended_apart _ m.sessions line k.snap may.published m.lines may.is came)

pub invariant_of-self-2 : goal.invariant_of-self-2
invariant_of-self-2 c =
    let in_ = c.self.inside in
    let m : State = record { sources = in_.sources; lines = in_.lines; sessions = in_.sessions; next_sid = in_.next_sid; next_column = in_.next_column } in
    let k = c.args.coming in
    let line = c.args.line.now in
    let may = subst (λ s. MayAppend s line k.snap (length k.new)) (sym c.self.view_is) c.requires.may in
    let comes = subst (λ (s : State). Comes (roots s) s.next_column k.snap k.kept k.new) (sym c.self.view_is) c.requires.comes in
    let came = registry_come in_.registry.rows m.next_column k.snap (roots m) k.kept k.new c.self.invariant.registry c.self.invariant.kept.numbered may.numbered.differ comes in
    let gone : option_to_list c.in_ok-gone.gone ≡ gone_of k.snap may.published
    = c.in_ok-gone.ensures.gone ∙ ap (λ (s : Snap). gone_in s (find (from_line line) m.lines)) c.in_ok-snap.ensures ∙ ap (gone_in k.snap) may.is in
    let rest = roots_of (change_first (from_line line) (with_latest k.snap) m.lines) m.sessions in
    let lines : c.append.new.self ≡ change_first (from_line line) (with_latest k.snap) m.lines
    = c.in_ok-gone.ensures.ok ∙ ap (λ (s : Snap). change_first (from_line line) (with_latest s) m.lines) c.in_ok-snap.ensures in
    let apart = appended_apart _ m.sessions line k.snap may.published m.lines may.is came in
    record {
      kept = rw (lines, c.len-count.ensures) (appended_kept m c.self.invariant.kept line k.snap (length k.new) may);
      registry = rw lines (c.release_gone.ensures rest (rw (gone, c.count_columns.ensures, c.reserve.ensures.rows, c.as_slice.ensures) apart));
    }
