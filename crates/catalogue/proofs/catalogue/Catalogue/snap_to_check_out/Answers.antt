use Rattle.std.proofs.Common.{◌≡◌, ◌∙◌, ap, sym, subst, Some}
use Rattle.std.specs.Prelude.{find, Contains}
use Rattle.std.specs.Option.{option_copied}
use Rattle.catalogue_state.specs.State.{named, snap_at, session_of, line_of, held_of, roots}
use Rattle.catalogue_state.proofs.Latest.{target_root}
use Rattle.catalogue.proofs.catalogue.Catalogue.snap_to_check_out.Goals as goal

pub returns-in_ok-share-in-Some-snap_asked-clause-may : goal.returns-in_ok-share-in-Some-snap_asked-clause-may
returns-in_ok-share-in-Some-snap_asked-clause-may c =
    let m = c.args.self.now in
    let name = c.args.name.now in
    let s = c.in-Some.session.now in
    let h = c.in-Some-held.graph.now in
    let l = c.in-Some-line.published.now in
    let b = c.in-Some-snap_asked.snap.now in
    let is : session_of m c.args.who ≡ Some s = sym c.session.ensures ∙ ap option_copied c.in-Some.is in
    let has : held_of s name ≡ Some h = sym (ap (find (named name)) c.as_slice.ensures) ∙ sym c.held_as-held.ensures ∙ ap option_copied c.in-Some-held.is in
    let line : line_of m c.in-Pin.line ≡ Some l = sym c.line.ensures ∙ ap option_copied c.in-Some-line.is in
    let at : snap_at c.args.target.now l.snaps ≡ Some b = sym (ap (snap_at c.args.target.now) c.as_slice-2.ensures) ∙ sym c.snap_asked.ensures ∙ ap option_copied c.in-Some-snap_asked.is in
    let root : Contains (roots m) b = target_root m c.in-Pin.line l c.args.target.now b line at in
    record { session = s; is = is; graph = h; has = has; root = subst (Contains (roots m)) (sym c.in_ok-share-in-Some-snap_asked.ensures) root }
