use Rattle.std.proofs.Common.{◌≡◌, ◌∙◌, ◌<◌, ap, sym, subst, Some, false, length, arith}
use Rattle.std.specs.Prelude.{is_some, Contains}
use Rattle.std.specs.Option.{option_copied}
use Rattle.catalogue_state.specs.declared.parts.Held.{Held}
use Rattle.catalogue_state.specs.State.{latest, session_of, line_of, held_of, roots}
use Rattle.catalogue.proofs.Numbers.{not_held, nothing_found}
use Rattle.catalogue_state.proofs.Latest.{latest_root}
use Rattle.catalogue.proofs.catalogue.Catalogue.pin_to_hold.Goals as goal

pub returns-in_ok-pin-in-Some-last-clause-may : goal.returns-in_ok-pin-in-Some-last-clause-may
returns-in_ok-pin-in-Some-last-clause-may c =
    let m = c.args.self.now in
    let name = c.args.name.now in
    let s = c.in-Some.session.now in
    let l = c.in-Some-line.published.now in
    let b = c.in-Some-last.snap.now in
    let h = c.in_ok-pin-in-Some-last.field-0 in
    let is : session_of m c.args.who ≡ Some s = sym c.session.ensures ∙ ap option_copied c.in-Some.is in
    let line : line_of m c.args.line.now ≡ Some l = sym c.line.ensures ∙ ap option_copied c.in-Some-line.is in
    let free : is_some (held_of s name) ≡ false = not_held c.held_as.result name s c.as_slice.result.now c.as_slice.ensures c.held_as.ensures (sym c.is_some.ensures ∙ c.if-is_some.false) in
    let room : length s.held < 256 = omega (arith, c.len.ensures, c.if-len-ge-MOST_HELD.false) in
    let last : latest l.snaps ≡ Some b = sym (ap latest c.as_slice-2.ensures) ∙ sym c.last.ensures.value ∙ ap option_copied c.in-Some-last.is in
    let root : Contains (roots m) b = latest_root m c.args.line.now l b line last in
    let made = c.in_ok-pin-in-Some-last.ensures in
    record {
      session = s;
      is = is;
      named = ap (λ (x : Held). x.name) made;
      free = nothing_found (held_of s name) free;
      room = room;
      root = subst (Contains (roots m)) (sym (ap (λ (x : Held). x.snap) made)) root;
    }
