use Rattle.std.proofs.Common.{◌≡◌, ◌∙◌, ◌<◌, ap, sym, subst, Some, false, length, arith, rules, [], ◌∷◌}
use Rattle.std.specs.Prelude.{find, is_some, Contains}
use Rattle.std.specs.Option.{option_copied}
use Rattle.catalogue_state.specs.declared.parts.Line.{Line}
use Rattle.catalogue_state.specs.State.{named, session_of, line_of, held_of, roots}
use Rattle.catalogue.proofs.Numbers.{nothing_found, copied_is_some}
use Rattle.catalogue.proofs.Coming.{held_root}
use Rattle.catalogue.proofs.catalogue.Catalogue.line_to_publish.Goals as goal

pub returns-clause-may : goal.returns-clause-may
returns-clause-may c =
    let m = c.args.self.now in
    let name = c.args.name.now in
    let s = c.in-Some.session.now in
    let h = c.in-Some-held.graph.now in
    let is : session_of m c.args.who ≡ Some s = sym c.session.ensures ∙ ap option_copied c.in-Some.is in
    let has : held_of s name ≡ Some h = sym (ap (find (named name)) c.as_slice.ensures) ∙ sym c.held_as-held.ensures ∙ ap option_copied c.in-Some-held.is in
    let free : is_some (line_of m c.args.line.now) ≡ false = ap is_some (sym c.line.ensures) ∙ copied_is_some c.line.result ∙ sym c.is_some.ensures ∙ c.if-is_some.false in
    let room : length m.lines < 256 = omega (arith, c.line_count.ensures, c.if-line_count-ge-MOST_LINES.false) in
    let root : Contains (roots m) h.snap = held_root m c.args.who s name h is has in
    let made = c.in_ok-made.ensures in
    record {
      named = ap (λ (x : Line). x.name) made;
      one = ap (λ (x : Line). x.snaps) made ∙ sym (ap (λ b. b ∷ []) c.in_ok-share.ensures);
      keep = search rules;
      root = subst (Contains (roots m)) (sym c.in_ok-share.ensures) root;
      free = nothing_found (line_of m c.args.line.now) free;
      room = room;
    }
