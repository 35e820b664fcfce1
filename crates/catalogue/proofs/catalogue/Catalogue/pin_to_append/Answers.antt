use Rattle.std.proofs.Common.{◌≡◌, ◌∙◌, ap, sym, Some}
use Rattle.std.specs.Prelude.{find}
use Rattle.std.specs.Option.{option_copied}
use Rattle.catalogue_state.specs.State.{named, session_of, held_of}
use Rattle.catalogue.proofs.Coming.{held_root}
use Rattle.catalogue.proofs.catalogue.Catalogue.pin_to_append.Goals as goal

pub returns-clause-root : goal.returns-clause-root
returns-clause-root c =
    let m = c.args.self.now in
    let name = c.args.name.now in
    let s = c.in-Some.session.now in
    let h = c.in-Some-held.graph.now in
    let is : session_of m c.args.who ≡ Some s = sym c.session.ensures ∙ ap option_copied c.in-Some.is in
    let has : held_of s name ≡ Some h = sym (ap (find (named name)) c.as_slice.ensures) ∙ sym c.held_as-held.ensures ∙ ap option_copied c.in-Some-held.is in
    held_root m c.args.who s name h is has
