use Rattle.std.proofs.Common.{◌≡◌, ◌∙◌, ◌<◌, ap, sym, Some, false, length, arith}
use Rattle.std.specs.Prelude.{is_some}
use Rattle.std.specs.Option.{option_copied}
use Rattle.catalogue_state.specs.State.{from_source, session_of, held_of}
use Rattle.catalogue_state.proofs.Lists.{of_find}
use Rattle.catalogue.proofs.Numbers.{may_place, not_held}
use Rattle.catalogue.proofs.Coming.{placed_columns}
use Rattle.catalogue.proofs.catalogue.Catalogue.snap_to_place.Goals as goal

pub placed-requires-clause-from : goal.placed-requires-clause-from
placed-requires-clause-from c =
    of_find (from_source c.args.source.now) c.args.self.now.sources c.in-Some-source.from.now (sym c.source.ensures ∙ ap option_copied c.in-Some-source.is)

pub returns-clause-may : goal.returns-clause-may
returns-clause-may c =
    let m = c.args.self.now in
    let s = c.in-Some.session.now in
    let is : session_of m c.args.who ≡ Some s = sym c.session.ensures ∙ ap option_copied c.in-Some.is in
    let free : is_some (held_of s c.args.name.now) ≡ false = not_held c.held_as.result c.args.name.now s c.as_slice.result.now c.as_slice.ensures c.held_as.ensures (sym c.is_some.ensures ∙ c.if-is_some.false) in
    let room : length s.held < 256 = omega (arith, c.len.ensures, c.if-len-ge-MOST_HELD.false) in
    may_place m c.args.who c.args.name.now s c.sound.ensures is free room c.in-Some-source.from.now c.args.front c.in_ok-placed.field-0 c.in_ok-placed.ensures.snap c.in_ok-placed.ensures.few

pub returns-clause-new : goal.returns-clause-new
returns-clause-new c = placed_columns c.args.self.now c.in-Some-source.from.now c.args.front c.in_ok-placed.field-0 c.in_ok-placed.ensures.snap
