use Rattle.std.proofs.Common.{◌≡◌, ◌<◌, ◌∙◌, arith, ap, length, FitsSigned, w64}
use Rattle.std.specs.List.{position}
use Rattle.std.proofs.lemmas.Int.{to_z-of_z}
use Rattle.std.proofs.lemmas.Bool.Decides.{nat_tests}
use Rattle.std.proofs.lemmas.List.{get_or_default}
use Rattle.graph_model.specs.Seats.{sits}
use Rattle.graph_model.specs.Stored.{no_table}
use Rattle.graph_model.proofs.tables.seat_of.Goals as goal

pub returns-in-Some : goal.returns-in-Some
returns-in-Some c =
    let fits : FitsSigned w64 c.args.key = c.ranges.key in
    let found = rw (to_z-of_z w64 c.args.key fits) at c.seat_of.ensures in
    let within : c.args.table < length c.args.tables.now = grind (arith, nat_tests, c.in-Some.ensures.lookup.0) in
    found ∙ ap (λ x. position (sits c.args.key) x.seats) (c.in-Some.ensures.lookup.1 ∙ get_or_default c.args.tables.now c.args.table c.in-Some.there.now no_table within)
