use Rattle.std.proofs.Common.{◌≡◌, ◌≤◌, arith, subst, length, take}
use Rattle.std.specs.List.{zip}
use Rattle.std.proofs.lemmas.List.{take_all}
use Rattle.graph_model.specs.Parts.{ArePlacesOf}
use Rattle.graph_model.proofs.SeatRows.{length_zip}
use Rattle.graph_model.proofs.places.places_of_ends.Goals as goal

pub returns : goal.returns
returns c =
    let a = c.args in
    let pairs = zip a.table.now.seats a.ends.now in
    subst (λ l. ArePlacesOf a.from.now a.to.now l c.loop-seat.places)
    (take_all c.loop-seat.seat pairs (omega (arith, c.seats-seat-end.ensures, c.loop-seat-test.false, length_zip a.table.now.seats a.ends.now c.requires.long)))
    c.loop-seat.invariant
