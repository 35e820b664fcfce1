use Rattle.std.proofs.Common.{◌≡◌, ◌∙◌, None, Some, sym, ap, FitsSigned, w64}
use Rattle.std.specs.List.{position}
use Rattle.std.proofs.lemmas.Int.{to_z-of_z}
use Rattle.graph_model.specs.Graph.{source_table, destination_table}
use Rattle.graph_model.specs.Seats.{sits}
use Rattle.graph_model.specs.Stored.{seats_at}
use Rattle.graph_model.proofs.SeatEnds.{at_get, none_left, none_right, some_both}
use Rattle.graph_model.proofs.ends.ends_of.Goals as goal

pub returns-in_err-source : goal.returns-in_err-source
returns-in_err-source c =
    let source : FitsSigned w64 c.args.source = c.ranges.source in
    let shape = at_get c.args.shapes.now c.args.table c.index-shapes-table.result c.requires c.index-shapes-table.is in
    let told = rw (to_z-of_z w64 c.args.source source) at c.seat_of.ensures in
    let here = ap (λ o. position (sits c.args.source) (seats_at c.args.vertices.now (source_table o))) shape ∙ sym told ∙ c.in_err-source.was in
    c.from_residual.ensures ∙ none_left _ _ here

pub returns-in_err-destination : goal.returns-in_err-destination
returns-in_err-destination c =
    let destination : FitsSigned w64 c.args.destination = c.ranges.destination in
    let shape = at_get c.args.shapes.now c.args.table c.index-shapes-table.result c.requires c.index-shapes-table.is in
    let told = rw (to_z-of_z w64 c.args.destination destination) at c.seat_of-2.ensures in
    let here = ap (λ o. position (sits c.args.destination) (seats_at c.args.vertices.now (destination_table o))) shape ∙ sym told ∙ c.in_err-destination.was in
    c.from_residual-in_err-destination.ensures ∙ none_right _ _ here

pub returns : goal.returns
returns c =
    let source : FitsSigned w64 c.args.source = c.ranges.source in
    let destination : FitsSigned w64 c.args.destination = c.ranges.destination in
    let shape = at_get c.args.shapes.now c.args.table c.index-shapes-table.result c.requires c.index-shapes-table.is in
    let from = rw (to_z-of_z w64 c.args.source source) at c.seat_of.ensures in
    let to = rw (to_z-of_z w64 c.args.destination destination) at c.seat_of-2.ensures in
    some_both _ _ c.in_ok-source.source c.in_ok-destination.destination
    (ap (λ o. position (sits c.args.source) (seats_at c.args.vertices.now (source_table o))) shape ∙ sym from ∙ c.in_ok-source.was)
    (ap (λ o. position (sits c.args.destination) (seats_at c.args.vertices.now (destination_table o))) shape ∙ sym to ∙ c.in_ok-destination.was)
