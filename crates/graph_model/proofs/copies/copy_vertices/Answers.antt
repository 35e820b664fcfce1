use Rattle.std.proofs.Common.{◌≡◌, ◌<◌, ◌++◌, ◌∷◌, [], ◌∙◌, arith, ap, sym, length, take, get_or, map, filter}
use Rattle.std.proofs.lemmas.List.{take_all}
use Rattle.graph_model.specs.Seats.{is_live, no_seat}
use Rattle.graph_model.specs.Stored.{vertex_row}
use Rattle.graph_model.proofs.SeatRows.{rows_more}
use Rattle.graph_model.proofs.copies.copy_vertices.Goals as goal

pub loop-seat-preserved : goal.loop-seat-preserved
loop-seat-preserved c =
    let seats = c.args.table.now.seats in
    let within : c.loop-seat.seat < length seats = omega (arith, c.seats-seat-end.ensures) in
    c.in_ok-copy_vertex.ensures ∙ ap (λ l. l ++ map vertex_row (filter is_live (get_or seats c.loop-seat.seat no_seat ∷ []))) c.loop-seat.invariant
    ∙ sym (rows_more vertex_row is_live seats c.loop-seat.seat no_seat within)

pub returns : goal.returns
returns c =
    let seats = c.args.table.now.seats in
    c.loop-seat.invariant ∙ ap (λ l. map vertex_row (filter is_live l)) (take_all c.loop-seat.seat seats (omega (arith, c.seats-seat-end.ensures)))
