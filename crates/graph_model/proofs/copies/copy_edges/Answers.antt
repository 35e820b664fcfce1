use Rattle.std.proofs.Common.{◌≡◌, ◌<◌, ◌++◌, ◌∷◌, [], ◌∙◌, arith, ap, sym, length, take, get_or, map, filter}
use Rattle.std.specs.List.{zip}
use Rattle.std.proofs.lemmas.List.{take_all}
use Rattle.graph_model.specs.Stored.{edge_row, edge_is_live, no_pair}
use Rattle.graph_model.proofs.SeatRows.{rows_more, length_zip}
use Rattle.graph_model.proofs.copies.copy_edges.Goals as goal

pub loop-seat-preserved : goal.loop-seat-preserved
loop-seat-preserved c =
    let a = c.args in
    let pairs = zip a.table.now.seats a.ends.now in
    let row = edge_row a.from.now.seats a.to.now.seats in
    let within : c.loop-seat.seat < length pairs = omega (arith, c.seats-seat-end.ensures, length_zip a.table.now.seats a.ends.now c.requires.long) in
    c.in_ok-copy_edge.ensures ∙ ap (λ l. l ++ map row (filter edge_is_live (get_or pairs c.loop-seat.seat no_pair ∷ []))) c.loop-seat.invariant
    ∙ sym (rows_more row edge_is_live pairs c.loop-seat.seat no_pair within)

pub returns : goal.returns
returns c =
    let a = c.args in
    let pairs = zip a.table.now.seats a.ends.now in
    c.loop-seat.invariant ∙ ap (λ l. map (edge_row a.from.now.seats a.to.now.seats) (filter edge_is_live l)) (take_all c.loop-seat.seat pairs (omega (arith, c.seats-seat-end.ensures, length_zip a.table.now.seats a.ends.now c.requires.long)))
