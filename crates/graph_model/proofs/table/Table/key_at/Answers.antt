use Rattle.std.proofs.Common.{◌≡◌, ◌<◌, ◌∙◌, pos, arith, sym, ap, length, get_or, rules, FitsSigned, w64}
use Rattle.std.proofs.lemmas.Int.{to_z-of_z}
use Rattle.graph_model.specs.Seats.{seat_key, key_at, no_seat}
use Rattle.graph_model.proofs.Memory.{length_seats, seat_at}
use Rattle.graph_model.proofs.table.Table.key_at.Goals as goal

pub bounds-as_slice-seat : goal.bounds-as_slice-seat
bounds-as_slice-seat c =
    let t = c.self.inside in
    omega (arith, length_seats t.keys t.columns t.dead.items, ap (λ x. length x.seats) c.self.view_is, ap length c.as_slice.ensures, c.requires)

pub returns : goal.returns
returns c =
    let t = c.self.inside in
    let within : c.args.seat < length t.keys = omega (arith, length_seats t.keys t.columns t.dead.items, ap (λ x. length x.seats) c.self.view_is, c.requires) in
    let fits : FitsSigned w64 (get_or c.as_slice.result.now c.args.seat (pos 0)) = search rules in
    rw (to_z-of_z w64 (get_or c.as_slice.result.now c.args.seat (pos 0)) fits)
    (ap (λ l. get_or l c.args.seat (pos 0)) c.as_slice.ensures
    ∙ ap seat_key (sym (seat_at t.keys t.columns t.dead.items c.args.seat no_seat within)) ∙ ap (λ x. key_at x.seats c.args.seat) c.self.view_is)
