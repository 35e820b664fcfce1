use Rattle.std.proofs.Common.{◌≡◌, ◌<◌, ◌∙◌, arith, sym, ap, length, get_or}
use Rattle.std.proofs.lemmas.Result.{IfOk-weaker}
use Rattle.graph_model.specs.Seats.{Seat, no_seat, row_of}
use Rattle.graph_model.proofs.Memory.{length_seats, seat_at}
use Rattle.graph_model.proofs.table.Table.values_at.Goals as goal

pub copy_row-requires : goal.copy_row-requires
copy_row-requires c =
    let t = c.self.inside in
    let within : c.args.seat < length t.keys = omega (arith, length_seats t.keys t.columns t.dead.items, ap (λ x. length x.seats) c.self.view_is, c.requires) in
    rw c.as_slice.ensures (λ i d h. omega (arith, within, c.self.invariant.laid.long i d h))

pub returns : goal.returns
returns c =
    let t = c.self.inside in
    let within : c.args.seat < length t.keys = omega (arith, length_seats t.keys t.columns t.dead.items, ap (λ x. length x.seats) c.self.view_is, c.requires) in
    IfOk-weaker c.copy_row.result (λ v. v ≡ row_of c.as_slice.result.now c.args.seat) (λ v. v ≡ (get_or c.args.self.now.seats c.args.seat no_seat).values)
    (λ v e. e ∙ ap (λ l. row_of l c.args.seat) c.as_slice.ensures ∙ ap (λ (s : Seat). s.values) (sym (seat_at t.keys t.columns t.dead.items c.args.seat no_seat within)) ∙ ap (λ x. (get_or x.seats c.args.seat no_seat).values) c.self.view_is)
    c.copy_row.ensures
