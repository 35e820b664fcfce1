use Rattle.std.proofs.Common.{◌≡◌, ◌<◌, ◌≤◌, ◌∙◌, false, not, arith, sym, ap, length, get_or}
use Rattle.std.proofs.lemmas.Bool.Decides.{nat_tests}
use Rattle.std.proofs.lemmas.List.{get_or_default, get_or_past}
use Rattle.graph_model.specs.Seats.{is_live, sits_at, no_seat}
use Rattle.graph_model.proofs.Memory.{length_seats, seat_at}
use Rattle.graph_model.proofs.table.Table.sits.Goals as goal

pub returns-in-Some : goal.returns-in-Some
returns-in-Some c =
    let t = c.self.inside in
    let within : c.args.seat < length t.keys = omega (arith, length_seats t.keys t.columns t.dead.items, ap (λ x. length x.seats) c.self.view_is, c.requires) in
    let flagged : c.args.seat < length c.deref.result.now = grind (arith, nat_tests, c.in-Some.ensures.lookup.0) in
    let flag = c.in-Some.ensures.lookup.1 ∙ get_or_default c.deref.result.now c.args.seat c.in-Some.dead.now false flagged ∙ ap (λ l. get_or l c.args.seat false) c.deref.ensures.value in
    ap not flag ∙ ap is_live (sym (seat_at t.keys t.columns t.dead.items c.args.seat no_seat within)) ∙ ap (λ x. sits_at x.seats c.args.seat) c.self.view_is

pub returns-in-None : goal.returns-in-None
returns-in-None c =
    let t = c.self.inside in
    let within : c.args.seat < length t.keys = omega (arith, length_seats t.keys t.columns t.dead.items, ap (λ x. length x.seats) c.self.view_is, c.requires) in
    let past : length c.deref.result.now ≤ c.args.seat = grind (arith, nat_tests, c.in-None.ensures.lookup.0) in
    let flag : get_or t.dead.items c.args.seat false ≡ false = sym (ap (λ l. get_or l c.args.seat false) c.deref.ensures.value) ∙ get_or_past c.deref.result.now c.args.seat false past in
    ap not (sym flag) ∙ ap is_live (sym (seat_at t.keys t.columns t.dead.items c.args.seat no_seat within)) ∙ ap (λ x. sits_at x.seats c.args.seat) c.self.view_is
