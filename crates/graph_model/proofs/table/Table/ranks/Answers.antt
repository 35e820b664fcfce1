use Rattle.std.proofs.Common.{◌≡◌, ◌<◌, ◌≤◌, ◌∙◌, [], pos, arith, sym, ap, subst, length, map}
use Rattle.std.specs.List.{range_with_len}
use Rattle.std.proofs.lemmas.Bool.Decides.{nat_tests}
use Rattle.std.proofs.lemmas.Result.{IfOk-weaker}
use Rattle.graph_model.specs.Seats.{live_seats, seats_from}
use Rattle.graph_model.specs.Parts.{rank, AreRanks}
use Rattle.graph_model.proofs.Memory.{length_seats}
use Rattle.graph_model.proofs.SeatPlaces.{ranks_told, ranks_none}
use Rattle.graph_model.proofs.table.Table.ranks.Goals as goal

pub returns-then-self-len : goal.returns-then-self-len
returns-then-self-len c =
    let t = c.self.inside in
    let seats = seats_from t.keys t.columns t.dead.items in
    let all : t.live ≡ length t.keys = grind (arith, nat_tests, c.if-self-len.true, c.len.ensures) in
    subst (λ l. AreRanks c.args.self.now.seats l) (sym c.new.ensures)
    (subst (λ x. AreRanks x.seats []) c.self.view_is
    (ranks_none seats (omega (arith, length_seats t.keys t.columns t.dead.items, c.self.invariant.laid.few)) (omega (arith, c.self.invariant.told.count, all, length_seats t.keys t.columns t.dead.items))))

pub ranks_of-requires : goal.ranks_of-requires
ranks_of-requires c =
    let t = c.self.inside in
    omega (arith, length_seats t.keys t.columns t.dead.items, ap (λ x. length x.seats) c.self.view_is, c.self.invariant.laid.few)

pub returns : goal.returns
returns c =
    let t = c.self.inside in
    let seats = c.args.self.now.seats in
    let few : length seats < 2147483648 = omega (arith, length_seats t.keys t.columns t.dead.items, ap (λ x. length x.seats) c.self.view_is, c.self.invariant.laid.few) in
    IfOk-weaker c.ranks_of.result (λ ranks. ranks ≡ map (λ i. pos (rank seats i)) (range_with_len 0 (length seats))) (AreRanks seats)
    (λ ranks e. subst (AreRanks seats) (sym e) (ranks_told seats few)) c.ranks_of.ensures
