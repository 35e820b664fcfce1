use Rattle.std.proofs.Common.{◌≡◌, ◌<◌, ◌++◌, ◌∷◌, [], ◌∙◌, true, arith, sym, ap, length, get_or, rules, FitsSigned, w32}
use Rattle.std.specs.List.{zip}
use Rattle.std.proofs.lemmas.Int.{to_z-of_z}
use Rattle.graph_model.specs.declared.ends.Ends.{Ends}
use Rattle.graph_model.specs.Seats.{Seat, no_seat}
use Rattle.graph_model.specs.Stored.{edge_is_live, no_pair, no_ends}
use Rattle.graph_model.specs.Parts.{source_place, destination_place}
use Rattle.graph_model.proofs.SeatRows.{no_row, one_row, zip_at, length_zip}
use Rattle.graph_model.proofs.places.push_places.Goals as goal

pub returns-then-not-sits-clause-sources : goal.returns-then-not-sits-clause-sources
returns-then-not-sits-clause-sources c =
    let a = c.args in
    let pairs = zip a.table.now.seats a.ends.now in
    let pair = zip_at a.table.now.seats a.ends.now a.seat no_seat no_ends c.requires.seat c.requires.long in
    no_row (source_place a.from.now) edge_is_live a.places.now.sources (get_or pairs a.seat no_pair) (ap edge_is_live pair ∙ sym c.sits.ensures ∙ c.if-not-sits.true)

pub returns-then-not-sits-clause-destinations : goal.returns-then-not-sits-clause-destinations
returns-then-not-sits-clause-destinations c =
    let a = c.args in
    let pairs = zip a.table.now.seats a.ends.now in
    let pair = zip_at a.table.now.seats a.ends.now a.seat no_seat no_ends c.requires.seat c.requires.long in
    no_row (destination_place a.to.now) edge_is_live a.places.now.destinations (get_or pairs a.seat no_pair) (ap edge_is_live pair ∙ sym c.sits.ensures ∙ c.if-not-sits.true)

pub place_at-requires : goal.place_at-requires
place_at-requires c =
    let a = c.args in
    let pairs = zip a.table.now.seats a.ends.now in
    let pair = zip_at a.table.now.seats a.ends.now a.seat no_seat no_ends c.requires.seat c.requires.long in
    let within : a.seat < length pairs = omega (arith, c.requires.seat, length_zip a.table.now.seats a.ends.now c.requires.long) in
    let live : edge_is_live (get_or pairs a.seat no_pair) ≡ true = ap edge_is_live pair ∙ sym c.sits.ensures ∙ c.if-not-sits.false in
    omega (arith, (c.requires.few a.seat no_pair within live).0, ap (λ (p : Seat × Ends). p.1.source) pair)

pub place_at-requires-2 : goal.place_at-requires-2
place_at-requires-2 c =
    let a = c.args in
    let pairs = zip a.table.now.seats a.ends.now in
    let pair = zip_at a.table.now.seats a.ends.now a.seat no_seat no_ends c.requires.seat c.requires.long in
    let within : a.seat < length pairs = omega (arith, c.requires.seat, length_zip a.table.now.seats a.ends.now c.requires.long) in
    let live : edge_is_live (get_or pairs a.seat no_pair) ≡ true = ap edge_is_live pair ∙ sym c.sits.ensures ∙ c.if-not-sits.false in
    omega (arith, (c.requires.few a.seat no_pair within live).1, ap (λ (p : Seat × Ends). p.1.destination) pair)

pub returns-clause-sources : goal.returns-clause-sources
returns-clause-sources c =
    let a = c.args in
    let pairs = zip a.table.now.seats a.ends.now in
    let pair = zip_at a.table.now.seats a.ends.now a.seat no_seat no_ends c.requires.seat c.requires.long in
    let live : edge_is_live (get_or pairs a.seat no_pair) ≡ true = ap edge_is_live pair ∙ sym c.sits.ensures ∙ c.if-not-sits.false in
    let fits : FitsSigned w32 c.place_at.result = search rules in
    rw (c.in_ok-push.ensures.ok, to_z-of_z w32 c.place_at.result fits)
    (ap (λ z. a.places.now.sources ++ z ∷ []) (c.place_at.ensures ∙ ap (source_place a.from.now) (sym pair))
    ∙ ap (λ l. a.places.now.sources ++ l) (sym (one_row (source_place a.from.now) edge_is_live (get_or pairs a.seat no_pair) live)))

pub returns-clause-destinations : goal.returns-clause-destinations
returns-clause-destinations c =
    let a = c.args in
    let pairs = zip a.table.now.seats a.ends.now in
    let pair = zip_at a.table.now.seats a.ends.now a.seat no_seat no_ends c.requires.seat c.requires.long in
    let live : edge_is_live (get_or pairs a.seat no_pair) ≡ true = ap edge_is_live pair ∙ sym c.sits.ensures ∙ c.if-not-sits.false in
    let fits : FitsSigned w32 c.place_at-2.result = search rules in
    rw (c.in_ok-push-2.ensures.ok, to_z-of_z w32 c.place_at-2.result fits)
    (ap (λ z. a.places.now.destinations ++ z ∷ []) (c.place_at-2.ensures ∙ ap (destination_place a.to.now) (sym pair))
    ∙ ap (λ l. a.places.now.destinations ++ l) (sym (one_row (destination_place a.to.now) edge_is_live (get_or pairs a.seat no_pair) live)))
