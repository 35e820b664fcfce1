use Rattle.std.proofs.Common.{◌≡◌, ◌<◌, ◌++◌, ◌∷◌, [], ◌∙◌, true, arith, sym, ap, length, get_or, rules, FitsSigned, w64}
use Rattle.std.specs.List.{zip}
use Rattle.std.proofs.lemmas.Int.{to_z-of_z}
use Rattle.graph_model.specs.declared.ends.Ends.{Ends}
use Rattle.graph_model.specs.Seats.{Seat, no_seat, sits_at}
use Rattle.graph_model.specs.Stored.{edge_row, edge_is_live, no_pair, no_ends}
use Rattle.graph_model.proofs.Told.{sits_within}
use Rattle.graph_model.proofs.SeatRows.{no_row, one_row, zip_at, length_zip}
use Rattle.graph_model.proofs.copies.copy_edge.Goals as goal

pub returns-then-not-sits : goal.returns-then-not-sits
returns-then-not-sits c =
    let a = c.args in
    let pairs = zip a.table.now.seats a.ends.now in
    let pair = zip_at a.table.now.seats a.ends.now a.seat no_seat no_ends c.requires.seat c.requires.long in
    no_row (edge_row a.from.now.seats a.to.now.seats) edge_is_live a.rows.now (get_or pairs a.seat no_pair) (ap edge_is_live pair ∙ sym c.sits.ensures ∙ c.if-not-sits.true)

pub key_at-source-requires : goal.key_at-source-requires
key_at-source-requires c =
    let a = c.args in
    let pairs = zip a.table.now.seats a.ends.now in
    let pair = zip_at a.table.now.seats a.ends.now a.seat no_seat no_ends c.requires.seat c.requires.long in
    let within : a.seat < length pairs = omega (arith, c.requires.seat, length_zip a.table.now.seats a.ends.now c.requires.long) in
    let live : edge_is_live (get_or pairs a.seat no_pair) ≡ true = ap edge_is_live pair ∙ sym c.sits.ensures ∙ c.if-not-sits.false in
    let sit = c.requires.sit a.seat no_pair within live in
    sits_within a.from.now.seats (get_or a.ends.now a.seat no_ends).source (ap (λ (p : Seat × Ends). sits_at a.from.now.seats p.1.source) (sym pair) ∙ sit.0)

pub key_at-destination-requires : goal.key_at-destination-requires
key_at-destination-requires c =
    let a = c.args in
    let pairs = zip a.table.now.seats a.ends.now in
    let pair = zip_at a.table.now.seats a.ends.now a.seat no_seat no_ends c.requires.seat c.requires.long in
    let within : a.seat < length pairs = omega (arith, c.requires.seat, length_zip a.table.now.seats a.ends.now c.requires.long) in
    let live : edge_is_live (get_or pairs a.seat no_pair) ≡ true = ap edge_is_live pair ∙ sym c.sits.ensures ∙ c.if-not-sits.false in
    let sit = c.requires.sit a.seat no_pair within live in
    sits_within a.to.now.seats (get_or a.ends.now a.seat no_ends).destination (ap (λ (p : Seat × Ends). sits_at a.to.now.seats p.1.destination) (sym pair) ∙ sit.1)

pub returns : goal.returns
returns c =
    let a = c.args in
    let s = get_or a.table.now.seats a.seat no_seat in
    let x = get_or a.ends.now a.seat no_ends in
    let pairs = zip a.table.now.seats a.ends.now in
    let row = edge_row a.from.now.seats a.to.now.seats in
    let pair = zip_at a.table.now.seats a.ends.now a.seat no_seat no_ends c.requires.seat c.requires.long in
    let live : edge_is_live (get_or pairs a.seat no_pair) ≡ true = ap edge_is_live pair ∙ sym c.sits.ensures ∙ c.if-not-sits.false in
    let key : FitsSigned w64 c.key_at-key.result = search rules in
    let source : FitsSigned w64 c.key_at-source.result = search rules in
    let destination : FitsSigned w64 c.key_at-destination.result = search rules in
    rw (c.in_ok-push.ensures.ok, to_z-of_z w64 c.key_at-key.result key, to_z-of_z w64 c.key_at-source.result source, to_z-of_z w64 c.key_at-destination.result destination)
    (ap (λ z. a.rows.now ++ (record { key = z; source = c.key_at-source.result; destination = c.key_at-destination.result; values = c.in_ok-values.values }) ∷ []) c.key_at-key.ensures
    ∙ ap (λ z. a.rows.now ++ (record { key = s.key; source = z; destination = c.key_at-destination.result; values = c.in_ok-values.values }) ∷ []) c.key_at-source.ensures
    ∙ ap (λ z. a.rows.now ++ (record { key = s.key; source = (row (s, x)).source; destination = z; values = c.in_ok-values.values }) ∷ []) c.key_at-destination.ensures
    ∙ ap (λ vs. a.rows.now ++ (record { key = s.key; source = (row (s, x)).source; destination = (row (s, x)).destination; values = vs }) ∷ []) c.in_ok-values.ensures
    ∙ ap (λ p. a.rows.now ++ row p ∷ []) (sym pair)
    ∙ ap (λ l. a.rows.now ++ l) (sym (one_row row edge_is_live (get_or pairs a.seat no_pair) live)))
