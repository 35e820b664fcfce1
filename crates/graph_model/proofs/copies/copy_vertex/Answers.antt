use Rattle.std.proofs.Common.{◌++◌, ◌∷◌, [], ◌∙◌, sym, ap, get_or, rules, FitsSigned, w64}
use Rattle.std.proofs.lemmas.Int.{to_z-of_z}
use Rattle.graph_model.specs.declared.row.VertexRow.{VertexRow}
use Rattle.graph_model.specs.Seats.{is_live, no_seat}
use Rattle.graph_model.specs.Stored.{vertex_row}
use Rattle.graph_model.proofs.SeatRows.{no_row, one_row}
use Rattle.graph_model.proofs.copies.copy_vertex.Goals as goal

pub returns-then-not-sits : goal.returns-then-not-sits
returns-then-not-sits c =
    no_row vertex_row is_live c.args.rows.now (get_or c.args.table.now.seats c.args.seat no_seat) (sym c.sits.ensures ∙ c.if-not-sits.true)

pub returns : goal.returns
returns c =
    let s = get_or c.args.table.now.seats c.args.seat no_seat in
    let live = sym c.sits.ensures ∙ c.if-not-sits.false in
    let fits : FitsSigned w64 c.key_at-key.result = search rules in
    rw (c.in_ok-push.ensures.ok, to_z-of_z w64 c.key_at-key.result fits)
    (ap (λ z. c.args.rows.now ++ (record { key = z; values = c.in_ok-values.values }) ∷ []) c.key_at-key.ensures
    ∙ ap (λ vs. c.args.rows.now ++ (record { key = s.key; values = vs }) ∷ []) c.in_ok-values.ensures
    ∙ ap (λ l. c.args.rows.now ++ l) (sym (one_row vertex_row is_live s live)))
