use Rattle.std.proofs.Common.{◌∙◌, sym, ap, FitsSigned, w64}
use Rattle.std.specs.List.{list_any}
use Rattle.std.specs.Prelude.{is_some}
use Rattle.std.proofs.lemmas.Int.{to_z-of_z}
use Rattle.graph_model.specs.Seats.{sits, seats_from}
use Rattle.graph_model.proofs.Positions.{position_any}
use Rattle.graph_model.proofs.table.Table.has.Goals as goal

pub returns : goal.returns
returns c =
    let t = c.self.inside in
    let fits : FitsSigned w64 c.args.key = c.ranges.key in
    let found = rw (to_z-of_z w64 c.args.key fits) at c.contains.ensures in
    found ∙ ap is_some (c.self.invariant.told.indexed c.args.key)
    ∙ position_any (sits c.args.key) (seats_from t.keys t.columns t.dead.items)
    ∙ ap (λ x. list_any (sits c.args.key) x.seats) c.self.view_is
