use Rattle.std.proofs.Common.{◌∙◌, sym, ap, length}
use Rattle.graph_model.proofs.Memory.{length_seats}
use Rattle.graph_model.proofs.table.Table.seats.Goals as goal

pub returns : goal.returns
returns c =
    let t = c.self.inside in
    c.len.ensures ∙ sym (length_seats t.keys t.columns t.dead.items) ∙ ap (λ x. length x.seats) c.self.view_is
