use Rattle.std.proofs.Common.{◌≡◌, ◌*◌, ◌∙◌, arith, sym, ap, length}
use Rattle.std.specs.List.{sum_by}
use Rattle.graph_model.specs.Seats.{live_seats}
use Rattle.graph_model.proofs.Memory.{cells_are}
use Rattle.graph_model.proofs.table.Table.cells.Goals as goal

pub overflow_mul-result : goal.overflow_mul-result
overflow_mul-result c =
    let t = c.self.inside in
    let cells = ap (λ n. t.live * n) c.len.ensures ∙ ap (λ n. n * length t.columns) c.self.invariant.told.count ∙ sym (cells_are t.keys t.columns t.dead.items) ∙ ap (λ x. sum_by (λ s. length s.values) (live_seats x.seats)) c.self.view_is in
    omega (arith, cells, c.requires)

pub overflow_cast-result-2 : goal.overflow_cast-result-2
overflow_cast-result-2 c =
    let t = c.self.inside in
    let cells = ap (λ n. t.live * n) c.len.ensures ∙ ap (λ n. n * length t.columns) c.self.invariant.told.count ∙ sym (cells_are t.keys t.columns t.dead.items) ∙ ap (λ x. sum_by (λ s. length s.values) (live_seats x.seats)) c.self.view_is in
    omega (arith, cells, c.requires)

pub returns : goal.returns
returns c =
    let t = c.self.inside in
    ap (λ n. t.live * n) c.len.ensures ∙ ap (λ n. n * length t.columns) c.self.invariant.told.count ∙ sym (cells_are t.keys t.columns t.dead.items) ∙ ap (λ x. sum_by (λ s. length s.values) (live_seats x.seats)) c.self.view_is
