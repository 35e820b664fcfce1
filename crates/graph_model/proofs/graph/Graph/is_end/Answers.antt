use Rattle.std.proofs.Common.{◌≡◌, ◌∙◌, true, sym, ap, FitsSigned, w64}
use Rattle.std.specs.Prelude.{nat_lt}
use Rattle.std.specs.List.{list_any}
use Rattle.std.proofs.lemmas.Int.{to_z-of_z}
use Rattle.graph_model.specs.Keys.{rows_at}
use Rattle.graph_model.specs.Graph.{is_end, has_vertex_in}
use Rattle.graph_model.specs.Seats.{sits}
use Rattle.graph_model.specs.Stored.{seats_at}
use Rattle.graph_model.proofs.Rows.{has_position}
use Rattle.graph_model.proofs.StoredRows.{has_vertex_is}
use Rattle.graph_model.proofs.StoredVertices.{found_at}
use Rattle.graph_model.specs.Counts.{count_at}
use Rattle.graph_model.proofs.SeatEnds.{seat_end_is}
use Rattle.graph_model.proofs.EndCounts.{count_tells}
use Rattle.graph_model.proofs.graph.Graph.is_end.Goals as goal

pub returns-in-Some : goal.returns-in-Some
returns-in-Some c =
    let g = c.self.inside in
    let a = c.args in
    let key : FitsSigned w64 a.key = c.ranges.key in
    let place = rw (to_z-of_z w64 a.key key, c.as_slice.ensures) at c.seat_of.ensures in
    let found = found_at (seats_at g.vertices a.table) a.key c.in-Some.seat (sym place ∙ c.in-Some.is) in
    let number = c.count_of.ensures ∙ ap (λ l. count_at l a.table c.in-Some.seat) c.as_slice-in-Some.ensures ∙ c.self.invariant.counted.each a.table c.in-Some.seat in
    ap (nat_lt 0) number
    ∙ count_tells g.schema.edges g.edges g.ends a.table c.in-Some.seat
    ∙ seat_end_is g.schema g.vertices g.edges g.ends c.self.invariant.stored a.table a.key c.in-Some.seat found
    ∙ ap (λ x. is_end x.schema a.table a.key x.edges) c.self.view_is

pub returns-in-None : goal.returns-in-None
returns-in-None c =
    let g = c.self.inside in
    let a = c.args in
    let key : FitsSigned w64 a.key = c.ranges.key in
    let place = rw (to_z-of_z w64 a.key key, c.as_slice.ensures) at c.seat_of.ensures in
    let has : has_vertex_in a.key (rows_at c.args.self.now.vertices a.table) ≡ true = c.requires in
    let there : list_any (sits a.key) (seats_at g.vertices a.table) ≡ true = sym (has_vertex_is g.schema g.vertices g.edges g.ends a.table a.key) ∙ ap (λ x. has_vertex_in a.key (rows_at x.vertices a.table)) c.self.view_is ∙ has in
    absurd (has_position (sits a.key) (seats_at g.vertices a.table) there (sym place ∙ c.in-None.is))
