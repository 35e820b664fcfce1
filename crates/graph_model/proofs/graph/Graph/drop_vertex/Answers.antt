use Rattle.std.proofs.Common.{◌≡◌, ◌<◌, ◌∙◌, true, None, Some, arith, sym, ap, subst, length, get_or, FitsSigned, w64}
use Rattle.std.specs.Prelude.{IsTrue}
use Rattle.std.specs.List.{position, list_any}
use Rattle.std.proofs.lemmas.Int.{to_z-of_z}
use Rattle.column_types.specs.Value.{fits_kind}
use Rattle.column_types.specs.declared.kind.Kind.TheVariants as kind
use Rattle.graph_model.specs.declared.change.Change.TheVariants.{DeleteVertex}
use Rattle.graph_model.specs.Graph.{GraphData, vertex_props_at}
use Rattle.graph_model.specs.Change.{misfit, changed}
use Rattle.graph_model.specs.Seats.{sits}
use Rattle.graph_model.specs.Stored.{seats_at, stored_graph}
use Rattle.graph_model.proofs.Rows.{has_position}
use Rattle.graph_model.proofs.Zips.{AllZip-length}
use Rattle.graph_model.proofs.VertexChanges.{fits_delete}
use Rattle.graph_model.proofs.StoredRows.{has_vertex_is, vertex_kinds_at, kind_at}
use Rattle.graph_model.proofs.StoredVertices.{found_at, delete_view, delete_stored}
use Rattle.graph_model.proofs.graph.Graph.drop_vertex.Goals as goal

pub returns-in_default-clause-ok : goal.returns-in_default-clause-ok
returns-in_default-clause-ok c =
    let g = c.self.inside in
    let a = c.args in
    let key : FitsSigned w64 a.key = c.ranges.key in
    let now = stored_graph g.schema g.vertices g.edges g.ends in
    let fits = fits_delete now a.table a.key (subst (λ h. misfit h (DeleteVertex a.table a.key) ≡ None) (sym c.self.view_is) c.requires) in
    let within : a.table < length g.vertices = omega (arith, fits.table, AllZip-length _ g.schema.vertices g.vertices c.self.invariant.stored.vertex_kinds) in
    let told = rw (to_z-of_z w64 a.key key, c.as_slice.ensures) at c.seat_of.ensures in
    let there : list_any (sits a.key) (seats_at g.vertices a.table) ≡ true = sym (has_vertex_is g.schema g.vertices g.edges g.ends a.table a.key) ∙ fits.key in
    absurd (has_position (sits a.key) (seats_at g.vertices a.table) there (sym told ∙ c.in_default.is))

pub remove_row-requires-clause-there : goal.remove_row-requires-clause-there
remove_row-requires-clause-there c =
    let g = c.self.inside in
    let a = c.args in
    let key : FitsSigned w64 a.key = c.ranges.key in
    let told = rw (to_z-of_z w64 a.key key, c.as_slice.ensures) at c.seat_of.ensures in
    let found = found_at (seats_at g.vertices a.table) a.key c.in-Some.seat (sym told ∙ c.in-Some.is) in
    found.live

pub invariant_of-self-2 : goal.invariant_of-self-2
invariant_of-self-2 c =
    let g = c.self.inside in
    let a = c.args in
    let key : FitsSigned w64 a.key = c.ranges.key in
    let now = stored_graph g.schema g.vertices g.edges g.ends in
    let fits = fits_delete now a.table a.key (subst (λ h. misfit h (DeleteVertex a.table a.key) ≡ None) (sym c.self.view_is) c.requires) in
    let within : a.table < length g.vertices = omega (arith, fits.table, AllZip-length _ g.schema.vertices g.vertices c.self.invariant.stored.vertex_kinds) in
    let told = rw (to_z-of_z w64 a.key key, c.as_slice.ensures) at c.seat_of.ensures in
    let found = found_at (seats_at g.vertices a.table) a.key c.in-Some.seat (sym told ∙ c.in-Some.is) in
    rw c.in_ok-remove_row.ensures.ok (record { stored = delete_stored g.schema g.vertices g.edges g.ends c.self.invariant.stored a.table within a.key c.in-Some.seat found fits.free fits; counted = c.self.invariant.counted })

pub returns-clause-ok : goal.returns-clause-ok
returns-clause-ok c =
    let g = c.self.inside in
    let a = c.args in
    let key : FitsSigned w64 a.key = c.ranges.key in
    let now = stored_graph g.schema g.vertices g.edges g.ends in
    let fits = fits_delete now a.table a.key (subst (λ h. misfit h (DeleteVertex a.table a.key) ≡ None) (sym c.self.view_is) c.requires) in
    let within : a.table < length g.vertices = omega (arith, fits.table, AllZip-length _ g.schema.vertices g.vertices c.self.invariant.stored.vertex_kinds) in
    let told = rw (to_z-of_z w64 a.key key, c.as_slice.ensures) at c.seat_of.ensures in
    let found = found_at (seats_at g.vertices a.table) a.key c.in-Some.seat (sym told ∙ c.in-Some.is) in
    rw c.in_ok-remove_row.ensures.ok (delete_view g.schema g.vertices g.edges g.ends c.self.invariant.stored a.table within a.key c.in-Some.seat found fits.free ∙ ap (λ h. changed h (DeleteVertex a.table a.key)) c.self.view_is)
