use Rattle.std.proofs.Common.{◌≡◌, ◌<◌, ◌∙◌, true, None, Some, arith, sym, ap, subst, length, get_or, FitsSigned, w64}
use Rattle.std.specs.Prelude.{IsTrue}
use Rattle.std.specs.List.{position, list_any}
use Rattle.std.proofs.lemmas.Int.{to_z-of_z}
use Rattle.column_types.specs.Value.{fits_kind}
use Rattle.column_types.specs.declared.kind.Kind.TheVariants as kind
use Rattle.graph_model.specs.declared.change.Change.TheVariants.{SetVertex}
use Rattle.graph_model.specs.Graph.{GraphData, vertex_props_at}
use Rattle.graph_model.specs.Change.{misfit, changed}
use Rattle.graph_model.specs.Seats.{sits}
use Rattle.graph_model.specs.Stored.{seats_at, stored_graph}
use Rattle.graph_model.proofs.Rows.{has_position}
use Rattle.graph_model.proofs.Zips.{AllZip-length}
use Rattle.graph_model.proofs.VertexChanges.{fits_set}
use Rattle.graph_model.proofs.StoredRows.{has_vertex_is, vertex_kinds_at, kind_at}
use Rattle.graph_model.proofs.StoredVertices.{found_at, set_view, set_stored}
use Rattle.graph_model.proofs.graph.Graph.put_vertex_value.Goals as goal

pub returns-in_default-clause-ok : goal.returns-in_default-clause-ok
returns-in_default-clause-ok c =
    let g = c.self.inside in
    let a = c.args in
    let key : FitsSigned w64 a.key = c.ranges.key in
    let now = stored_graph g.schema g.vertices g.edges g.ends in
    let fits = fits_set now a.table a.key a.prop a.value (subst (λ h. misfit h (SetVertex a.table a.key a.prop a.value) ≡ None) (sym c.self.view_is) c.requires) in
    let within : a.table < length g.vertices = omega (arith, fits.table, AllZip-length _ g.schema.vertices g.vertices c.self.invariant.stored.vertex_kinds) in
    let told = rw (to_z-of_z w64 a.key key, c.as_slice.ensures) at c.seat_of.ensures in
    let there : list_any (sits a.key) (seats_at g.vertices a.table) ≡ true = sym (has_vertex_is g.schema g.vertices g.edges g.ends a.table a.key) ∙ fits.key in
    absurd (has_position (sits a.key) (seats_at g.vertices a.table) there (sym told ∙ c.in_default.is))

pub set_value-requires-clause-prop : goal.set_value-requires-clause-prop
set_value-requires-clause-prop c =
    let g = c.self.inside in
    let a = c.args in
    let now = stored_graph g.schema g.vertices g.edges g.ends in
    let fits = fits_set now a.table a.key a.prop a.value (subst (λ h. misfit h (SetVertex a.table a.key a.prop a.value) ≡ None) (sym c.self.view_is) c.requires) in
    let kinds = vertex_kinds_at g.schema.vertices g.vertices a.table c.self.invariant.stored.vertex_kinds fits.table in
    let ok = kind_at (vertex_props_at g.schema a.table) a.prop a.value fits.kind in
    omega (arith, ok.0, ap length kinds)

pub set_value-requires-clause-fits : goal.set_value-requires-clause-fits
set_value-requires-clause-fits c =
    let g = c.self.inside in
    let a = c.args in
    let now = stored_graph g.schema g.vertices g.edges g.ends in
    let fits = fits_set now a.table a.key a.prop a.value (subst (λ h. misfit h (SetVertex a.table a.key a.prop a.value) ≡ None) (sym c.self.view_is) c.requires) in
    let kinds = vertex_kinds_at g.schema.vertices g.vertices a.table c.self.invariant.stored.vertex_kinds fits.table in
    let ok = kind_at (vertex_props_at g.schema a.table) a.prop a.value fits.kind in
    subst (λ ks. IsTrue (fits_kind (get_or ks a.prop kind.Long) a.value)) (sym kinds) ok.1

pub invariant_of-self-2 : goal.invariant_of-self-2
invariant_of-self-2 c =
    let g = c.self.inside in
    let a = c.args in
    let key : FitsSigned w64 a.key = c.ranges.key in
    let now = stored_graph g.schema g.vertices g.edges g.ends in
    let fits = fits_set now a.table a.key a.prop a.value (subst (λ h. misfit h (SetVertex a.table a.key a.prop a.value) ≡ None) (sym c.self.view_is) c.requires) in
    let within : a.table < length g.vertices = omega (arith, fits.table, AllZip-length _ g.schema.vertices g.vertices c.self.invariant.stored.vertex_kinds) in
    let told = rw (to_z-of_z w64 a.key key, c.as_slice.ensures) at c.seat_of.ensures in
    let found = found_at (seats_at g.vertices a.table) a.key c.in-Some.seat (sym told ∙ c.in-Some.is) in
    rw c.in_ok-set_value.ensures.ok (record { stored = set_stored g.schema g.vertices g.edges g.ends c.self.invariant.stored a.table within a.key c.in-Some.seat found a.prop a.value fits; counted = c.self.invariant.counted })

pub returns-clause-ok : goal.returns-clause-ok
returns-clause-ok c =
    let g = c.self.inside in
    let a = c.args in
    let key : FitsSigned w64 a.key = c.ranges.key in
    let now = stored_graph g.schema g.vertices g.edges g.ends in
    let fits = fits_set now a.table a.key a.prop a.value (subst (λ h. misfit h (SetVertex a.table a.key a.prop a.value) ≡ None) (sym c.self.view_is) c.requires) in
    let within : a.table < length g.vertices = omega (arith, fits.table, AllZip-length _ g.schema.vertices g.vertices c.self.invariant.stored.vertex_kinds) in
    let told = rw (to_z-of_z w64 a.key key, c.as_slice.ensures) at c.seat_of.ensures in
    let found = found_at (seats_at g.vertices a.table) a.key c.in-Some.seat (sym told ∙ c.in-Some.is) in
    rw c.in_ok-set_value.ensures.ok (set_view g.schema g.vertices g.edges g.ends c.self.invariant.stored a.table within a.key c.in-Some.seat found a.prop a.value ∙ ap (λ h. changed h (SetVertex a.table a.key a.prop a.value)) c.self.view_is)
