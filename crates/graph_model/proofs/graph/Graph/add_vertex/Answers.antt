use Rattle.std.proofs.Common.{◌≡◌, ◌<◌, ◌∙◌, None, arith, sym, ap, subst, length, FitsSigned, w64}
use Rattle.std.proofs.lemmas.Int.{to_z-of_z}
use Rattle.graph_model.specs.declared.change.Change.TheVariants.{InsertVertex}
use Rattle.graph_model.specs.Graph.{GraphData, vertex_props_at}
use Rattle.graph_model.specs.Change.{misfit, changed}
use Rattle.graph_model.specs.Seats.{Fit}
use Rattle.graph_model.specs.Stored.{stored_graph}
use Rattle.graph_model.proofs.Zips.{AllZip-length}
use Rattle.graph_model.proofs.VertexChanges.{fits_vertex}
use Rattle.graph_model.proofs.StoredRows.{not_here, vertex_taken_is, vertex_kinds_at, fit_of}
use Rattle.graph_model.proofs.StoredVertices.{insert_view, insert_stored}
use Rattle.graph_model.proofs.graph.Graph.add_vertex.Goals as goal

pub push_row-requires-clause-table : goal.push_row-requires-clause-table
push_row-requires-clause-table c =
    let g = c.self.inside in
    let a = c.args in
    let fits = fits_vertex (stored_graph g.schema g.vertices g.edges g.ends) a.table a.key a.values (subst (λ h. misfit h (InsertVertex a.table a.key a.values) ≡ None) (sym c.self.view_is) c.requires) in
    omega (arith, fits.table, AllZip-length _ g.schema.vertices g.vertices c.self.invariant.stored.vertex_kinds)

pub push_row-requires-clause-new : goal.push_row-requires-clause-new
push_row-requires-clause-new c =
    let g = c.self.inside in
    let a = c.args in
    let key : FitsSigned w64 a.key = c.ranges.key in
    let fits = fits_vertex (stored_graph g.schema g.vertices g.edges g.ends) a.table a.key a.values (subst (λ h. misfit h (InsertVertex a.table a.key a.values) ≡ None) (sym c.self.view_is) c.requires) in
    rw (to_z-of_z w64 a.key key) (not_here g.schema.keys a.key g.vertices a.table (sym (vertex_taken_is g.schema g.vertices g.edges g.ends a.key a.table) ∙ fits.key))

pub push_row-requires-clause-fit : goal.push_row-requires-clause-fit
push_row-requires-clause-fit c =
    let g = c.self.inside in
    let a = c.args in
    let fits = fits_vertex (stored_graph g.schema g.vertices g.edges g.ends) a.table a.key a.values (subst (λ h. misfit h (InsertVertex a.table a.key a.values) ≡ None) (sym c.self.view_is) c.requires) in
    subst (λ ks. Fit ks a.values) (sym (vertex_kinds_at g.schema.vertices g.vertices a.table c.self.invariant.stored.vertex_kinds fits.table)) (fit_of (vertex_props_at g.schema a.table) a.values fits.count fits.kinds)

pub invariant_of-self-2 : goal.invariant_of-self-2
invariant_of-self-2 c =
    let g = c.self.inside in
    let a = c.args in
    let key : FitsSigned w64 a.key = c.ranges.key in
    let fits = fits_vertex (stored_graph g.schema g.vertices g.edges g.ends) a.table a.key a.values (subst (λ h. misfit h (InsertVertex a.table a.key a.values) ≡ None) (sym c.self.view_is) c.requires) in
    let within : a.table < length g.vertices = omega (arith, fits.table, AllZip-length _ g.schema.vertices g.vertices c.self.invariant.stored.vertex_kinds) in
    rw (c.in_ok-push_row.ensures.ok, to_z-of_z w64 a.key key) (record { stored = insert_stored g.schema g.vertices g.edges g.ends c.self.invariant.stored a.table within a.key a.values fits; counted = c.self.invariant.counted })

pub returns-clause-ok : goal.returns-clause-ok
returns-clause-ok c =
    let g = c.self.inside in
    let a = c.args in
    let key : FitsSigned w64 a.key = c.ranges.key in
    let fits = fits_vertex (stored_graph g.schema g.vertices g.edges g.ends) a.table a.key a.values (subst (λ h. misfit h (InsertVertex a.table a.key a.values) ≡ None) (sym c.self.view_is) c.requires) in
    let within : a.table < length g.vertices = omega (arith, fits.table, AllZip-length _ g.schema.vertices g.vertices c.self.invariant.stored.vertex_kinds) in
    rw (c.in_ok-push_row.ensures.ok, to_z-of_z w64 a.key key)
    (insert_view g.schema g.vertices g.edges g.ends c.self.invariant.stored a.table within a.key a.values ∙ ap (λ h. changed h (InsertVertex a.table a.key a.values)) c.self.view_is)
