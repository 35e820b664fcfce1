use Rattle.std.proofs.Common.{◌≡◌, ◌<◌, ◌∙◌, true, None, Some, arith, sym, ap, subst, length, get_or, slice_get, FitsSigned, w64}
use Rattle.std.specs.Prelude.{IsTrue}
use Rattle.std.specs.List.{position, list_any}
use Rattle.std.proofs.lemmas.Int.{to_z-of_z}
use Rattle.column_types.specs.Value.{fits_kind}
use Rattle.column_types.specs.declared.kind.Kind.TheVariants as kind
use Rattle.graph_model.specs.declared.change.Change.TheVariants.{DeleteEdge}
use Rattle.graph_model.specs.Graph.{GraphData, edge_props_at, source_at, destination_at, source_table, destination_table}
use Rattle.graph_model.specs.Change.{misfit, changed}
use Rattle.graph_model.specs.Seats.{sits}
use Rattle.graph_model.specs.Stored.{seats_at, ends_at, no_ends, stored_graph}
use Rattle.graph_model.proofs.Rows.{has_position}
use Rattle.graph_model.proofs.Zips.{AllZip-length}
use Rattle.graph_model.proofs.EdgeChanges.{fits_delete}
use Rattle.graph_model.proofs.StoredRows.{has_edge_is, edge_kinds_at, kind_at}
use Rattle.graph_model.proofs.StoredVertices.{found_at}
use Rattle.graph_model.proofs.StoredEdges.{delete_edge_view, delete_edge_stored}
use Rattle.graph_model.proofs.Kept.{ends_counted, delete_counted}
use Rattle.graph_model.proofs.graph.Graph.drop_edge.Goals as goal

pub returns-in_default-clause-ok : goal.returns-in_default-clause-ok
returns-in_default-clause-ok c =
    let g = c.self.inside in
    let a = c.args in
    let key : FitsSigned w64 a.key = c.ranges.key in
    let now = stored_graph g.schema g.vertices g.edges g.ends in
    let fits = fits_delete now a.table a.key (subst (λ h. misfit h (DeleteEdge a.table a.key) ≡ None) (sym c.self.view_is) c.requires) in
    let within : a.table < length g.edges = omega (arith, fits.table, AllZip-length _ g.schema.edges g.edges c.self.invariant.stored.edge_kinds) in
    let told = rw (to_z-of_z w64 a.key key, c.as_slice.ensures) at c.seat_of.ensures in
    let there : list_any (sits a.key) (seats_at g.edges a.table) ≡ true = sym (has_edge_is g.schema g.vertices g.edges g.ends c.self.invariant.stored.long a.table a.key) ∙ fits.key in
    absurd (has_position (sits a.key) (seats_at g.edges a.table) there (sym told ∙ c.in_default.is))

pub remove_row-requires-clause-there : goal.remove_row-requires-clause-there
remove_row-requires-clause-there c =
    let g = c.self.inside in
    let a = c.args in
    let key : FitsSigned w64 a.key = c.ranges.key in
    let told = rw (to_z-of_z w64 a.key key, c.as_slice.ensures) at c.seat_of.ensures in
    let found = found_at (seats_at g.edges a.table) a.key c.in-Some.seat (sym told ∙ c.in-Some.is) in
    found.live

pub source_of-from-requires : goal.source_of-from-requires
source_of-from-requires c =
    let g = c.self.inside in
    let a = c.args in
    let key : FitsSigned w64 a.key = c.ranges.key in
    let now = stored_graph g.schema g.vertices g.edges g.ends in
    let fits = fits_delete now a.table a.key (subst (λ h. misfit h (DeleteEdge a.table a.key) ≡ None) (sym c.self.view_is) c.requires) in
    let within : a.table < length g.edges = omega (arith, fits.table, AllZip-length _ g.schema.edges g.edges c.self.invariant.stored.edge_kinds) in
    let told = rw (to_z-of_z w64 a.key key, c.as_slice.ensures) at c.seat_of.ensures in
    let found = found_at (seats_at g.edges a.table) a.key c.in-Some.seat (sym told ∙ c.in-Some.is) in
    omega (arith, fits.table, ap length c.edges.ensures)

pub destination_of-to-requires : goal.destination_of-to-requires
destination_of-to-requires c =
    let g = c.self.inside in
    let a = c.args in
    let key : FitsSigned w64 a.key = c.ranges.key in
    let now = stored_graph g.schema g.vertices g.edges g.ends in
    let fits = fits_delete now a.table a.key (subst (λ h. misfit h (DeleteEdge a.table a.key) ≡ None) (sym c.self.view_is) c.requires) in
    let within : a.table < length g.edges = omega (arith, fits.table, AllZip-length _ g.schema.edges g.edges c.self.invariant.stored.edge_kinds) in
    let told = rw (to_z-of_z w64 a.key key, c.as_slice.ensures) at c.seat_of.ensures in
    let found = found_at (seats_at g.edges a.table) a.key c.in-Some.seat (sym told ∙ c.in-Some.is) in
    omega (arith, fits.table, ap length c.edges-2.ensures)

pub ends_in_seat-ends-requires-clause-table : goal.ends_in_seat-ends-requires-clause-table
ends_in_seat-ends-requires-clause-table c =
    let g = c.self.inside in
    let a = c.args in
    let key : FitsSigned w64 a.key = c.ranges.key in
    let now = stored_graph g.schema g.vertices g.edges g.ends in
    let fits = fits_delete now a.table a.key (subst (λ h. misfit h (DeleteEdge a.table a.key) ≡ None) (sym c.self.view_is) c.requires) in
    let within : a.table < length g.edges = omega (arith, fits.table, AllZip-length _ g.schema.edges g.edges c.self.invariant.stored.edge_kinds) in
    let told = rw (to_z-of_z w64 a.key key, c.as_slice.ensures) at c.seat_of.ensures in
    let found = found_at (seats_at g.edges a.table) a.key c.in-Some.seat (sym told ∙ c.in-Some.is) in
    omega (arith, within, c.self.invariant.stored.lists, ap length c.as_slice-2.ensures)

pub ends_in_seat-ends-requires-clause-seat : goal.ends_in_seat-ends-requires-clause-seat
ends_in_seat-ends-requires-clause-seat c =
    let g = c.self.inside in
    let a = c.args in
    let key : FitsSigned w64 a.key = c.ranges.key in
    let now = stored_graph g.schema g.vertices g.edges g.ends in
    let fits = fits_delete now a.table a.key (subst (λ h. misfit h (DeleteEdge a.table a.key) ≡ None) (sym c.self.view_is) c.requires) in
    let within : a.table < length g.edges = omega (arith, fits.table, AllZip-length _ g.schema.edges g.edges c.self.invariant.stored.edge_kinds) in
    let told = rw (to_z-of_z w64 a.key key, c.as_slice.ensures) at c.seat_of.ensures in
    let found = found_at (seats_at g.edges a.table) a.key c.in-Some.seat (sym told ∙ c.in-Some.is) in
    omega (arith, found.within, c.self.invariant.stored.long a.table, ap (λ l. length (ends_at l a.table)) c.as_slice-2.ensures)

pub forget_ends-requires : goal.forget_ends-requires
forget_ends-requires c =
    let g = c.self.inside in
    let a = c.args in
    let key : FitsSigned w64 a.key = c.ranges.key in
    let now = stored_graph g.schema g.vertices g.edges g.ends in
    let fits = fits_delete now a.table a.key (subst (λ h. misfit h (DeleteEdge a.table a.key) ≡ None) (sym c.self.view_is) c.requires) in
    let within : a.table < length g.edges = omega (arith, fits.table, AllZip-length _ g.schema.edges g.edges c.self.invariant.stored.edge_kinds) in
    let told = rw (to_z-of_z w64 a.key key, c.as_slice.ensures) at c.seat_of.ensures in
    let found = found_at (seats_at g.edges a.table) a.key c.in-Some.seat (sym told ∙ c.in-Some.is) in
    let from : c.source_of-from.result ≡ source_at g.schema a.table = c.source_of-from.ensures ∙ ap (λ l. source_table (slice_get l a.table)) c.edges.ensures in
    let to : c.destination_of-to.result ≡ destination_at g.schema a.table = c.destination_of-to.ensures ∙ ap (λ l. destination_table (slice_get l a.table)) c.edges-2.ensures in
    let end : c.ends_in_seat-ends.result ≡ get_or (ends_at g.ends a.table) c.in-Some.seat no_ends = c.ends_in_seat-ends.ensures ∙ ap (λ l. get_or (ends_at l a.table) c.in-Some.seat no_ends) c.as_slice-2.ensures in
    rw (from, to, end) (ends_counted g.schema g.vertices g.edges g.ends c.self.invariant.stored a.table within a.key c.in-Some.seat found g.counts c.self.invariant.counted)

pub invariant_of-self-2 : goal.invariant_of-self-2
invariant_of-self-2 c =
    let g = c.self.inside in
    let a = c.args in
    let key : FitsSigned w64 a.key = c.ranges.key in
    let now = stored_graph g.schema g.vertices g.edges g.ends in
    let fits = fits_delete now a.table a.key (subst (λ h. misfit h (DeleteEdge a.table a.key) ≡ None) (sym c.self.view_is) c.requires) in
    let within : a.table < length g.edges = omega (arith, fits.table, AllZip-length _ g.schema.edges g.edges c.self.invariant.stored.edge_kinds) in
    let told = rw (to_z-of_z w64 a.key key, c.as_slice.ensures) at c.seat_of.ensures in
    let found = found_at (seats_at g.edges a.table) a.key c.in-Some.seat (sym told ∙ c.in-Some.is) in
    let from : c.source_of-from.result ≡ source_at g.schema a.table = c.source_of-from.ensures ∙ ap (λ l. source_table (slice_get l a.table)) c.edges.ensures in
    let to : c.destination_of-to.result ≡ destination_at g.schema a.table = c.destination_of-to.ensures ∙ ap (λ l. destination_table (slice_get l a.table)) c.edges-2.ensures in
    let end : c.ends_in_seat-ends.result ≡ get_or (ends_at g.ends a.table) c.in-Some.seat no_ends = c.ends_in_seat-ends.ensures ∙ ap (λ l. get_or (ends_at l a.table) c.in-Some.seat no_ends) c.as_slice-2.ensures in
    let count = rw (from, to, end) at c.forget_ends.ensures in
    rw c.in_ok-remove_row.ensures.ok
    (record {
      stored = delete_edge_stored g.schema g.vertices g.edges g.ends c.self.invariant.stored a.table within a.key c.in-Some.seat found fits;
      counted = delete_counted g.schema g.vertices g.edges g.ends c.self.invariant.stored a.table within a.key c.in-Some.seat found g.counts c.forget_ends.new.counts c.self.invariant.counted count;
    })

pub returns-clause-ok : goal.returns-clause-ok
returns-clause-ok c =
    let g = c.self.inside in
    let a = c.args in
    let key : FitsSigned w64 a.key = c.ranges.key in
    let now = stored_graph g.schema g.vertices g.edges g.ends in
    let fits = fits_delete now a.table a.key (subst (λ h. misfit h (DeleteEdge a.table a.key) ≡ None) (sym c.self.view_is) c.requires) in
    let within : a.table < length g.edges = omega (arith, fits.table, AllZip-length _ g.schema.edges g.edges c.self.invariant.stored.edge_kinds) in
    let told = rw (to_z-of_z w64 a.key key, c.as_slice.ensures) at c.seat_of.ensures in
    let found = found_at (seats_at g.edges a.table) a.key c.in-Some.seat (sym told ∙ c.in-Some.is) in
    rw c.in_ok-remove_row.ensures.ok (delete_edge_view g.schema g.vertices g.edges g.ends c.self.invariant.stored a.table within a.key c.in-Some.seat found ∙ ap (λ h. changed h (DeleteEdge a.table a.key)) c.self.view_is)
