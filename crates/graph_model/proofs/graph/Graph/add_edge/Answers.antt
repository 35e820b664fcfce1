use Rattle.std.proofs.Common.{◌≡◌, ◌<◌, ◌∙◌, true, None, arith, sym, ap, subst, length, slice_get, FitsSigned, w64}
use Rattle.std.specs.List.{list_any}
use Rattle.std.proofs.lemmas.Int.{to_z-of_z}
use Rattle.std.proofs.lemmas.Bool.Decides.{Decides-int_eq}
use Rattle.std.proofs.lemmas.Result.{err_from_is_err_and}
use Rattle.graph_model.specs.declared.change.Change.TheVariants.{InsertEdge}
use Rattle.graph_model.specs.Graph.{GraphData, edge_props_at, source_at, destination_at, source_table, destination_table}
use Rattle.graph_model.specs.Change.{misfit, changed}
use Rattle.graph_model.specs.Seats.{Fit, sits, key_at}
use Rattle.graph_model.specs.Stored.{seats_at, stored_graph, PutsEnds}
use Rattle.graph_model.proofs.Zips.{AllZip-length}
use Rattle.graph_model.proofs.Positions.{position_there}
use Rattle.graph_model.proofs.EdgeChanges.{fits_edge}
use Rattle.graph_model.proofs.StoredRows.{not_here, has_vertex_is, edge_taken_is, edge_kinds_at, fit_of}
use Rattle.graph_model.proofs.StoredVertices.{found_at}
use Rattle.graph_model.proofs.StoredEdges.{insert_edge_view, insert_edge_stored, spare_view, spare_stored}
use Rattle.graph_schema.proofs.Sound.{ends_in_range}
use Rattle.graph_model.proofs.ColumnsOf.{range_at}
use Rattle.graph_model.proofs.Kept.{grown_counted, counts_few, spare_counted, insert_counted}
use Rattle.graph_model.proofs.SeatEnds.{both_found, both_missing}
use Rattle.graph_model.proofs.graph.Graph.add_edge.Goals as goal

pub returns-in_default-clause-ok : goal.returns-in_default-clause-ok
returns-in_default-clause-ok c =
    let g = c.self.inside in
    let a = c.args in
    let now = stored_graph g.schema g.vertices g.edges g.ends in
    let fits = fits_edge now a.table a.key a.source a.destination a.values (subst (λ h. misfit h (InsertEdge a.table a.key a.source a.destination a.values) ≡ None) (sym c.self.view_is) c.requires) in
    let within : a.table < length g.edges = omega (arith, fits.table, AllZip-length _ g.schema.edges g.edges c.self.invariant.stored.edge_kinds) in
    let key : FitsSigned w64 a.key = c.ranges.key in
    let source : FitsSigned w64 a.source = c.ranges.source in
    let destination : FitsSigned w64 a.destination = c.ranges.destination in
    let told = rw (to_z-of_z w64 a.source source, to_z-of_z w64 a.destination destination, c.as_slice.ensures, c.edges-shapes.ensures) at c.ends_of.ensures in
    let from : list_any (sits a.source) (seats_at g.vertices (source_at g.schema a.table)) ≡ true = sym (has_vertex_is g.schema g.vertices g.edges g.ends (source_at g.schema a.table) a.source) ∙ fits.source in
    let to : list_any (sits a.destination) (seats_at g.vertices (destination_at g.schema a.table)) ≡ true = sym (has_vertex_is g.schema g.vertices g.edges g.ends (destination_at g.schema a.table) a.destination) ∙ fits.destination in
    absurd (both_missing _ _ _ _ (position_there (sits a.source) (seats_at g.vertices (source_at g.schema a.table)) from) (position_there (sits a.destination) (seats_at g.vertices (destination_at g.schema a.table)) to) (sym told ∙ c.in_default.is))

pub seat_count-place-requires : goal.seat_count-place-requires
seat_count-place-requires c =
    let g = c.self.inside in
    let a = c.args in
    let now = stored_graph g.schema g.vertices g.edges g.ends in
    let fits = fits_edge now a.table a.key a.source a.destination a.values (subst (λ h. misfit h (InsertEdge a.table a.key a.source a.destination a.values) ≡ None) (sym c.self.view_is) c.requires) in
    let within : a.table < length g.edges = omega (arith, fits.table, AllZip-length _ g.schema.edges g.edges c.self.invariant.stored.edge_kinds) in
    omega (arith, within, ap length c.as_slice-2.ensures)

pub put_ends_in-requires-clause-table : goal.put_ends_in-requires-clause-table
put_ends_in-requires-clause-table c =
    let g = c.self.inside in
    let a = c.args in
    let now = stored_graph g.schema g.vertices g.edges g.ends in
    let fits = fits_edge now a.table a.key a.source a.destination a.values (subst (λ h. misfit h (InsertEdge a.table a.key a.source a.destination a.values) ≡ None) (sym c.self.view_is) c.requires) in
    let within : a.table < length g.edges = omega (arith, fits.table, AllZip-length _ g.schema.edges g.edges c.self.invariant.stored.edge_kinds) in
    omega (arith, within, c.self.invariant.stored.lists)

pub push_row-requires-clause-new : goal.push_row-requires-clause-new
push_row-requires-clause-new c =
    let g = c.self.inside in
    let a = c.args in
    let now = stored_graph g.schema g.vertices g.edges g.ends in
    let fits = fits_edge now a.table a.key a.source a.destination a.values (subst (λ h. misfit h (InsertEdge a.table a.key a.source a.destination a.values) ≡ None) (sym c.self.view_is) c.requires) in
    let within : a.table < length g.edges = omega (arith, fits.table, AllZip-length _ g.schema.edges g.edges c.self.invariant.stored.edge_kinds) in
    let key : FitsSigned w64 a.key = c.ranges.key in
    rw (to_z-of_z w64 a.key key) (not_here g.schema.keys a.key g.edges a.table (sym (edge_taken_is g.schema g.vertices g.edges g.ends c.self.invariant.stored.long a.key a.table) ∙ fits.key))

pub push_row-requires-clause-fit : goal.push_row-requires-clause-fit
push_row-requires-clause-fit c =
    let g = c.self.inside in
    let a = c.args in
    let now = stored_graph g.schema g.vertices g.edges g.ends in
    let fits = fits_edge now a.table a.key a.source a.destination a.values (subst (λ h. misfit h (InsertEdge a.table a.key a.source a.destination a.values) ≡ None) (sym c.self.view_is) c.requires) in
    let within : a.table < length g.edges = omega (arith, fits.table, AllZip-length _ g.schema.edges g.edges c.self.invariant.stored.edge_kinds) in
    subst (λ ks. Fit ks a.values) (sym (edge_kinds_at g.schema.edges g.edges a.table c.self.invariant.stored.edge_kinds fits.table)) (fit_of (edge_props_at g.schema a.table) a.values fits.count fits.kinds)

pub source_of-from-requires : goal.source_of-from-requires
source_of-from-requires c =
    let g = c.self.inside in
    let a = c.args in
    let now = stored_graph g.schema g.vertices g.edges g.ends in
    let fits = fits_edge now a.table a.key a.source a.destination a.values (subst (λ h. misfit h (InsertEdge a.table a.key a.source a.destination a.values) ≡ None) (sym c.self.view_is) c.requires) in
    let within : a.table < length g.edges = omega (arith, fits.table, AllZip-length _ g.schema.edges g.edges c.self.invariant.stored.edge_kinds) in
    omega (arith, fits.table, ap length c.edges-shapes.ensures)

pub destination_of-to-requires : goal.destination_of-to-requires
destination_of-to-requires c =
    let g = c.self.inside in
    let a = c.args in
    let now = stored_graph g.schema g.vertices g.edges g.ends in
    let fits = fits_edge now a.table a.key a.source a.destination a.values (subst (λ h. misfit h (InsertEdge a.table a.key a.source a.destination a.values) ≡ None) (sym c.self.view_is) c.requires) in
    let within : a.table < length g.edges = omega (arith, fits.table, AllZip-length _ g.schema.edges g.edges c.self.invariant.stored.edge_kinds) in
    omega (arith, fits.table, ap length c.edges-shapes.ensures)

pub grow_for-requires-clause-from : goal.grow_for-requires-clause-from
grow_for-requires-clause-from c =
    let g = c.self.inside in
    let a = c.args in
    let now = stored_graph g.schema g.vertices g.edges g.ends in
    let fits = fits_edge now a.table a.key a.source a.destination a.values (subst (λ h. misfit h (InsertEdge a.table a.key a.source a.destination a.values) ≡ None) (sym c.self.view_is) c.requires) in
    let within : a.table < length g.edges = omega (arith, fits.table, AllZip-length _ g.schema.edges g.edges c.self.invariant.stored.edge_kinds) in
    let from : c.source_of-from.result ≡ source_at g.schema a.table = c.source_of-from.ensures ∙ ap (λ l. source_table (slice_get l a.table)) c.edges-shapes.ensures in
    let to : c.destination_of-to.result ≡ destination_at g.schema a.table = c.destination_of-to.ensures ∙ ap (λ l. destination_table (slice_get l a.table)) c.edges-shapes.ensures in
    let range = range_at g.schema.edges a.table (length g.schema.vertices) (ends_in_range g.schema c.self.invariant.stored.graph.schema) fits.table in
    omega (arith, from, range.0, c.self.invariant.counted.lists)

pub grow_for-requires-clause-to : goal.grow_for-requires-clause-to
grow_for-requires-clause-to c =
    let g = c.self.inside in
    let a = c.args in
    let now = stored_graph g.schema g.vertices g.edges g.ends in
    let fits = fits_edge now a.table a.key a.source a.destination a.values (subst (λ h. misfit h (InsertEdge a.table a.key a.source a.destination a.values) ≡ None) (sym c.self.view_is) c.requires) in
    let within : a.table < length g.edges = omega (arith, fits.table, AllZip-length _ g.schema.edges g.edges c.self.invariant.stored.edge_kinds) in
    let from : c.source_of-from.result ≡ source_at g.schema a.table = c.source_of-from.ensures ∙ ap (λ l. source_table (slice_get l a.table)) c.edges-shapes.ensures in
    let to : c.destination_of-to.result ≡ destination_at g.schema a.table = c.destination_of-to.ensures ∙ ap (λ l. destination_table (slice_get l a.table)) c.edges-shapes.ensures in
    let range = range_at g.schema.edges a.table (length g.schema.vertices) (ends_in_range g.schema c.self.invariant.stored.graph.schema) fits.table in
    omega (arith, to, range.1, c.self.invariant.counted.lists)

pub count_ends-requires-clause-from : goal.count_ends-requires-clause-from
count_ends-requires-clause-from c =
    let g = c.self.inside in
    let a = c.args in
    let now = stored_graph g.schema g.vertices g.edges g.ends in
    let fits = fits_edge now a.table a.key a.source a.destination a.values (subst (λ h. misfit h (InsertEdge a.table a.key a.source a.destination a.values) ≡ None) (sym c.self.view_is) c.requires) in
    let within : a.table < length g.edges = omega (arith, fits.table, AllZip-length _ g.schema.edges g.edges c.self.invariant.stored.edge_kinds) in
    let from : c.source_of-from.result ≡ source_at g.schema a.table = c.source_of-from.ensures ∙ ap (λ l. source_table (slice_get l a.table)) c.edges-shapes.ensures in
    let to : c.destination_of-to.result ≡ destination_at g.schema a.table = c.destination_of-to.ensures ∙ ap (λ l. destination_table (slice_get l a.table)) c.edges-shapes.ensures in
    let range = range_at g.schema.edges a.table (length g.schema.vertices) (ends_in_range g.schema c.self.invariant.stored.graph.schema) fits.table in
    omega (arith, from, range.0, c.self.invariant.counted.lists, c.grow_for.ensures.grown.lists)

pub count_ends-requires-clause-to : goal.count_ends-requires-clause-to
count_ends-requires-clause-to c =
    let g = c.self.inside in
    let a = c.args in
    let now = stored_graph g.schema g.vertices g.edges g.ends in
    let fits = fits_edge now a.table a.key a.source a.destination a.values (subst (λ h. misfit h (InsertEdge a.table a.key a.source a.destination a.values) ≡ None) (sym c.self.view_is) c.requires) in
    let within : a.table < length g.edges = omega (arith, fits.table, AllZip-length _ g.schema.edges g.edges c.self.invariant.stored.edge_kinds) in
    let from : c.source_of-from.result ≡ source_at g.schema a.table = c.source_of-from.ensures ∙ ap (λ l. source_table (slice_get l a.table)) c.edges-shapes.ensures in
    let to : c.destination_of-to.result ≡ destination_at g.schema a.table = c.destination_of-to.ensures ∙ ap (λ l. destination_table (slice_get l a.table)) c.edges-shapes.ensures in
    let range = range_at g.schema.edges a.table (length g.schema.vertices) (ends_in_range g.schema c.self.invariant.stored.graph.schema) fits.table in
    omega (arith, to, range.1, c.self.invariant.counted.lists, c.grow_for.ensures.grown.lists)

pub count_ends-requires-clause-few : goal.count_ends-requires-clause-few
count_ends-requires-clause-few c =
    let g = c.self.inside in
    let a = c.args in
    let now = stored_graph g.schema g.vertices g.edges g.ends in
    let fits = fits_edge now a.table a.key a.source a.destination a.values (subst (λ h. misfit h (InsertEdge a.table a.key a.source a.destination a.values) ≡ None) (sym c.self.view_is) c.requires) in
    let within : a.table < length g.edges = omega (arith, fits.table, AllZip-length _ g.schema.edges g.edges c.self.invariant.stored.edge_kinds) in
    let grown = c.grow_for.ensures.grown in
    let counted = grown_counted g.schema g.edges g.ends g.counts c.grow_for.new.counts c.self.invariant.counted grown in
    counts_few g.schema g.vertices g.edges g.ends c.self.invariant.stored c.grow_for.new.counts counted

pub invariant_of-self : goal.invariant_of-self
invariant_of-self c =
    let g = c.self.inside in
    let a = c.args in
    let now = stored_graph g.schema g.vertices g.edges g.ends in
    let fits = fits_edge now a.table a.key a.source a.destination a.values (subst (λ h. misfit h (InsertEdge a.table a.key a.source a.destination a.values) ≡ None) (sym c.self.view_is) c.requires) in
    let within : a.table < length g.edges = omega (arith, fits.table, AllZip-length _ g.schema.edges g.edges c.self.invariant.stored.edge_kinds) in
    let grown = c.grow_for.ensures.grown in
    let counted = grown_counted g.schema g.edges g.ends g.counts c.grow_for.new.counts c.self.invariant.counted grown in
    record { stored = c.self.invariant.stored; counted = counted }

pub invariant_of-self-in_err-put_ends_in : goal.invariant_of-self-in_err-put_ends_in
invariant_of-self-in_err-put_ends_in c =
    let g = c.self.inside in
    let a = c.args in
    let now = stored_graph g.schema g.vertices g.edges g.ends in
    let fits = fits_edge now a.table a.key a.source a.destination a.values (subst (λ h. misfit h (InsertEdge a.table a.key a.source a.destination a.values) ≡ None) (sym c.self.view_is) c.requires) in
    let within : a.table < length g.edges = omega (arith, fits.table, AllZip-length _ g.schema.edges g.edges c.self.invariant.stored.edge_kinds) in
    let grown = c.grow_for.ensures.grown in
    let counted = grown_counted g.schema g.edges g.ends g.counts c.grow_for.new.counts c.self.invariant.counted grown in
    rw c.in_err-put_ends_in.ensures.err (record { stored = c.self.invariant.stored; counted = counted })

pub invariant_of-self-in_err-push_row : goal.invariant_of-self-in_err-push_row
invariant_of-self-in_err-push_row c =
    let g = c.self.inside in
    let a = c.args in
    let now = stored_graph g.schema g.vertices g.edges g.ends in
    let fits = fits_edge now a.table a.key a.source a.destination a.values (subst (λ h. misfit h (InsertEdge a.table a.key a.source a.destination a.values) ≡ None) (sym c.self.view_is) c.requires) in
    let within : a.table < length g.edges = omega (arith, fits.table, AllZip-length _ g.schema.edges g.edges c.self.invariant.stored.edge_kinds) in
    let put = c.in-Some.ends in
    let after = c.put_ends_in.new.lists in
    let place = c.seat_count-place.ensures ∙ ap (λ l. length (seats_at l a.table)) c.as_slice-2.ensures in
    let puts = subst (λ n. PutsEnds a.table n put g.ends after) place c.in_ok-put_ends_in.ensures.ok in
    let grown = c.grow_for.ensures.grown in
    let counted = grown_counted g.schema g.edges g.ends g.counts c.grow_for.new.counts c.self.invariant.counted grown in
    rw c.in_err-push_row.ensures.err
    (record {
      stored = spare_stored g.schema g.vertices g.edges g.ends c.self.invariant.stored a.table put after puts;
      counted = spare_counted g.schema g.vertices g.edges g.ends c.self.invariant.stored a.table put after puts c.grow_for.new.counts counted;
    })

pub returns-in_err-push_row-clause-err : goal.returns-in_err-push_row-clause-err
returns-in_err-push_row-clause-err c =
    let g = c.self.inside in
    let a = c.args in
    let now = stored_graph g.schema g.vertices g.edges g.ends in
    let fits = fits_edge now a.table a.key a.source a.destination a.values (subst (λ h. misfit h (InsertEdge a.table a.key a.source a.destination a.values) ≡ None) (sym c.self.view_is) c.requires) in
    let within : a.table < length g.edges = omega (arith, fits.table, AllZip-length _ g.schema.edges g.edges c.self.invariant.stored.edge_kinds) in
    let put = c.in-Some.ends in
    let after = c.put_ends_in.new.lists in
    let place = c.seat_count-place.ensures ∙ ap (λ l. length (seats_at l a.table)) c.as_slice-2.ensures in
    let puts = subst (λ n. PutsEnds a.table n put g.ends after) place c.in_ok-put_ends_in.ensures.ok in
    let p = err_from_is_err_and c.from_residual-in_err-push_row.result c.from_residual-in_err-push_row.ensures.1 in
    rw (p.1, c.in_err-push_row.ensures.err) (spare_view g.schema g.vertices g.edges g.ends c.self.invariant.stored a.table put after puts ∙ c.self.view_is)

pub invariant_of-self-2 : goal.invariant_of-self-2
invariant_of-self-2 c =
    let g = c.self.inside in
    let a = c.args in
    let now = stored_graph g.schema g.vertices g.edges g.ends in
    let fits = fits_edge now a.table a.key a.source a.destination a.values (subst (λ h. misfit h (InsertEdge a.table a.key a.source a.destination a.values) ≡ None) (sym c.self.view_is) c.requires) in
    let within : a.table < length g.edges = omega (arith, fits.table, AllZip-length _ g.schema.edges g.edges c.self.invariant.stored.edge_kinds) in
    let key : FitsSigned w64 a.key = c.ranges.key in
    let source : FitsSigned w64 a.source = c.ranges.source in
    let destination : FitsSigned w64 a.destination = c.ranges.destination in
    let told = rw (to_z-of_z w64 a.source source, to_z-of_z w64 a.destination destination, c.as_slice.ensures, c.edges-shapes.ensures) at c.ends_of.ensures in
    let put = c.in-Some.ends in
    let after = c.put_ends_in.new.lists in
    let place = c.seat_count-place.ensures ∙ ap (λ l. length (seats_at l a.table)) c.as_slice-2.ensures in
    let puts = subst (λ n. PutsEnds a.table n put g.ends after) place c.in_ok-put_ends_in.ensures.ok in
    let from_is : c.source_of-from.result ≡ source_at g.schema a.table = c.source_of-from.ensures ∙ ap (λ l. source_table (slice_get l a.table)) c.edges-shapes.ensures in
    let to_is : c.destination_of-to.result ≡ destination_at g.schema a.table = c.destination_of-to.ensures ∙ ap (λ l. destination_table (slice_get l a.table)) c.edges-shapes.ensures in
    let count = rw (from_is, to_is) at c.count_ends.ensures in
    let both = both_found _ _ put (sym told ∙ c.in-Some.is) in
    let start = found_at (seats_at g.vertices (source_at g.schema a.table)) a.source put.source both.0 in
    let end = found_at (seats_at g.vertices (destination_at g.schema a.table)) a.destination put.destination both.1 in
    let from = (Decides-int_eq (key_at (seats_at g.vertices (source_at g.schema a.table)) put.source) a.source).0 start.key in
    let to = (Decides-int_eq (key_at (seats_at g.vertices (destination_at g.schema a.table)) put.destination) a.destination).0 end.key in
    rw (c.in_ok-push_row.ensures.ok, to_z-of_z w64 a.key key)
    (record {
      stored = insert_edge_stored g.schema g.vertices g.edges g.ends c.self.invariant.stored a.table within a.key a.source a.destination a.values put after puts from to start.live end.live fits;
      counted = insert_counted g.schema g.vertices g.edges g.ends c.self.invariant.stored a.table put after puts within a.key a.source a.destination a.values g.counts c.grow_for.new.counts c.count_ends.new.counts c.self.invariant.counted c.grow_for.ensures.grown count;
    })

pub returns-clause-ok : goal.returns-clause-ok
returns-clause-ok c =
    let g = c.self.inside in
    let a = c.args in
    let now = stored_graph g.schema g.vertices g.edges g.ends in
    let fits = fits_edge now a.table a.key a.source a.destination a.values (subst (λ h. misfit h (InsertEdge a.table a.key a.source a.destination a.values) ≡ None) (sym c.self.view_is) c.requires) in
    let within : a.table < length g.edges = omega (arith, fits.table, AllZip-length _ g.schema.edges g.edges c.self.invariant.stored.edge_kinds) in
    let key : FitsSigned w64 a.key = c.ranges.key in
    let source : FitsSigned w64 a.source = c.ranges.source in
    let destination : FitsSigned w64 a.destination = c.ranges.destination in
    let told = rw (to_z-of_z w64 a.source source, to_z-of_z w64 a.destination destination, c.as_slice.ensures, c.edges-shapes.ensures) at c.ends_of.ensures in
    let put = c.in-Some.ends in
    let after = c.put_ends_in.new.lists in
    let place = c.seat_count-place.ensures ∙ ap (λ l. length (seats_at l a.table)) c.as_slice-2.ensures in
    let puts = subst (λ n. PutsEnds a.table n put g.ends after) place c.in_ok-put_ends_in.ensures.ok in
    let both = both_found _ _ put (sym told ∙ c.in-Some.is) in
    let start = found_at (seats_at g.vertices (source_at g.schema a.table)) a.source put.source both.0 in
    let end = found_at (seats_at g.vertices (destination_at g.schema a.table)) a.destination put.destination both.1 in
    let from = (Decides-int_eq (key_at (seats_at g.vertices (source_at g.schema a.table)) put.source) a.source).0 start.key in
    let to = (Decides-int_eq (key_at (seats_at g.vertices (destination_at g.schema a.table)) put.destination) a.destination).0 end.key in
    rw (c.in_ok-push_row.ensures.ok, to_z-of_z w64 a.key key)
    (insert_edge_view g.schema g.vertices g.edges g.ends c.self.invariant.stored a.table within a.key a.source a.destination a.values put after puts from to
    ∙ ap (λ h. changed h (InsertEdge a.table a.key a.source a.destination a.values)) c.self.view_is)
