use Rattle.std.proofs.Common.{◌≡◌, ◌<◌, ◌≤◌, [], ◌∙◌, Some, List, arith, sym, ap, subst, length, get_or, slice_get, All}
use Rattle.std.specs.List.{zip}
use Rattle.std.proofs.lemmas.Bool.Decides.{nat_tests}
use Rattle.std.proofs.lemmas.List.{get_or_past, get_or_default}
use Rattle.std.proofs.lemmas.Result.{IfOk-weaker}
use Rattle.graph_schema.specs.declared.schema.EdgeTable.{EdgeTable}
use Rattle.graph_schema.proofs.Sound.{ends_in_range}
use Rattle.graph_model.specs.declared.ends.Ends.{Ends}
use Rattle.graph_model.specs.Keys.{rows_at}
use Rattle.graph_model.specs.Graph.{source_table, destination_table, source_at, destination_at}
use Rattle.graph_model.specs.Seats.{TableData}
use Rattle.graph_model.specs.Stored.{stored_graph, table_at, seats_at, ends_at, no_table, edge_rows, EndsSit}
use Rattle.graph_model.proofs.Zips.{AllZip-length}
use Rattle.graph_model.proofs.StoredRows.{edges_at}
use Rattle.graph_model.proofs.SeatEnds.{at_get}
use Rattle.graph_model.proofs.graph.Graph.edge_rows.Goals as goal

pub returns-in_default : goal.returns-in_default
returns-in_default c =
    let g = c.self.inside in
    let now = stored_graph g.schema g.vertices g.edges g.ends in
    let past : length c.edges.result.now ≤ c.args.table = grind (arith, nat_tests, c.in_default.ensures.lookup.0) in
    c.new.ensures
    ∙ sym (get_or_past now.edges c.args.table [] (omega (arith, past, ap length c.edges.ensures, AllZip-length _ g.schema.edges now.edges c.self.invariant.stored.graph.edges)))
    ∙ ap (λ x. rows_at x.edges c.args.table) c.self.view_is

pub bounds-as_slice-table : goal.bounds-as_slice-table
bounds-as_slice-table c =
    let g = c.self.inside in
    let t = c.args.table in
    let within : t < length c.edges.result.now = grind (arith, nat_tests, c.in-Some.ensures.lookup.0) in
    omega (arith, within, ap length c.edges.ensures, AllZip-length _ g.schema.edges g.edges c.self.invariant.stored.edge_kinds, ap length c.as_slice.ensures)

pub bounds-as_slice-table-2 : goal.bounds-as_slice-table-2
bounds-as_slice-table-2 c =
    let g = c.self.inside in
    let t = c.args.table in
    let within : t < length c.edges.result.now = grind (arith, nat_tests, c.in-Some.ensures.lookup.0) in
    omega (arith, within, ap length c.edges.ensures, AllZip-length _ g.schema.edges g.edges c.self.invariant.stored.edge_kinds, c.self.invariant.stored.lists, ap length c.as_slice-2.ensures)

pub bounds-vertices-shape : goal.bounds-vertices-shape
bounds-vertices-shape c =
    let g = c.self.inside in
    let t = c.args.table in
    let within : t < length c.edges.result.now = grind (arith, nat_tests, c.in-Some.ensures.lookup.0) in
    let listed : t < length g.schema.edges = omega (arith, within, ap length c.edges.ensures) in
    let stands = c.in-Some.ensures.lookup.1 ∙ ap (λ l. get_or l t c.in-Some.shape.now) c.edges.ensures in
    let range = ends_in_range g.schema c.self.invariant.stored.graph.schema t c.in-Some.shape.now listed in
    omega (arith, range.0, ap (λ (x : EdgeTable). x.source) stands, AllZip-length _ g.schema.vertices g.vertices c.self.invariant.stored.vertex_kinds, ap length c.as_slice-vertices.ensures)

pub bounds-vertices-shape-2 : goal.bounds-vertices-shape-2
bounds-vertices-shape-2 c =
    let g = c.self.inside in
    let t = c.args.table in
    let within : t < length c.edges.result.now = grind (arith, nat_tests, c.in-Some.ensures.lookup.0) in
    let listed : t < length g.schema.edges = omega (arith, within, ap length c.edges.ensures) in
    let stands = c.in-Some.ensures.lookup.1 ∙ ap (λ l. get_or l t c.in-Some.shape.now) c.edges.ensures in
    let range = ends_in_range g.schema c.self.invariant.stored.graph.schema t c.in-Some.shape.now listed in
    omega (arith, range.1, ap (λ (x : EdgeTable). x.destination) stands, AllZip-length _ g.schema.vertices g.vertices c.self.invariant.stored.vertex_kinds, ap length c.as_slice-vertices.ensures)

pub copy_edges-requires-clause-long : goal.copy_edges-requires-clause-long
copy_edges-requires-clause-long c =
    let g = c.self.inside in
    let t = c.args.table in
    let within : t < length c.edges.result.now = grind (arith, nat_tests, c.in-Some.ensures.lookup.0) in
    let row = c.index-as_slice-table.result in
    let list = c.index-as_slice-table-2.result in
    let rows : t < length g.edges = omega (arith, within, ap length c.edges.ensures, AllZip-length _ g.schema.edges g.edges c.self.invariant.stored.edge_kinds) in
    let table = c.index-as_slice-table.is ∙ ap (λ l. get_or l t row) c.as_slice.ensures ∙ get_or_default g.edges t row no_table rows in
    let ends = c.as_slice-3.ensures ∙ c.index-as_slice-table-2.is ∙ ap (λ l. get_or l t list) c.as_slice-2.ensures ∙ get_or_default g.ends t list [] (omega (arith, rows, c.self.invariant.stored.lists)) in
    omega (arith, c.self.invariant.stored.long t, ap (λ (x : TableData). length x.seats) table, ap length ends)

pub copy_edges-requires-clause-sit : goal.copy_edges-requires-clause-sit
copy_edges-requires-clause-sit c =
    let g = c.self.inside in
    let t = c.args.table in
    let within : t < length c.edges.result.now = grind (arith, nat_tests, c.in-Some.ensures.lookup.0) in
    let listed : t < length g.schema.edges = omega (arith, within, ap length c.edges.ensures) in
    let stands = c.in-Some.ensures.lookup.1 ∙ ap (λ l. get_or l t c.in-Some.shape.now) c.edges.ensures in
    let range = ends_in_range g.schema c.self.invariant.stored.graph.schema t c.in-Some.shape.now listed in
    let row = c.index-as_slice-table.result in
    let list = c.index-as_slice-table-2.result in
    let rows : t < length g.edges = omega (arith, within, ap length c.edges.ensures, AllZip-length _ g.schema.edges g.edges c.self.invariant.stored.edge_kinds) in
    let table = c.index-as_slice-table.is ∙ ap (λ l. get_or l t row) c.as_slice.ensures ∙ get_or_default g.edges t row no_table rows in
    let ends = c.as_slice-3.ensures ∙ c.index-as_slice-table-2.is ∙ ap (λ l. get_or l t list) c.as_slice-2.ensures ∙ get_or_default g.ends t list [] (omega (arith, rows, c.self.invariant.stored.lists)) in
    let at = at_get g.schema.edges t c.in-Some.shape.now listed stands in
    let a = c.index-vertices-shape.result in
    let b = c.index-vertices-shape-2.result in
    let source : c.in-Some.shape.now.source < length g.vertices = omega (arith, range.0, ap (λ (x : EdgeTable). x.source) stands, AllZip-length _ g.schema.vertices g.vertices c.self.invariant.stored.vertex_kinds) in
    let destination : c.in-Some.shape.now.destination < length g.vertices = omega (arith, range.1, ap (λ (x : EdgeTable). x.destination) stands, AllZip-length _ g.schema.vertices g.vertices c.self.invariant.stored.vertex_kinds) in
    let from = c.index-vertices-shape.is ∙ ap (λ l. get_or l c.in-Some.shape.now.source a) c.as_slice-vertices.ensures ∙ get_or_default g.vertices c.in-Some.shape.now.source a no_table source ∙ ap (λ o. table_at g.vertices (source_table o)) (sym at) in
    let to = c.index-vertices-shape-2.is ∙ ap (λ l. get_or l c.in-Some.shape.now.destination b) c.as_slice-vertices.ensures ∙ get_or_default g.vertices c.in-Some.shape.now.destination b no_table destination ∙ ap (λ o. table_at g.vertices (destination_table o)) (sym at) in
    let start = seats_at g.vertices (source_at g.schema t) in
    let end = seats_at g.vertices (destination_at g.schema t) in
    subst (λ (x : TableData). All (EndsSit x.seats b.seats) (zip row.seats c.as_slice-3.result.now)) (sym from)
    (subst (λ (x : TableData). All (EndsSit start x.seats) (zip row.seats c.as_slice-3.result.now)) (sym to)
    (subst (λ (x : TableData). All (EndsSit start end) (zip x.seats c.as_slice-3.result.now)) (sym table)
    (subst (λ (l : List Ends). All (EndsSit start end) (zip (seats_at g.edges t) l)) (sym ends) (c.self.invariant.stored.sit t))))

pub returns : goal.returns
returns c =
    let g = c.self.inside in
    let t = c.args.table in
    let within : t < length c.edges.result.now = grind (arith, nat_tests, c.in-Some.ensures.lookup.0) in
    let listed : t < length g.schema.edges = omega (arith, within, ap length c.edges.ensures) in
    let stands = c.in-Some.ensures.lookup.1 ∙ ap (λ l. get_or l t c.in-Some.shape.now) c.edges.ensures in
    let range = ends_in_range g.schema c.self.invariant.stored.graph.schema t c.in-Some.shape.now listed in
    let row = c.index-as_slice-table.result in
    let list = c.index-as_slice-table-2.result in
    let rows : t < length g.edges = omega (arith, within, ap length c.edges.ensures, AllZip-length _ g.schema.edges g.edges c.self.invariant.stored.edge_kinds) in
    let table = c.index-as_slice-table.is ∙ ap (λ l. get_or l t row) c.as_slice.ensures ∙ get_or_default g.edges t row no_table rows in
    let ends = c.as_slice-3.ensures ∙ c.index-as_slice-table-2.is ∙ ap (λ l. get_or l t list) c.as_slice-2.ensures ∙ get_or_default g.ends t list [] (omega (arith, rows, c.self.invariant.stored.lists)) in
    let at = at_get g.schema.edges t c.in-Some.shape.now listed stands in
    let a = c.index-vertices-shape.result in
    let b = c.index-vertices-shape-2.result in
    let source : c.in-Some.shape.now.source < length g.vertices = omega (arith, range.0, ap (λ (x : EdgeTable). x.source) stands, AllZip-length _ g.schema.vertices g.vertices c.self.invariant.stored.vertex_kinds) in
    let destination : c.in-Some.shape.now.destination < length g.vertices = omega (arith, range.1, ap (λ (x : EdgeTable). x.destination) stands, AllZip-length _ g.schema.vertices g.vertices c.self.invariant.stored.vertex_kinds) in
    let from = c.index-vertices-shape.is ∙ ap (λ l. get_or l c.in-Some.shape.now.source a) c.as_slice-vertices.ensures ∙ get_or_default g.vertices c.in-Some.shape.now.source a no_table source ∙ ap (λ o. table_at g.vertices (source_table o)) (sym at) in
    let to = c.index-vertices-shape-2.is ∙ ap (λ l. get_or l c.in-Some.shape.now.destination b) c.as_slice-vertices.ensures ∙ get_or_default g.vertices c.in-Some.shape.now.destination b no_table destination ∙ ap (λ o. table_at g.vertices (destination_table o)) (sym at) in
    let now = stored_graph g.schema g.vertices g.edges g.ends in
    let start = seats_at g.vertices (source_at g.schema t) in
    let end = seats_at g.vertices (destination_at g.schema t) in
    let same =
    ap (λ (x : TableData). edge_rows x.seats b.seats (zip row.seats c.as_slice-3.result.now)) from
    ∙ ap (λ (x : TableData). edge_rows start x.seats (zip row.seats c.as_slice-3.result.now)) to
    ∙ ap (λ (x : TableData). edge_rows start end (zip x.seats c.as_slice-3.result.now)) table
    ∙ ap (λ (l : List Ends). edge_rows start end (zip (seats_at g.edges t) l)) ends
    ∙ sym (edges_at g.schema g.vertices g.edges g.ends t) ∙ ap (λ x. rows_at x.edges t) c.self.view_is in
    IfOk-weaker c.copy_edges.result (λ rows. rows ≡ edge_rows a.seats b.seats (zip row.seats c.as_slice-3.result.now)) (λ rows. rows ≡ rows_at c.args.self.now.edges t)
    (λ rows e. e ∙ same) c.copy_edges.ensures
