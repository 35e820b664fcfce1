use Rattle.std.proofs.Common.{◌≡◌, ◌+◌, ◌*◌, ◌<◌, ◌≤◌, ◌||◌, false, [], length, List, subst, ap, sym, ◌∙◌, arith, rules}
use Rattle.std.specs.Prelude.{nat_lt}
use Rattle.std.proofs.lemmas.Bool.Decides.{nat_tests}
use Rattle.std.proofs.lemmas.List.{take_all}
use Rattle.graph_model.specs.declared.row.EdgeRow.{EdgeRow}
use Rattle.graph_model.specs.Keys.{rows_at, cells_in, row_total, value_total}
use Rattle.graph_model.specs.Graph.{vertex_values, edge_values, edge_total, cell_total, most_edges, most_cells}
use Rattle.graph_columns.proofs.Tables.{sum_more}
use Rattle.graph_columns.proofs.GraphTables.{edge_table_count}
use Rattle.graph_mutate.proofs.EdgeTables.{shape_read}
use Rattle.graph_mutate.specs.Undirected.{straight, greatest_key, undirected}
use Rattle.graph_mutate.proofs.Sizes.{take_le, straight_le, reverse_sizes, with_reverses_length}
use Rattle.graph_mutate.proofs.undirect.is_too_big.Goals as goal

pub overflow_mul-cells : goal.overflow_mul-cells
overflow_mul-cells c =
    let g = c.args.base.now in
    let t = c.loop-table.table in
    let shapes = c.edges-shape-items.result.now in
    let there = shape_read g.schema.edges shapes t c.shape-item.result (c.edges-shape-items.ensures ∙ ap (λ s. s.edges) c.schema.ensures) c.loop-table-test.true c.shape-item.is in
    let count = edge_table_count g c.schema.result.now shapes c.sound.ensures c.schema.ensures c.edges-shape-items.ensures in
    let within = subst (λ n. t < n) count c.loop-table-test.true in
    let sizes = reverse_sizes g t c.shape-item.result c.sound.ensures within there in
    let rows = rows_at g.edges t in
    let product : (c.edge_count.result + c.straight_count.result) * c.len.result ≡ cells_in edge_values (rows_at (undirected g).edges t) =
    ap (λ n. (n + c.straight_count.result) * c.len.result) c.edge_count.ensures ∙ ap (λ n. (length rows + n) * c.len.result) c.straight_count.ensures ∙ ap (λ n. (length rows + length (straight rows)) * n) c.len.ensures ∙ sym sizes.cells in
    let more = sum_more (λ (rs : List EdgeRow). cells_in edge_values rs) g.edges t [] within in
    let small : (c.edge_count.result + c.straight_count.result) * c.len.result ≤ 33554432 = omega (arith, product, sizes.few, more, take_le (λ (rs : List EdgeRow). cells_in edge_values rs) (t + 1) g.edges, c.sound.ensures.few_cells) in
    search rules

pub overflow_add-cells : goal.overflow_add-cells
overflow_add-cells c =
    let g = c.args.base.now in
    let t = c.loop-table.table in
    let shapes = c.edges-shape-items.result.now in
    let there = shape_read g.schema.edges shapes t c.shape-item.result (c.edges-shape-items.ensures ∙ ap (λ s. s.edges) c.schema.ensures) c.loop-table-test.true c.shape-item.is in
    let count = edge_table_count g c.schema.result.now shapes c.sound.ensures c.schema.ensures c.edges-shape-items.ensures in
    let within = subst (λ n. t < n) count c.loop-table-test.true in
    let sizes = reverse_sizes g t c.shape-item.result c.sound.ensures within there in
    let rows = rows_at g.edges t in
    let product : (c.edge_count.result + c.straight_count.result) * c.len.result ≡ cells_in edge_values (rows_at (undirected g).edges t) =
    ap (λ n. (n + c.straight_count.result) * c.len.result) c.edge_count.ensures ∙ ap (λ n. (length rows + n) * c.len.result) c.straight_count.ensures ∙ ap (λ n. (length rows + length (straight rows)) * n) c.len.ensures ∙ sym sizes.cells in
    let more = sum_more (λ (rs : List EdgeRow). cells_in edge_values rs) g.edges t [] within in
    let few = c.loop-table.invariant.few_cells in
    let small : c.loop-table.cells + (c.edge_count.result + c.straight_count.result) * c.len.result ≤ 50331648 = omega (arith, product, sizes.few, more, few, take_le (λ (rs : List EdgeRow). cells_in edge_values rs) (t + 1) g.edges, c.sound.ensures.few_cells) in
    search rules

pub loop-table-preserved : goal.loop-table-preserved
loop-table-preserved c =
    let g = c.args.base.now in
    let u = undirected g in
    let t = c.loop-table.table in
    let shapes = c.edges-shape-items.result.now in
    let there = shape_read g.schema.edges shapes t c.shape-item.result (c.edges-shape-items.ensures ∙ ap (λ s. s.edges) c.schema.ensures) c.loop-table-test.true c.shape-item.is in
    let count = edge_table_count g c.schema.result.now shapes c.sound.ensures c.schema.ensures c.edges-shape-items.ensures in
    let within = subst (λ n. t < n) count c.loop-table-test.true in
    let same = with_reverses_length (greatest_key g) g.edges in
    let within_new : t < length u.edges = omega (arith, within, same) in
    let sizes = reverse_sizes g t c.shape-item.result c.sound.ensures within there in
    let rows = rows_at g.edges t in
    let product : (c.edge_count.result + c.straight_count.result) * c.len.result ≡ cells_in edge_values (rows_at u.edges t) =
    ap (λ n. (n + c.straight_count.result) * c.len.result) c.edge_count.ensures ∙ ap (λ n. (length rows + n) * c.len.result) c.straight_count.ensures ∙ ap (λ n. (length rows + length (straight rows)) * n) c.len.ensures ∙ sym sizes.cells in
    let own_rows = sum_more (λ (rs : List EdgeRow). length rs) g.edges t [] within in
    let own_cells = sum_more (λ (rs : List EdgeRow). cells_in edge_values rs) g.edges t [] within in
    let new_rows = sum_more (λ (rs : List EdgeRow). length rs) u.edges t [] within_new in
    let new_cells = sum_more (λ (rs : List EdgeRow). cells_in edge_values rs) u.edges t [] within_new in
    record {
      edges = omega (arith, new_rows, sizes.rows, c.edge_count.ensures, c.straight_count.ensures, c.loop-table.invariant.edges);
      cells = omega (arith, new_cells, product, c.loop-table.invariant.cells);
      few_edges = omega (arith, own_rows, straight_le rows, c.edge_count.ensures, c.straight_count.ensures, c.loop-table.invariant.few_edges);
      few_cells = omega (arith, own_cells, product, sizes.few, c.loop-table.invariant.few_cells);
    }

pub returns-else-edges-gt-MOST_EDGES : goal.returns-else-edges-gt-MOST_EDGES
returns-else-edges-gt-MOST_EDGES c =
    let g = c.args.base.now in
    let u = undirected g in
    let count = edge_table_count g c.schema.result.now c.edges-shape-items.result.now c.sound.ensures c.schema.ensures c.edges-shape-items.ensures in
    let same = with_reverses_length (greatest_key g) g.edges in
    let all = take_all c.loop-table.table u.edges (omega (arith, count, same, c.loop-table-test.false)) in
    let edges : c.loop-table.edges ≡ edge_total u = c.loop-table.invariant.edges ∙ ap row_total all in
    let cells : c.loop-table.cells ≡ cell_total u = c.loop-table.invariant.cells ∙ ap (λ es. value_total vertex_values g.vertices + value_total edge_values es) all in
    let few : edge_total u ≤ 4194304 = omega (arith, edges, c.if-edges-gt-MOST_EDGES.false) in
    let fits : nat_lt most_edges (edge_total u) ≡ false = grind (arith, nat_tests) in
    ap (nat_lt 16777216) cells ∙ sym (ap (λ b. b || nat_lt most_cells (cell_total u)) fits)
