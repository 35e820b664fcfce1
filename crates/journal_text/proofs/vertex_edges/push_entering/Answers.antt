use Rattle.std.proofs.Common.{◌≡◌, ◌<◌, ◌++◌, ℤ, All, length, ap, sym, ◌∙◌, subst, w64}
use Rattle.std.specs.List.{flat_map, range_with_len}
use mir.Val.{to_z, of_z}
use Rattle.graph_snap.specs.Reading.{edge_keys_at}
use Rattle.journal_text.specs.Ends.{entering_in, keys_at}
use Rattle.journal_text.specs.Graphs.{spaced_number}
use Rattle.journal_text.proofs.RowLines.{numbers_more}
use Rattle.journal_text.proofs.Tables.{one_more_table}
use Rattle.journal_text.proofs.vertex_edges.push_entering.Goals as goal

pub push_keys-requires : goal.push_keys-requires
push_keys-requires c =
    subst (λ keys. All (λ place. place < length keys) c.in_row.result.now) (sym c.edge_keys.ensures)
    (subst (λ places. All (λ place. place < length (edge_keys_at c.args.on.now c.loop-table.table)) places) (sym c.in_row.ensures)
    c.rows_list_the_edges_of_a_key.ensures.in_there)

pub loop-table-preserved : goal.loop-table-preserved
loop-table-preserved c =
    let g = c.args.on.now in
    let t = c.loop-table.table in
    let key : ℤ = to_z w64 (of_z w64 c.args.key) in
    let told : keys_at c.edge_keys.result.now c.in_row.result.now ≡ entering_in g c.args.at.table key t =
    ap (λ keys. keys_at keys c.in_row.result.now) c.edge_keys.ensures ∙ ap (keys_at (edge_keys_at g t)) c.in_row.ensures
    ∙ c.rows_list_the_edges_of_a_key.ensures.entering in
    numbers_more c.args.out.now c.loop-table.out _ (flat_map (entering_in g c.args.at.table key) (range_with_len 0 t)) (entering_in g c.args.at.table key t) _
    c.loop-table.invariant
    (c.in_ok-push_keys.ensures ∙ ap (λ keys. c.loop-table.out ++ flat_map spaced_number keys) told)
    (one_more_table (entering_in g c.args.at.table key) t)
