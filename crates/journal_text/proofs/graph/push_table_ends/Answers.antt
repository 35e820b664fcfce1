use Rattle.std.proofs.Common.{◌++◌, refl, ap, ◌∙◌, w64, FitsSigned, rules}
use Rattle.std.proofs.lemmas.Int.{to_z-of_z}
use Rattle.graph_model.specs.Keys.{rows_at}
use Rattle.journal_text.specs.Graphs.{ends_of_vertex, two_lines}
use Rattle.journal_text.proofs.RowLines.{key_lines_more}
use Rattle.journal_text.proofs.graph.push_table_ends.Goals as goal

pub loop-place-preserved : goal.loop-place-preserved
loop-place-preserved c =
    let g = c.args.on.now in
    let key : FitsSigned w64 c.vertex_key.result = search rules in
    key_lines_more (ends_of_vertex g (c.args.table, c.args.shape.now)) (two_lines g (c.args.table, c.args.shape.now)) (rows_at g.vertices c.args.table) c.loop-place.place c.vertex_key.result c.args.out.now c.loop-place.out _
    (λ r. refl) c.vertex_key.ensures c.loop-place.invariant
    (c.in_ok-push_two_lines.ensures ∙ ap (λ k. c.loop-place.out ++ two_lines g (c.args.table, c.args.shape.now) k) (to_z-of_z w64 c.vertex_key.result key))
