use Rattle.std.proofs.Common.{◌<◌, ◌++◌, ◌∷◌, [], ◌∙◌, arith, sym, ap, length, take}
use Rattle.std.proofs.lemmas.List.{take_all, take_more}
use Rattle.graph_model.proofs.Zips.{AllZip-length}
use Rattle.graph_model.proofs.from_rows.copy_vertex_tables.Goals as goal

pub loop-table-preserved : goal.loop-table-preserved
loop-table-preserved c =
    let l = c.loop-table in
    let g = c.args.graph.now in
    let count = AllZip-length _ g.schema.vertices g.vertices c.sound.ensures.vertices in
    let within : l.table < length g.vertices = omega (arith, ap length c.vertices.ensures, ap (λ s. length s.vertices) c.schema.ensures, count) in
    c.in_ok-push.ensures.ok ∙ ap (λ ts. ts ++ c.in_ok-vertex_rows.field-0 ∷ []) l.invariant
    ∙ ap (λ rows. take l.table g.vertices ++ rows ∷ []) c.in_ok-vertex_rows.ensures
    ∙ sym (take_more g.vertices l.table [] within)

pub returns : goal.returns
returns c =
    let g = c.args.graph.now in
    let count = AllZip-length _ g.schema.vertices g.vertices c.sound.ensures.vertices in
    c.loop-table.invariant ∙ take_all c.loop-table.table g.vertices (omega (arith, ap length c.vertices.ensures, ap (λ s. length s.vertices) c.schema.ensures, count))
