use Rattle.std.proofs.Common.{◌<◌, ◌++◌, ◌∷◌, [], ◌∙◌, arith, sym, ap, length, take}
use Rattle.std.proofs.lemmas.List.{take_all, take_more}
use Rattle.graph_model.proofs.Zips.{AllZip-length}
use Rattle.graph_model.proofs.from_rows.copy_edge_tables.Goals as goal

pub loop-table-preserved : goal.loop-table-preserved
loop-table-preserved c =
    let l = c.loop-table in
    let g = c.args.graph.now in
    let count = AllZip-length _ g.schema.edges g.edges c.sound.ensures.edges in
    let within : l.table < length g.edges = omega (arith, ap length c.edges.ensures, ap (λ s. length s.edges) c.schema.ensures, count) in
    c.in_ok-push.ensures.ok ∙ ap (λ ts. ts ++ c.in_ok-edge_rows.field-0 ∷ []) l.invariant
    ∙ ap (λ rows. take l.table g.edges ++ rows ∷ []) c.in_ok-edge_rows.ensures
    ∙ sym (take_more g.edges l.table [] within)

pub returns : goal.returns
returns c =
    let g = c.args.graph.now in
    let count = AllZip-length _ g.schema.edges g.edges c.sound.ensures.edges in
    c.loop-table.invariant ∙ take_all c.loop-table.table g.edges (omega (arith, ap length c.edges.ensures, ap (λ s. length s.edges) c.schema.ensures, count))
