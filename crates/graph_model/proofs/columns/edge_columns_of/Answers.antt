use Rattle.std.proofs.Common.{◌≡◌, ℤ, ◌+◌, ◌<◌, ◌≤◌, ◌++◌, ◌∷◌, [], ◌∙◌, List, Some, arith, sym, ap, subst, length, get_or, slice_get, drop, All}
use Rattle.std.specs.List.{zip}
use Rattle.std.proofs.lemmas.List.{get_or_default}
use Rattle.graph_schema.specs.declared.schema.EdgeTable.{EdgeTable}
use Rattle.graph_model.specs.declared.ends.Ends.{Ends}
use Rattle.graph_model.specs.Graph.{source_table, destination_table}
use Rattle.graph_model.specs.Seats.{TableData}
use Rattle.graph_model.specs.Stored.{table_at, ends_at, pairs_at, no_table}
use Rattle.graph_model.specs.Parts.{AreEach, HasEdgeParts, HasEdgePartsAt, HasFewEnds, ranks_at}
use Rattle.graph_model.proofs.SeatEnds.{at_get}
use Rattle.graph_model.proofs.ColumnsOf.{each_push, first_left, rest_left}
use Rattle.graph_model.proofs.columns.edge_columns_of.Goals as goal

pub edge_columns-requires-clause-long : goal.edge_columns-requires-clause-long
edge_columns-requires-clause-long c =
    let l = c.loop-shape in
    let u = l.shape-index in
    let table = first_left c.args.edges u c.remove-table.result no_table (ap (λ (x : List TableData). slice_get x 0) (sym l.invariant.tables) ∙ c.remove-table.ensures.item) in
    let list = first_left c.args.ends u c.remove-list.result [] (ap (λ (x : List (List Ends)). slice_get x 0) (sym l.invariant.lists) ∙ c.remove-list.ensures.item) in
    omega (arith, ap (λ (x : TableData). length x.seats) table, ap length list, c.requires.long u)

pub edge_columns-requires-clause-few : goal.edge_columns-requires-clause-few
edge_columns-requires-clause-few c =
    let l = c.loop-shape in
    let u = l.shape-index in
    let table = first_left c.args.edges u c.remove-table.result no_table (ap (λ (x : List TableData). slice_get x 0) (sym l.invariant.tables) ∙ c.remove-table.ensures.item) in
    let list = first_left c.args.ends u c.remove-list.result [] (ap (λ (x : List (List Ends)). slice_get x 0) (sym l.invariant.lists) ∙ c.remove-list.ensures.item) in
    subst (λ (x : TableData). All HasFewEnds (zip x.seats c.remove-list.result)) (sym table)
    (subst (λ (x : List Ends). All HasFewEnds (zip (table_at c.args.edges u).seats x)) (sym list) (c.requires.few u))

pub loop-shape-preserved : goal.loop-shape-preserved
loop-shape-preserved c =
    let l = c.loop-shape in
    let u = l.shape-index in
    let table = first_left c.args.edges u c.remove-table.result no_table (ap (λ (x : List TableData). slice_get x 0) (sym l.invariant.tables) ∙ c.remove-table.ensures.item) in
    let list = first_left c.args.ends u c.remove-list.result [] (ap (λ (x : List (List Ends)). slice_get x 0) (sym l.invariant.lists) ∙ c.remove-list.ensures.item) in
    let shapes = c.args.shapes.now in
    let ranks = c.args.ranks.now in
    let shape = c.shape-item.result in
    let made = c.in_ok-edge_columns.field-0 in
    let range = c.requires.range u shape c.loop-shape-test.true in
    let at = at_get shapes u shape c.loop-shape-test.true c.shape-item.is in
    let from = ranks_at ranks (source_table (slice_get shapes u)) in
    let to = ranks_at ranks (destination_table (slice_get shapes u)) in
    let source : shape.source < length ranks = omega (arith, range.0, ap (λ (x : EdgeTable). x.source) c.shape-item.is) in
    let destination : shape.destination < length ranks = omega (arith, range.1, ap (λ (x : EdgeTable). x.destination) c.shape-item.is) in
    let starts : c.as_slice-from.result.now ≡ from =
    c.as_slice-from.ensures ∙ c.index-ranks-shape.is ∙ get_or_default ranks shape.source c.index-ranks-shape.result [] source ∙ ap (λ o. ranks_at ranks (source_table o)) (sym at) in
    let leads : c.as_slice-to.result.now ≡ to =
    c.as_slice-to.ensures ∙ c.index-ranks-shape-in-loop-shape.is ∙ get_or_default ranks shape.destination c.index-ranks-shape-in-loop-shape.result [] destination ∙ ap (λ o. ranks_at ranks (destination_table o)) (sym at) in
    let has : HasEdgePartsAt c.args.shapes.now c.args.edges c.args.ends c.args.ranks.now u c.in_ok-edge_columns.field-0 =
    subst (λ (x : TableData). HasEdgeParts x (ends_at c.args.ends u) from to made) table
    (subst (λ (x : List Ends). HasEdgeParts c.remove-table.result x from to made) list
    (subst (λ (r : List ℤ). HasEdgeParts c.remove-table.result c.remove-list.result r to made) starts
    (subst (λ (r : List ℤ). HasEdgeParts c.remove-table.result c.remove-list.result c.as_slice-from.result.now r made) leads c.in_ok-edge_columns.ensures))) in
    record {
      tables = c.remove-table.ensures.rest ∙ ap (drop 1) l.invariant.tables ∙ rest_left c.args.edges u;
      lists = c.remove-list.ensures.rest ∙ ap (drop 1) l.invariant.lists ∙ rest_left c.args.ends u;
      done = rw c.in_ok-push.ensures.ok (each_push (HasEdgePartsAt c.args.shapes.now c.args.edges c.args.ends c.args.ranks.now) u l.columns c.in_ok-edge_columns.field-0 l.invariant.done has);
    }
