use Rattle.std.proofs.Common.{◌++◌, map, ap, ◌∙◌, arith}
use Rattle.graph_columns.proofs.ColumnTables.{vertex_tables_keep, edge_tables_keep}
use Rattle.delta_fold.specs.Pieces.{vertex_pieces_from, picked}
use Rattle.delta_fold.proofs.PieceLists.{columns_fit, all_take, whole}
use Rattle.delta_fold.proofs.slots.marked_slots.Goals as goal

pub push_vertex_tables-requires-clause-tables : goal.push_vertex_tables-requires-clause-tables
push_vertex_tables-requires-clause-tables g c = (columns_fit c.args.base.now.schema c.args.graph c.in_ok-columns.columns c.sound.ensures c.requires c.in_ok-columns.ensures).vertices

pub push_vertex_tables-requires-clause-widths : goal.push_vertex_tables-requires-clause-widths
push_vertex_tables-requires-clause-widths g c = (columns_fit c.args.base.now.schema c.args.graph c.in_ok-columns.columns c.sound.ensures c.requires c.in_ok-columns.ensures).vertex_widths

pub push_vertex_tables-requires-clause-keep : goal.push_vertex_tables-requires-clause-keep
push_vertex_tables-requires-clause-keep g c = vertex_tables_keep c.args.graph c.in_ok-columns.columns c.sound.ensures c.in_ok-columns.ensures

pub push_edge_tables-requires-clause-tables : goal.push_edge_tables-requires-clause-tables
push_edge_tables-requires-clause-tables g c = (columns_fit c.args.base.now.schema c.args.graph c.in_ok-columns.columns c.sound.ensures c.requires c.in_ok-columns.ensures).edges

pub push_edge_tables-requires-clause-widths : goal.push_edge_tables-requires-clause-widths
push_edge_tables-requires-clause-widths g c = (columns_fit c.args.base.now.schema c.args.graph c.in_ok-columns.columns c.sound.ensures c.requires c.in_ok-columns.ensures).edge_widths

pub push_edge_tables-requires-clause-keep : goal.push_edge_tables-requires-clause-keep
push_edge_tables-requires-clause-keep g c = edge_tables_keep c.args.graph c.in_ok-columns.columns c.sound.ensures c.in_ok-columns.ensures

pub returns-clause-slots : goal.returns-clause-slots
returns-clause-slots g c =
    let s = c.args.base.now.schema in
    let m = c.args.marks.now in
    let columns = c.in_ok-columns.columns in
    let first = c.in_ok-push_vertex_tables.ensures.slots ∙ ap (λ ds. ds ++ map (picked s m) (vertex_pieces_from 0 columns.vertices)) c.new-derived.ensures in
    (whole s c.args.graph m columns c.push_vertex_tables.new.derived c.push_edge_tables.new.derived c.args.steps.now c.push_vertex_tables.new.steps c.push_edge_tables.new.steps c.sound.ensures c.requires c.in_ok-columns.ensures
    (record { slots_are = first; took_are = c.in_ok-push_vertex_tables.ensures.counted })
    (record { slots_are = c.in_ok-push_edge_tables.ensures.slots; took_are = c.in_ok-push_edge_tables.ensures.counted })).slots_are

pub returns-clause-counted : goal.returns-clause-counted
returns-clause-counted g c =
    let s = c.args.base.now.schema in
    let m = c.args.marks.now in
    let columns = c.in_ok-columns.columns in
    let first = c.in_ok-push_vertex_tables.ensures.slots ∙ ap (λ ds. ds ++ map (picked s m) (vertex_pieces_from 0 columns.vertices)) c.new-derived.ensures in
    (whole s c.args.graph m columns c.push_vertex_tables.new.derived c.push_edge_tables.new.derived c.args.steps.now c.push_vertex_tables.new.steps c.push_edge_tables.new.steps c.sound.ensures c.requires c.in_ok-columns.ensures
    (record { slots_are = first; took_are = c.in_ok-push_vertex_tables.ensures.counted })
    (record { slots_are = c.in_ok-push_edge_tables.ensures.slots; took_are = c.in_ok-push_edge_tables.ensures.counted })).took_are

pub returns-in_err-push_vertex_tables-clause-most : goal.returns-in_err-push_vertex_tables-clause-most
returns-in_err-push_vertex_tables-clause-most g c = omega (arith, c.push_vertex_tables.ensures.most, all_take c.args.base.now.schema c.args.graph c.args.marks.now c.in_ok-columns.columns c.sound.ensures c.requires c.in_ok-columns.ensures)

pub returns-in_err-push_edge_tables-clause-most : goal.returns-in_err-push_edge_tables-clause-most
returns-in_err-push_edge_tables-clause-most g c = omega (arith, c.push_vertex_tables.ensures.most, c.push_edge_tables.ensures.most, all_take c.args.base.now.schema c.args.graph c.args.marks.now c.in_ok-columns.columns c.sound.ensures c.requires c.in_ok-columns.ensures)

pub returns-clause-most : goal.returns-clause-most
returns-clause-most g c = omega (arith, c.push_vertex_tables.ensures.most, c.push_edge_tables.ensures.most, all_take c.args.base.now.schema c.args.graph c.args.marks.now c.in_ok-columns.columns c.sound.ensures c.requires c.in_ok-columns.ensures)
