use Rattle.std.proofs.Common.{◌≡◌, ◌<◌, ◌+◌, ◌++◌, Some, refl, length, map, sum_by, slice_get, arith, rules, subst, ap, ◌∙◌}
use Rattle.std.proofs.lemmas.List.{length_push}
use Rattle.std.proofs.lemmas.Option.{slice_get-get_or}
use Rattle.graph_schema.proofs.Sound.{few_tables}
use Rattle.graph_model.proofs.ColumnsOf.{next_item, all_handed}
use Rattle.graph_columns.specs.TableParts.{IsVertexTable}
use Rattle.delta_fold.specs.Pieces.{vertex_pieces_from, picked, picked_steps}
use Rattle.delta_fold.proofs.PieceLists.{vertices_more, vertices_take, nothing_more}
use Rattle.delta_fold.proofs.slots.push_vertex_tables.Goals as goal

pub loop-columns-init : goal.loop-columns-init
loop-columns-init g c = record {
  whole = cc;
  table = refl;
  done = nothing_more c.args.base.now.schema c.args.marks.now c.args.derived.now c.args.steps.now;
}

pub push_vertex_table-requires-clause-table : goal.push_vertex_table-requires-clause-table
push_vertex_table-requires-clause-table g c =
    let l = c.loop-columns in
    let next = next_item l.yielded l.columns-iterator.rest.items _ c.args.tables c.in-Some.columns l.invariant.whole c.in-Some.ensures.steps.0 in
    omega (arith, l.invariant.table, next.0, c.requires.tables)

pub push_vertex_table-requires-clause-width : goal.push_vertex_table-requires-clause-width
push_vertex_table-requires-clause-width g c =
    let l = c.loop-columns in
    let next = next_item l.yielded l.columns-iterator.rest.items _ c.args.tables c.in-Some.columns l.invariant.whole c.in-Some.ensures.steps.0 in
    let there : slice_get c.args.tables (length l.yielded) ≡ Some c.in-Some.columns = slice_get-get_or c.args.tables (length l.yielded) c.in-Some.columns next.0 ∙ ap Some next.1 in
    c.requires.widths l.table c.in-Some.columns (ap (slice_get c.args.tables) l.invariant.table ∙ there)

pub push_vertex_table-requires-clause-keep : goal.push_vertex_table-requires-clause-keep
push_vertex_table-requires-clause-keep g c =
    let l = c.loop-columns in
    let next = next_item l.yielded l.columns-iterator.rest.items _ c.args.tables c.in-Some.columns l.invariant.whole c.in-Some.ensures.steps.0 in
    subst IsVertexTable next.1 (c.requires.keep (length l.yielded) c.in-Some.columns next.0)

pub overflow_add-table : goal.overflow_add-table
overflow_add-table g c =
    let l = c.loop-columns in
    let next = next_item l.yielded l.columns-iterator.rest.items _ c.args.tables c.in-Some.columns l.invariant.whole c.in-Some.ensures.steps.0 in
    let small : l.table < 32 = omega (arith, l.invariant.table, next.0, c.requires.tables, few_tables c.args.base.now.schema c.sound.ensures.schema) in
    search rules

pub loop-columns-preserved : goal.loop-columns-preserved
loop-columns-preserved g c =
    let l = c.loop-columns in
    let next = next_item l.yielded l.columns-iterator.rest.items _ c.args.tables c.in-Some.columns l.invariant.whole c.in-Some.ensures.steps.0 in
    let more = length_push l.yielded c.in-Some.columns in
    record {
      whole = next.2;
      table = omega (arith, l.invariant.table, more);
      done = vertices_more c.args.base.now.schema c.args.marks.now l.table l.yielded c.in-Some.columns c.args.derived.now l.derived c.push_vertex_table.new.derived c.args.steps.now l.steps c.push_vertex_table.new.steps
          l.invariant.table (record { slots_are = c.in_ok-push_vertex_table.ensures.slots; took_are = c.in_ok-push_vertex_table.ensures.counted }) l.invariant.done;
    }

pub returns-clause-slots : goal.returns-clause-slots
returns-clause-slots g c =
    let l = c.loop-columns in
    let all = all_handed l.yielded l.columns-iterator.rest.items c.args.tables l.invariant.whole (omega (arith, l.columns-iterator.rest.ok.0, c.in-None.ensures.steps.0)) in
    l.invariant.done.slots_are ∙ ap (λ cs. c.args.derived.now ++ map (picked c.args.base.now.schema c.args.marks.now) (vertex_pieces_from 0 cs)) all

pub returns-clause-counted : goal.returns-clause-counted
returns-clause-counted g c =
    let l = c.loop-columns in
    let all = all_handed l.yielded l.columns-iterator.rest.items c.args.tables l.invariant.whole (omega (arith, l.columns-iterator.rest.ok.0, c.in-None.ensures.steps.0)) in
    l.invariant.done.took_are ∙ ap (λ cs. c.args.steps.now + sum_by (picked_steps c.args.base.now.schema c.args.marks.now) (vertex_pieces_from 0 cs)) all

pub returns-in_err-push_vertex_table-clause-most : goal.returns-in_err-push_vertex_table-clause-most
returns-in_err-push_vertex_table-clause-most g c =
    let l = c.loop-columns in
    let next = next_item l.yielded l.columns-iterator.rest.items _ c.args.tables c.in-Some.columns l.invariant.whole c.in-Some.ensures.steps.0 in
    vertices_take c.args.base.now.schema c.args.marks.now l.table l.yielded _ c.args.tables c.in-Some.columns c.args.steps.now l.steps c.push_vertex_table.new.steps
    l.invariant.table next.2 l.invariant.done.took_are c.push_vertex_table.ensures.most
