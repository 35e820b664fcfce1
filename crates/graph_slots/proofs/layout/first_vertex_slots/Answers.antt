use Rattle.std.proofs.Common.{◌<◌, ◌++◌, ◌∷◌, [], map, length, arith, sym, ap, ◌∙◌}
use Rattle.std.specs.List.{range_with_len}
use Rattle.std.proofs.lemmas.List.FromFn.{map-range_with_len_more}
use Rattle.graph_slots.specs.Numbers.{vertex_start}
use Rattle.graph_slots.proofs.Starts.{vertex_more, vertex_zero}
use Rattle.graph_slots.proofs.layout.first_vertex_slots.Goals as goal

pub loop-table-init : goal.loop-table-init
loop-table-init c = record { firsts = c.new-firsts.ensures; next = sym (vertex_zero _); bound = omega arith }

pub loop-table-preserved : goal.loop-table-preserved
loop-table-preserved c =
    let tables = c.args.tables.now in
    let at = c.loop-table.table-index in
    let d = c.table-item.result in
    let within : at < length tables = omega arith in
    let long = c.len.ensures ∙ ap (λ x. length x.props) c.table-item.is in
    let few = c.requires.props at d within in
    record {
      firsts = c.in_ok-push.ensures.ok ∙ ap (λ xs. xs ++ c.loop-table.next ∷ []) c.loop-table.invariant.firsts
          ∙ ap (λ n. map (vertex_start tables) (range_with_len 0 at) ++ n ∷ []) c.loop-table.invariant.next
          ∙ sym (map-range_with_len_more (vertex_start tables) 0 at at (omega arith));
      next = omega (arith, vertex_more tables at d within, long, c.loop-table.invariant.next);
      bound = omega (arith, few, long, c.loop-table.invariant.bound);
    }
