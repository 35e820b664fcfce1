use Rattle.std.proofs.Common.{◌≡◌, ◌+◌, ◌<◌, ◌≤◌, pos, ◌+ℤ◌, length, refl, subst, ap, sym, ◌∙◌, arith, rules, w64, FitsSigned}
use Rattle.std.specs.Prelude.{◌≤ℤ◌}
use Rattle.std.proofs.lemmas.Int.{ints, to_z-of_z, to_z_pos}
use mir.Val.{to_z}
use Rattle.graph_model.specs.Keys.{rows_at}
use Rattle.graph_columns.proofs.EndPlaces.{few_edges_in}
use Rattle.graph_columns.proofs.SlotParts.{item_at}
use Rattle.graph_mutate.specs.Undirected.{greatest_key, undirected, last_key}
use Rattle.graph_mutate.specs.EdgeTables.{list_steps}
use Rattle.graph_mutate.proofs.Sizes.{straight_le}
use Rattle.graph_mutate.proofs.Reverses.{undirected_is}
use Rattle.graph_mutate.proofs.ReverseLists.{straight_long, edges_within}
use Rattle.graph_mutate.proofs.ReverseKeys.{keys_have_room, next_key}
use Rattle.graph_mutate.proofs.NewTables.{no_table, one_table, are_lists}
use Rattle.graph_mutate.proofs.tables.undirected_slots.Goals as goal

pub loop-table-init : goal.loop-table-init
loop-table-init g c =
    let base = c.args.base.now in
    let fits : FitsSigned w64 c.greatest_key-last.result = search rules in
    record {
      took = 0;
      steps_are = omega arith;
      so_far = no_table base (undirected base).edges c.in_ok-derived.derived c.in_ok-derived.ensures;
      last = to_z-of_z w64 c.greatest_key-last.result fits ∙ c.greatest_key-last.ensures ∙ (let e : greatest_key base ≡ greatest_key base +ℤ pos 0 = omega (arith, ints) in e);
    }

pub with_reverses-requires-clause-room : goal.with_reverses-requires-clause-room
with_reverses-requires-clause-room g c =
    let base = c.args.base.now in
    let t = c.loop-table.table in
    let small : t < length base.schema.edges = subst (λ n. t < n) (ap length (c.edges.ensures ∙ ap (λ s. s.edges) c.schema.ensures)) c.loop-table-test.true in
    let fits : FitsSigned w64 c.greatest_key-last.result = search rules in
    let greatest = c.greatest_key-last.ensures in
    let high : greatest_key base ≤ℤ pos 9223372036854775807 = omega (arith, ints, greatest, fits) in
    let room = keys_have_room base t (edges_within base t c.sound.ensures small) c.requires.spent high in
    let long = straight_long base t c.in_ok-single.single (record { taken_are = c.in_ok-single.ensures.taken; within = c.in_ok-single.ensures.within }) in
    let last = c.loop-table.invariant.last in
    omega (arith, ints, room, last, long, ap length c.as_slice.ensures)

pub overflow_add-last : goal.overflow_add-last
overflow_add-last g c =
    let base = c.args.base.now in
    let t = c.loop-table.table in
    let small : t < length base.schema.edges = subst (λ n. t < n) (ap length (c.edges.ensures ∙ ap (λ s. s.edges) c.schema.ensures)) c.loop-table-test.true in
    let fits : FitsSigned w64 c.greatest_key-last.result = search rules in
    let greatest = c.greatest_key-last.ensures in
    let high : greatest_key base ≤ℤ pos 9223372036854775807 = omega (arith, ints, greatest, fits) in
    let room = keys_have_room base t (edges_within base t c.sound.ensures small) c.requires.spent high in
    let long = straight_long base t c.in_ok-single.single (record { taken_are = c.in_ok-single.ensures.taken; within = c.in_ok-single.ensures.within }) in
    let few : c.len.result ≤ 4194304 = omega (arith, c.len.ensures, long, straight_le (rows_at base.edges t), few_edges_in base t c.sound.ensures) in
    let step : to_z w64 c.len.result ≡ pos c.len.result = to_z_pos w64 c.len.result (omega arith) in
    let last = c.loop-table.invariant.last in
    let top : (to_z w64 c.loop-table.last-bits +ℤ to_z w64 c.len.result) ≤ℤ pos 9223372036854775807 = omega (arith, ints, room, last, step, long, c.len.ensures) in
    search rules

pub push_edge_slots-requires-clause-lists : goal.push_edge_slots-requires-clause-lists
push_edge_slots-requires-clause-lists g c =
    let base = c.args.base.now in
    are_lists base (undirected base) c.loop-table.table c.in_ok-lists.lists (undirected_is base c.sound.ensures c.requires.mixed c.requires.big) c.in_ok-lists.ensures

pub loop-table-preserved : goal.loop-table-preserved
loop-table-preserved g c =
    let base = c.args.base.now in
    let t = c.loop-table.table in
    let small : t < length base.schema.edges = subst (λ n. t < n) (ap length (c.edges.ensures ∙ ap (λ s. s.edges) c.schema.ensures)) c.loop-table-test.true in
    let within = edges_within base t c.sound.ensures small in
    let fits_greatest : FitsSigned w64 c.greatest_key-last.result = search rules in
    let greatest = c.greatest_key-last.ensures in
    let high : greatest_key base ≤ℤ pos 9223372036854775807 = omega (arith, ints, greatest, fits_greatest) in
    let room = keys_have_room base t within c.requires.spent high in
    let long = straight_long base t c.in_ok-single.single (record { taken_are = c.in_ok-single.ensures.taken; within = c.in_ok-single.ensures.within }) in
    let few : c.len.result ≤ 4194304 = omega (arith, c.len.ensures, long, straight_le (rows_at base.edges t), few_edges_in base t c.sound.ensures) in
    let step : to_z w64 c.len.result ≡ pos c.len.result = to_z_pos w64 c.len.result (omega arith) in
    let last = c.loop-table.invariant.last in
    let sum = to_z w64 c.loop-table.last-bits +ℤ to_z w64 c.len.result in
    let top : (to_z w64 c.loop-table.last-bits +ℤ to_z w64 c.len.result) ≤ℤ pos 9223372036854775807 = omega (arith, ints, room, last, step, long, c.len.ensures) in
    let fits : FitsSigned w64 sum = search rules in
    let shape = item_at base.schema.edges t small in
    let took = c.loop-table.invariant.took in
    record {
      took = took + list_steps base t c.in_ok-lists.lists;
      steps_are = omega (arith, c.in_ok-push_edge_slots.ensures.counted, c.loop-table.invariant.steps_are);
      so_far = one_table base (undirected base).edges t shape.item c.in_ok-lists.lists c.loop-table.derived c.push_edge_slots.new.derived took (took + list_steps base t c.in_ok-lists.lists) shape.there c.in_ok-lists.ensures c.loop-table.invariant.so_far c.in_ok-push_edge_slots.ensures.slots refl;
      last = to_z-of_z w64 sum fits
          ∙ ap (λ z. z +ℤ to_z w64 c.len.result) last
          ∙ ap (λ z. last_key base t +ℤ z) step ∙ ap (λ n. last_key base t +ℤ pos n) (c.len.ensures ∙ long)
          ∙ sym (next_key base t within);
    }
