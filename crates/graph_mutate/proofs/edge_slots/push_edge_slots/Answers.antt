use Rattle.std.proofs.lemmas.Result.{on_ok_weaker}
use Rattle.graph_mutate.proofs.EdgeTables.{edge_slots_pushed}
use Rattle.graph_mutate.proofs.edge_slots.push_edge_slots.Goals as goal

pub returns-clause-slots : goal.returns-clause-slots
returns-clause-slots g c =
    on_ok_weaker c.push_prop_slots.result
    (λ grown. edge_slots_pushed c.args.base.now c.args.table c.args.lists c.in_ok-key_part.field-0 c.as_slice.result.now c.args.derived.now c.push.new.self c.push_end_slots.new.derived c.push_prop_slots.new.derived
    c.in_ok-key_part.ensures.part c.as_slice.ensures c.in_ok-push.ensures.ok c.in_ok-push_end_slots.ensures.slots grown)
    c.push_prop_slots.ensures.slots
