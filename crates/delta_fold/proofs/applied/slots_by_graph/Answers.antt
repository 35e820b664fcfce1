use Rattle.std.proofs.Common.{◌∙◌, ap, arith}
use Rattle.graph_slots.proofs.More.{schema_stays}
use Rattle.delta_fold.proofs.FoldedSlots.{marked_are}
use Rattle.delta_fold.proofs.Rows.{steps_are}
use Rattle.delta_fold.proofs.applied.slots_by_graph.Goals as goal

pub marked_slots-requires : goal.marked_slots-requires
marked_slots-requires g c = ap (λ h. h.schema) c.in_ok-graph.ensures.graph ∙ schema_stays c.args.base.now c.args.changes.now

pub returns-clause-slots : goal.returns-clause-slots
returns-clause-slots g c = marked_are c.args.base.now c.args.changes.now c.in_ok-graph.field-0.graph c.in_ok-graph.field-0.marks c.in_ok-derived.derived c.in_ok-graph.ensures.graph c.in_ok-graph.ensures.marks c.in_ok-derived.ensures.slots

pub returns-clause-counted : goal.returns-clause-counted
returns-clause-counted g c = omega (arith, c.in_ok-derived.ensures.counted, steps_are c.args.base.now c.args.changes.now c.in_ok-graph.field-0.graph c.in_ok-graph.field-0.marks c.in_ok-graph.ensures.graph c.in_ok-graph.ensures.marks)

pub returns-in_err-derived-clause-most : goal.returns-in_err-derived-clause-most
returns-in_err-derived-clause-most g c = omega (arith, c.marked_slots.ensures.most, steps_are c.args.base.now c.args.changes.now c.in_ok-graph.field-0.graph c.in_ok-graph.field-0.marks c.in_ok-graph.ensures.graph c.in_ok-graph.ensures.marks)

pub returns-clause-most : goal.returns-clause-most
returns-clause-most g c = omega (arith, c.marked_slots.ensures.most, steps_are c.args.base.now c.args.changes.now c.in_ok-graph.field-0.graph c.in_ok-graph.field-0.marks c.in_ok-graph.ensures.graph c.in_ok-graph.ensures.marks)
