-- How many steps a fold takes.
use Rattle.std.specs.Prelude.{ℕ, ◌+◌, Bool, true, false, List, length, sum_by}
use Rattle.graph_model.specs.Graph.{GraphData}
use Rattle.graph_model.specs.declared.change.Change.{Change}
use Rattle.graph_slots.specs.Slots.{slots}
use Rattle.graph_slots.specs.Touched.{touched}
use Rattle.graph_columns.specs.SlotSteps.{slot_steps}
use Rattle.delta_fold.specs.Folded.{folded}

-- so many steps where a slot is new, and none where it is not
abbrev pub steps_if : Bool → ℕ → ℕ
steps_if true n = n
steps_if false n = 0

-- for each slot that is new one step for each row that its table has in the new graph
abbrev pub new_steps : GraphData → List Change → ℕ
new_steps g changes = sum_by (λ x. steps_if (touched g changes x) (slot_steps (folded g changes) x)) (slots g.schema)

-- for each slot that is new one step for each row that its table has in the base, and one for each change
abbrev pub most_steps : GraphData → List Change → ℕ
most_steps g changes = sum_by (λ x. steps_if (touched g changes x) (slot_steps g x + length changes)) (slots g.schema)
