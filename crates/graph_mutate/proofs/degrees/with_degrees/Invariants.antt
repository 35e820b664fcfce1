use Rattle.std.proofs.Common.{◌≡◌, take}
use Rattle.graph_model.specs.Keys.{rows_at}
use Rattle.graph_mutate.specs.Sorted.{row_degree}
use Rattle.graph_mutate.specs.Ranks.{ranks}
use Rattle.graph_mutate.proofs.degrees.with_degrees.Given as goal

abbrev pub invariant-loop-place : goal.invariant-loop-place
invariant-loop-place l = l.made.items ≡ ranks (row_degree l.base l.table) (take l.place (rows_at l.base.vertices l.table))
