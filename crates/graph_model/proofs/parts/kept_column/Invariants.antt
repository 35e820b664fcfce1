use Rattle.std.proofs.Common.{◌≡◌}
use Rattle.graph_model.specs.Parts.{column_of, kept_places}
use Rattle.graph_model.proofs.parts.kept_column.Given as goal

abbrev pub invariant-loop-place : goal.invariant-loop-place
invariant-loop-place l = l.copy ≡ column_of (kept_places l.dead l.place) l.fn.column
