use Rattle.std.proofs.Common.{◌≡◌, take}
use Rattle.pgql_ast.proofs.query_copy.copy_steps.Given as goal

abbrev pub invariant-loop-step : goal.invariant-loop-step
invariant-loop-step l = l.all ≡ take l.step-index l.steps
