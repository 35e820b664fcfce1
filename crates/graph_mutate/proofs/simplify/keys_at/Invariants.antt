use Rattle.std.proofs.Common.{◌≡◌, take}
use Rattle.graph_columns.specs.Keys.{edge_keys_at}
use Rattle.graph_mutate.specs.Taken.{taken}
use Rattle.graph_mutate.proofs.simplify.keys_at.Given as goal

abbrev pub invariant-loop-place : goal.invariant-loop-place
invariant-loop-place l = l.keys ≡ taken (edge_keys_at l.base l.table) (take l.place-index l.places)
