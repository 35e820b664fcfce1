use Rattle.std.proofs.Common.{◌≡◌, ◌<◌, All, length, take}
use Rattle.graph_model.specs.Keys.{rows_at}
use Rattle.graph_mutate.specs.Taken.{taken}
use Rattle.graph_mutate.specs.Undirected.{straight}
use Rattle.graph_mutate.proofs.undirect.straight_places.Given as goal

abbrev pub invariant-loop-place : goal.invariant-loop-place
invariant-loop-place l = record {
  taken : taken (rows_at l.base.edges l.table) l.places ≡ straight (take l.place (rows_at l.base.edges l.table));
  within : All (λ p. p < length (rows_at l.base.edges l.table)) l.places;
}
