use Rattle.std.proofs.Common.{◌<◌, ◌^◌, All, take}
use Rattle.graph_model.specs.Keys.{rows_at}
use Rattle.algo_paths.specs.Weights.{edge_weight}
use Rattle.algo_paths.specs.Reading.{AddsWeights}
use Rattle.algo_paths.proofs.weights.push_weights.Given as goal

abbrev pub invariant-loop-place : goal.invariant-loop-place
invariant-loop-place l = record {
  adds : AddsWeights (λ r. edge_weight l.name l.on (l.table, r)) (take l.place (rows_at l.on.edges l.table)) l.initial.weights l.weights;
  fit : All (λ w. w < 2 ^ 63) l.weights;
}
