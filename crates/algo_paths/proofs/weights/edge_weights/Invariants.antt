use Rattle.std.proofs.Common.{◌<◌, ◌^◌, All}
use Rattle.algo_paths.specs.Weights.{edge_weight, AreWeights}
use Rattle.algo_paths.proofs.Causes.{edges_before}
use Rattle.algo_paths.proofs.weights.edge_weights.Given as goal

abbrev pub invariant-loop-table : goal.invariant-loop-table
invariant-loop-table l = record {
  are : AreWeights (edge_weight l.name l.on) (edges_before l.on l.table) l.weights;
  fit : All (λ w. w < 2 ^ 63) l.weights;
}
