-- What the functions that read weights ensure. No public contract names these words.
use Rattle.std.specs.Prelude.{◌≡◌, ℕ, ◌++◌, List, Option}
use Rattle.graph_model.specs.declared.row.EdgeRow.{EdgeRow}
use Rattle.graph_model.specs.Keys.{rows_at}
use Rattle.graph_model.specs.Graph.{GraphData}
use Rattle.algo_paths.specs.declared.fault.PathFault.{PathFault}
use Rattle.algo_paths.specs.declared.fault.PathFault.TheVariants.{BadWeight, NoMemory}
use Rattle.algo_paths.specs.Weights.{edge_weight, AreWeights, IsFirstBad}
use Rattle.algo_paths.specs.Answer.{IsBadEdge}

-- the weights of some edges were appended
pub record AddsWeights (weight : EdgeRow → Option ℕ) (rows : List EdgeRow) (old new : List ℕ) : Type 0 where
  pub added : List ℕ
  pub are : AreWeights weight rows added
  pub all : new ≡ old ++ added

-- a fault of reading is the first edge without a weight, or out of memory
abbrev pub ReadCause : GraphData → List ℕ → PathFault → Type 0
ReadCause g name (BadWeight key) = IsBadEdge g name key
ReadCause g name NoMemory = Unit {0}
ReadCause g name e = ⊥

-- the same of one table
abbrev pub TableCause : GraphData → List ℕ → ℕ → PathFault → Type 0
TableCause g name t (BadWeight key) = (r : EdgeRow) × IsFirstBad (λ x. edge_weight name g (t, x)) (rows_at g.edges t) r × (key ≡ r.key)
TableCause g name t NoMemory = Unit {0}
TableCause g name t e = ⊥
