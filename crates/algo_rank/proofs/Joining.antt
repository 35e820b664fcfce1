-- an edge to an earlier block joins the blocks from there on
use Rattle.std.proofs.Common.{ℕ, ◌+◌, ◌*◌, ◌<◌, ◌≤◌, inl, inr, List, [], ◌∷◌, ◌++◌, length, slice_index, refl, arith}
use Rattle.std.specs.Prelude.{Contains}
use Rattle.std.proofs.lemmas.Bool.{cases_lt}
use Rattle.algo_digraph.specs.Digraph.{Digraph, Goes}
use Rattle.algo_rank.specs.Classes.{Reaches}
use Rattle.algo_rank.specs.Search.{Step, step_order, AreBlocks, AreSteps, AreUpTo, IsOneBlock}
use Rattle.algo_rank.specs.Search.Step.{Off}
use Rattle.algo_rank.proofs.Reaching.{reaches_edge, reaches_then}
use Rattle.algo_rank.proofs.Steps.{last_order}

-- a vertex whose edge is followed, or that is left, lies in the last block
pub in_last_block : (g : Digraph) (path heads : List ℕ) (steps : List Step) (x : Step) (Settled : ℕ → ℕ → Type 0) (q : ℕ) → AreSteps g path heads (steps ++ x ∷ []) Settled
    → step_order x ≤ 2 * q + 1 → (h : ℕ) → Contains heads h → h ≤ q
in_last_block g path heads steps x Settled q are order h head = omega (arith, order, last_order (steps ++ x ∷ []) are.rise steps x (Off h) refl (are.leaves h head))

-- the vertices of the path lead to each of the last block
pub to_last : (g : Digraph) (path heads : List ℕ) (q : ℕ) → AreBlocks g path heads → q < length path → ((h : ℕ) → Contains heads h → h ≤ q)
    → (k : ℕ) → k < length path → Reaches g (slice_index path k) (slice_index path q)
to_last g path heads q are from top k lt =
    elim (cases_lt q k) [
      | inl after ↦ are.back q k (omega arith) lt (λ h head above below. omega (arith, top h head))
      | inr le ↦ are.onward k q le from
    ]

module _ (g : Digraph) (path heads fewer : List ℕ) (are : AreBlocks g path heads) (place : ℕ) (in_path : place < length path) (up : AreUpTo place heads fewer)
    (e q : ℕ) (from : q < length path) (top : (h : ℕ) → Contains heads h → h ≤ q) (goes : Goes g e (slice_index path q) (slice_index path place)) where
  from_edge : (p k : ℕ) → p ≤ k → k < length path → place < k → IsOneBlock fewer p k → Reaches g (slice_index path place) (slice_index path p)
  from_edge p k le lt past one =
      elim (cases_lt p place) [
        | inl less ↦ are.back p place (omega arith) in_path (λ h head above below. one h (up.all h head below) above (omega arith))
        | inr ge ↦ are.onward place p ge (omega arith)
      ]

  back_joined : (p k : ℕ) → p ≤ k → k < length path → IsOneBlock fewer p k → Reaches g (slice_index path k) (slice_index path p)
  back_joined p k le lt one =
      elim (cases_lt place k) [
        | inl past ↦
            reaches_then g (slice_index path k) (slice_index path q) (slice_index path p) (to_last g path heads q are from top k lt)
            (reaches_then g (slice_index path q) (slice_index path place) (slice_index path p) (reaches_edge g e (slice_index path q) (slice_index path place) goes) (from_edge p k le lt past one))
        | inr within ↦ are.back p k le lt (λ h head above below. one h (up.all h head (omega arith)) above below)
      ]

  pub blocks_joined : AreBlocks g path fewer
  blocks_joined = record {
    onward = are.onward;
    back = back_joined;
    rise = up.rise;
    within = λ h head. are.within h (up.some h head);
    first = λ some. up.all 0 (are.first some) (omega arith);
  }
