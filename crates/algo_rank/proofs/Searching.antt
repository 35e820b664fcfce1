-- a search goes on: what its tasks stand for, and what each of them leaves
use Rattle.std.proofs.Common.{◌≡◌, ℕ, suc, ◌+◌, ◌*◌, ◌-◌, ◌<◌, ◌≤◌, ◌⊎◌, inl, inr, List, [], ◌∷◌, ◌++◌, length, map, take, set, slice_index, length-append, refl, ap, sym, ◌∙◌, subst, arith}
use Rattle.std.specs.Prelude.{Contains, AllPairs, sum_by}
use Rattle.std.proofs.lemmas.Bool.{cases_lt}
use Rattle.std.proofs.lemmas.List.{length-map, length_push, map-append, take_all, take_more, get_or_default}
use Rattle.std.proofs.lemmas.List.Sums.{sum_by-set}
use Rattle.std.proofs.lemmas.List.Elements.{Contains-push, Contains-get_or}
use Rattle.algo_digraph.specs.declared.arcs.Arc.{Arc}
use Rattle.algo_digraph.specs.Digraph.{Digraph, Goes}
use Rattle.algo_digraph.specs.Arcs.{out_arcs}
use Rattle.algo_digraph.proofs.ArcEdges.{out_few}
use Rattle.algo_digraph.proofs.Lists.{map_pairs}
use Rattle.algo_rank.specs.declared.search.Stage.{Stage}
use Rattle.algo_rank.specs.declared.search.Stage.TheVariants.{Unseen, Open, Closed}
use Rattle.algo_rank.specs.declared.search.Task.{Task}
use Rattle.algo_rank.specs.declared.search.Task.TheVariants.{Follow, Leave}
use Rattle.algo_rank.specs.Classes.{Reaches}
use Rattle.algo_rank.specs.Search.{stage_of, unseen, Step, task_of, step_order, AreBlocks, AreSteps, AreUpTo, IsSettled}
use Rattle.algo_rank.specs.Search.Step.{Along, Off}
use Rattle.algo_rank.proofs.Reaching.{reaches_edge, reaches_then}
use Rattle.algo_rank.proofs.Steps.{last_order, taken, settled_as, fewer_heads}
use Rattle.algo_rank.proofs.Meeting.{edges_from}
use Rattle.algo_rank.proofs.Joining.{in_last_block, to_last}

-- ---- tasks and steps

pub no_steps : (steps : List Step) → map task_of steps ≡ [] → steps ≡ []
no_steps [] e = refl
no_steps (x ∷ steps) e = cc

-- the step of the last task
pub last_step : (steps : List Step) (front : List Task) (t : Task) → map task_of steps ≡ front ++ t ∷ []
    → (before : List Step) × (x : Step) × (steps ≡ before ++ x ∷ []) × (map task_of before ≡ front) × (task_of x ≡ t)
last_step [] [] t e = cc
last_step [] (f ∷ front) t e = cc
last_step (x ∷ []) [] t e = (let is : task_of x ≡ t = cc in ([], x, refl, refl, is))
last_step (x ∷ y ∷ steps) [] t e = cc
last_step (x ∷ steps) (f ∷ front) t e =
    let rest : map task_of steps ≡ front ++ t ∷ [] = cc in
    let head : task_of x ≡ f = cc in
    let r = last_step steps front t rest in
    (x ∷ r.0, r.1, ap (λ ys. x ∷ ys) r.2, ap (λ y. y ∷ map task_of r.0) head ∙ ap (λ ys. f ∷ ys) r.3, r.4)

pub along_of : (x : Step) (to : ℕ) → task_of x ≡ Follow to → (q : ℕ) × (x ≡ Along q to)
along_of (Along q w) to e = (let same : w ≡ to = cc in (q, ap (Along q) same))
along_of (Off q) to e = cc

pub off_of : (x : Step) (place : ℕ) → task_of x ≡ Leave place → x ≡ Off place
off_of (Along q w) place e = cc
off_of (Off q) place e = cc

-- the tasks of a vertex that is met
pub tasks_met : (g : Digraph) (steps : List Step) (p v : ℕ) (old new : List Task) → old ≡ map task_of steps → new ≡ (old ++ Leave p ∷ []) ++ map (λ (a : Arc). Follow a.vertex) (out_arcs g v)
    → new ≡ map task_of ((steps ++ Off p ∷ []) ++ edges_from p (out_arcs g v))
tasks_met g steps p v old new old_is new_is =
    new_is
    ∙ ap (λ ts. (ts ++ Leave p ∷ []) ++ map (λ (a : Arc). Follow a.vertex) (out_arcs g v)) old_is
    ∙ ap (λ ts. ts ++ map (λ (a : Arc). Follow a.vertex) (out_arcs g v)) (sym (map-append task_of steps (Off p ∷ [])))
    ∙ ap (λ ts. map task_of (steps ++ Off p ∷ []) ++ ts) (sym (map_pairs task_of (λ (a : Arc). Along p a.vertex) (out_arcs g v)))
    ∙ sym (map-append task_of (steps ++ Off p ∷ []) (edges_from p (out_arcs g v)))

-- there is no more to do
pub work_met : (g : Digraph) (stages : List Stage) (p v : ℕ) (old new : List Task) → v < length stages → stage_of stages v ≡ Unseen
    → new ≡ (old ++ Leave p ∷ []) ++ map (λ (a : Arc). Follow a.vertex) (out_arcs g v)
    → sum_by unseen (set stages v (Open p)) * (length g.edges + 1) + length new ≤ sum_by unseen stages * (length g.edges + 1) + length old
work_met g stages p v old new lt fresh is =
    let fewer : sum_by unseen stages ≡ suc (sum_by unseen (set stages v (Open p))) = omega (arith, sum_by-set unseen stages v (Open p) Unseen lt, ap unseen fresh) in
    let times : suc (sum_by unseen (set stages v (Open p))) * (length g.edges + 1) ≡ sum_by unseen (set stages v (Open p)) * (length g.edges + 1) + (length g.edges + 1) = omega arith in
    omega (
      arith,
      ap (λ n. n * (length g.edges + 1)) fewer,
      times,
      ap length is,
      length-append (old ++ Leave p ∷ []) (map (λ (a : Arc). Follow a.vertex) (out_arcs g v)),
      length_push old (Leave p),
      length-map (out_arcs g v) (λ (a : Arc). Follow a.vertex),
      out_few g v,
    )

-- ---- where a search goes

module _ (g : Digraph) (stages : List Stage) (path heads : List ℕ) (steps : List Step) where
  abbrev Settled : ℕ → ℕ → Type 0
  Settled q w = IsSettled stages heads q w

  abbrev ToOthers : ℕ → ℕ → ℕ → Type 0
  ToOthers to q w = IsSettled stages heads q w ⊎ (w ≡ to)

  abbrev pub HasEdge : ℕ → Type 0
  HasEdge to = (e q : ℕ) × (q < length path) × ((h : ℕ) → Contains heads h → h ≤ q) × Goes g e (slice_index path q) to

  module _ (x : Step) (are : AreSteps g path heads (steps ++ x ∷ []) (IsSettled stages heads)) where
    -- an edge is followed
    module _ (p to : ℕ) (is : x ≡ Along p to) where
      pub followed : AreSteps g path heads steps (λ q w. IsSettled stages heads q w ⊎ (w ≡ to))
      followed =
          taken g path heads steps x (ToOthers to) (settled_as g path heads (steps ++ x ∷ []) Settled (ToOthers to) (λ q w lt h. inl h) are)
          (λ h head e. (let no : ⊥ = cc in no)) (λ q w e. (let same : w ≡ to = cc in inr same))

      pub edge_there : HasEdge to
      edge_there =
          let f = are.follows p to (subst (λ y. Contains (steps ++ x ∷ []) y) is (Contains-push steps x)) in
          (f.1.0, p, f.0, in_last_block g path heads steps x Settled p are (omega (arith, ap step_order is)), f.1.1)

    -- a vertex is left that is the first of no block
    pub passed : (place : ℕ) → x ≡ Off place → (Contains heads place → ⊥) → AreSteps g path heads steps (IsSettled stages heads)
    passed place is not =
        taken g path heads steps x Settled are (λ h head e. (let same : h ≡ place = cc in not (subst (Contains heads) same head))) (λ q w e. (let no : ⊥ = cc in absurd no))

    pub leaves_last : (place : ℕ) → x ≡ Off place → (h : ℕ) → Contains heads h → h ≤ place
    leaves_last place is h head =
        let low = last_order (steps ++ x ∷ []) are.rise steps x (Off h) refl (are.leaves h head) in
        omega (arith, low, ap step_order is)

  module _ (to : ℕ) (blocks : AreBlocks g path heads) (from : 0 < length path → HasEdge to) where
    -- all vertices of the path lead to it
    pub path_reaches : (p : ℕ) → p < length path → Reaches g (slice_index path p) to
    path_reaches p lt =
        let edge = from (omega arith) in
        reaches_then g (slice_index path p) (slice_index path edge.1) to (to_last g path heads edge.1 blocks edge.2 edge.3 p lt) (reaches_edge g edge.0 (slice_index path edge.1) to edge.4)

  -- it has its label
  pub steps_passed : (to l : ℕ) → stage_of stages to ≡ Closed l → AreSteps g path heads steps (λ q w. IsSettled stages heads q w ⊎ (w ≡ to)) → AreSteps g path heads steps (IsSettled stages heads)
  steps_passed to l at are =
      settled_as g path heads steps (ToOthers to) Settled (λ q w lt h.
      elim h [
        | inl is ↦ is
        | inr same ↦ inl (l, ap (stage_of stages) same ∙ at)
      ]) are

  -- it lies on the path
  pub steps_joined : (to place : ℕ) (fewer : List ℕ) → stage_of stages to ≡ Open place → AreUpTo place heads fewer → AreSteps g path heads steps (λ q w. IsSettled stages heads q w ⊎ (w ≡ to))
      → AreSteps g path fewer steps (IsSettled stages fewer)
  steps_joined to place fewer at up are =
      settled_as g path fewer steps (ToOthers to) (IsSettled stages fewer) (λ q w lt h.
      elim h [
        | inl is ↦
            elim is [
              | inl labelled ↦ inl labelled
              | inr there ↦ inr (there.0, there.1, λ k head above below. there.2 k (up.some k head) above below)
            ]
        | inr same ↦ inr (place, ap (stage_of stages) same ∙ at, λ k head above below. omega (arith, up.low k head))
      ]) (fewer_heads g path heads fewer steps (ToOthers to) up.some are)

-- a search with no task left has no path
pub no_path : (g : Digraph) (path heads : List ℕ) (steps : List Step) (Settled : ℕ → ℕ → Type 0) → steps ≡ [] → AreBlocks g path heads → AreSteps g path heads steps Settled → 0 < length path → ⊥
no_path g path heads steps Settled none blocks are some =
    let waits = subst (λ xs. Contains xs (Off 0)) none (are.leaves 0 (blocks.first some)) in
    omega (arith, waits.1)

-- ---- numbers that rise, by their last

-- where a list has a number that none of it passes, this is the last
pub last_if_there : (heads : List ℕ) (place : ℕ) → AllPairs (λ a b. a < b) heads → ((h : ℕ) → Contains heads h → h ≤ place) → Contains heads place → (front : List ℕ) × (heads ≡ front ++ place ∷ [])
last_if_there heads place rise low there =
    let n = length heads - 1 in
    let all : take (n + 1) heads ≡ heads = take_all (n + 1) heads (omega arith) in
    let end : heads ≡ take n heads ++ slice_index heads n ∷ [] = sym all ∙ take_more heads n 0 (omega (arith, there.1)) in
    let top : slice_index heads n ≤ place = low (slice_index heads n) (Contains-get_or heads n 0 (omega (arith, there.1))) in
    elim (cases_lt there.0 n) [
      | inl before ↦ absurd (omega (arith, rise there.0 n 0 before (omega (arith, there.1)), top, get_or_default heads there.0 0 place there.1, there.2))
      | inr last ↦
          (let same : there.0 ≡ n = omega (arith, last, there.1) in
          let is : slice_index heads n ≡ place = ap (slice_index heads) (sym same) ∙ get_or_default heads there.0 0 place there.1 ∙ there.2 in
          (take n heads, end ∙ ap (λ k. take n heads ++ k ∷ []) is))
    ]
