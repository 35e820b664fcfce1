-- How a search finds strong components. No public contract names these words.
use Rattle.std.specs.Prelude.{◌≡◌, ◌≢◌, ◌⊎◌, ℕ, ◌+◌, ◌*◌, ◌<◌, ◌≤◌, List, [], ◌∷◌, ◌++◌, AllPairs, Contains, length, map, slice_index, slice_index_or, sum_by}
use Rattle.std.specs.List.Sorted.{IsNonDecreasingBy}
use Rattle.algo_digraph.specs.Digraph.{Digraph, Goes}
use Rattle.algo_rank.specs.Classes.{Reaches, IsStrongLabel}
use Rattle.algo_rank.specs.declared.search.Stage.{Stage}
use Rattle.algo_rank.specs.declared.search.Stage.TheVariants.{Unseen, Open, Closed}
use Rattle.algo_rank.specs.declared.search.Task.{Task}
use Rattle.algo_rank.specs.declared.search.Task.TheVariants.{Follow, Leave}
use Rattle.algo_rank.specs.declared.search.Search.{Search}

-- ---- the vertices

-- how far the search has come with a vertex
abbrev pub stage_of : List Stage → ℕ → Stage
stage_of stages v = slice_index_or stages v Unseen

-- 1 for a vertex that was not met
abbrev pub unseen : Stage → ℕ
unseen Unseen = 1
unseen (Open place) = 0
unseen (Closed label) = 0

-- the vertices on the path know their places, the others that were met have their labels, and no edge leads from a vertex with a label
-- to one without
pub record AreStages (g : Digraph) (stages : List Stage) (path : List ℕ) : Type 0 where
  pub long : length stages ≡ g.vertices
  pub count : length path + sum_by unseen stages ≤ g.vertices
  pub placed : (p : ℕ) → p < length path → stage_of stages (slice_index path p) ≡ Open p
  pub found : (v p : ℕ) → stage_of stages v ≡ Open p → (p < length path) × (slice_index path p ≡ v)
  pub labels : (v l : ℕ) → stage_of stages v ≡ Closed l → IsStrongLabel g v l
  pub final : (e v w l : ℕ) → Goes g e v w → stage_of stages v ≡ Closed l → (m : ℕ) × (stage_of stages w ≡ Closed m)

-- ---- the path and its blocks

-- no block begins after the place p and up to the place q
abbrev pub IsOneBlock : List ℕ → ℕ → ℕ → Type 0
IsOneBlock heads p q = (h : ℕ) → Contains heads h → p < h → h ≤ q → ⊥

-- walks lead from each vertex of the path to the later ones, and back within a block; the first block begins where the path does
pub record AreBlocks (g : Digraph) (path heads : List ℕ) : Type 0 where
  pub onward : (p q : ℕ) → p ≤ q → q < length path → Reaches g (slice_index path p) (slice_index path q)
  pub back : (p q : ℕ) → p ≤ q → q < length path → IsOneBlock heads p q → Reaches g (slice_index path q) (slice_index path p)
  pub rise : AllPairs (λ a b. a < b) heads
  pub within : (h : ℕ) → Contains heads h → h < length path
  pub first : 0 < length path → Contains heads 0

-- ---- what is left to do

-- a task, and the place of the vertex that an edge leaves
pub data Step : Type 0 where
  Along : ℕ → ℕ → Step
  Off : ℕ → Step

abbrev pub task_of : Step → Task
task_of (Along from to) = Follow to
task_of (Off place) = Leave place

-- steps rise by places, and a vertex is left after its edges were followed
abbrev pub step_order : Step → ℕ
step_order (Along from to) = 2 * from + 1
step_order (Off place) = 2 * place

-- an edge from the place q to w is settled: w has its label, or lies in the block of q or in a later one
abbrev pub IsSettled : List Stage → List ℕ → ℕ → ℕ → Type 0
IsSettled stages heads q w =
    ((l : ℕ) × (stage_of stages w ≡ Closed l)) ⊎ ((r : ℕ) × (stage_of stages w ≡ Open r) × IsOneBlock heads r q)

-- each edge from the path is settled or waits, and the first vertex of each block waits to be left
pub record AreSteps (g : Digraph) (path heads : List ℕ) (steps : List Step) (Settled : ℕ → ℕ → Type 0) : Type 0 where
  pub rise : IsNonDecreasingBy step_order steps
  pub places : (q : ℕ) → Contains steps (Off q) → q ≤ length path
  pub leaves : (h : ℕ) → Contains heads h → Contains steps (Off h)
  pub follows : (q w : ℕ) → Contains steps (Along q w) → (q < length path) × ((e : ℕ) × Goes g e (slice_index path q) w)
  pub edges : (e q w : ℕ) → q < length path → Goes g e (slice_index path q) w → Contains steps (Along q w) ⊎ Settled q w

-- ---- the search

-- the edges from the path wait or are settled, all three for the steps that the tasks stand for
pub record IsSearch (g : Digraph) (s : Search) : Type 0 where
  pub steps : List Step
  pub tasks : s.tasks.items ≡ map task_of steps
  pub vertices : AreStages g s.stages s.path.items
  pub blocks : AreBlocks g s.path.items s.heads.items
  pub left : AreSteps g s.path.items s.heads.items steps (IsSettled s.stages s.heads.items)

-- a search from which a task was taken off
pub record IsTaken (g : Digraph) (s : Search) (task : Task) : Type 0 where
  pub steps : List Step
  pub step : Step
  pub is : task_of step ≡ task
  pub tasks : s.tasks.items ≡ map task_of steps
  pub vertices : AreStages g s.stages s.path.items
  pub blocks : AreBlocks g s.path.items s.heads.items
  pub left : AreSteps g s.path.items s.heads.items (steps ++ step ∷ []) (IsSettled s.stages s.heads.items)

-- a search that goes on to a vertex: edges to this one alone need not be settled, and where the path is not empty an edge leads to it
-- from the last block
pub record IsGoing (g : Digraph) (s : Search) (to : ℕ) : Type 0 where
  pub steps : List Step
  pub tasks : s.tasks.items ≡ map task_of steps
  pub vertices : AreStages g s.stages s.path.items
  pub blocks : AreBlocks g s.path.items s.heads.items
  pub left : AreSteps g s.path.items s.heads.items steps (λ q w. IsSettled s.stages s.heads.items q w ⊎ (w ≡ to))
  pub from : 0 < length s.path.items → (e q : ℕ) × (q < length s.path.items) × ((h : ℕ) → Contains s.heads.items h → h ≤ q) × Goes g e (slice_index s.path.items q) to

-- how much there is to do at most: a vertex that is met adds a task for each of its edges, and one to leave it
abbrev pub work_of : Digraph → Search → ℕ
work_of g s = sum_by unseen s.stages * (length g.edges + 1) + length s.tasks.items

-- a search went on: the vertices that it has met stay met, and there is no more to do
pub record IsOnward (g : Digraph) (old new : Search) : Type 0 where
  pub kept : (v : ℕ) → stage_of old.stages v ≢ Unseen → stage_of new.stages v ≢ Unseen
  pub work : work_of g new ≤ work_of g old

-- ---- blocks that are joined, and one that is closed

-- the heads up to a place
pub record AreUpTo (place : ℕ) (heads fewer : List ℕ) : Type 0 where
  pub rise : AllPairs (λ a b. a < b) fewer
  pub some : (h : ℕ) → Contains fewer h → Contains heads h
  pub low : (h : ℕ) → Contains fewer h → h ≤ place
  pub all : (h : ℕ) → Contains heads h → h ≤ place → Contains fewer h

-- a vertex lies on the path from a place on
abbrev pub IsFrom : List ℕ → ℕ → ℕ → Type 0
IsFrom path place v = (p : ℕ) × (place ≤ p) × (p < length path) × (slice_index path p ≡ v)

-- some vertices got a label, and the others stay as they were
pub record IsLabelling (Member : ℕ → Type 0) (label : ℕ) (old new : List Stage) : Type 0 where
  pub long : length new ≡ length old
  pub count : sum_by unseen new ≤ sum_by unseen old
  pub set : (v : ℕ) → Member v → stage_of new v ≡ Closed label
  pub kept : (v : ℕ) → (Member v → ⊥) → stage_of new v ≡ stage_of old v

-- the label is the least of some vertices
pub record IsLeast (Member : ℕ → Type 0) (label : ℕ) : Type 0 where
  pub has : Member label
  pub least : (v : ℕ) → Member v → label ≤ v
