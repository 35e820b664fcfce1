-- what each task makes of a search
use Rattle.std.proofs.Common.{◌≡◌, ◌≢◌, ℕ, ◌+◌, ◌*◌, ◌<◌, ◌≤◌, inl, List, [], ◌∷◌, ◌++◌, length, map, replicate, set, slice_index, take, refl, ap, sym, ◌∙◌, subst, arith, get_or-set_same}
use Rattle.std.specs.Prelude.{sum_by}
use Rattle.std.proofs.Math.Nat.{mul-le-mul_right}
use Rattle.std.proofs.lemmas.List.{length_push}
use Rattle.algo_digraph.specs.declared.arcs.Arc.{Arc}
use Rattle.algo_digraph.specs.Digraph.{Digraph, Goes, IsClosed}
use Rattle.algo_digraph.specs.Arcs.{out_arcs}
use Rattle.algo_rank.specs.declared.search.Stage.{Stage}
use Rattle.algo_rank.specs.declared.search.Stage.TheVariants.{Unseen, Open, Closed}
use Rattle.algo_rank.specs.declared.search.Task.{Task}
use Rattle.algo_rank.specs.declared.search.Task.TheVariants.{Follow, Leave}
use Rattle.algo_rank.specs.declared.search.Search.{Search}
use Rattle.algo_rank.specs.Search.{stage_of, unseen, Step, task_of, work_of, AreStages, AreBlocks, AreSteps, AreUpTo, IsSettled, IsSearch, IsTaken, IsGoing, IsOnward, IsFrom, IsLabelling, IsLeast}
use Rattle.algo_rank.specs.Search.Step.{Along, Off}
use Rattle.algo_rank.proofs.Steps.{settled_as}
use Rattle.algo_rank.proofs.Meeting.{edges_from, seen_kept, stages_met, blocks_met, steps_met}
use Rattle.algo_rank.proofs.Joining.{blocks_joined}
use Rattle.algo_rank.proofs.Closing.{seen_closed, stages_closed, blocks_closed, steps_closed}
use Rattle.algo_rank.proofs.Searching.{no_steps, no_path, last_step, along_of, off_of, tasks_met, work_met, followed, edge_there, passed, leaves_last, last_if_there, path_reaches, steps_passed, steps_joined}
use Rattle.algo_rank.proofs.Ends.{stages_first, blocks_first, steps_first, closed_last}

-- ---- searches whose parts are known

module _ (g : Digraph) (t : Search) (stages : List Stage) (path heads : List ℕ) (tasks : List Task)
    (stages_is : t.stages ≡ stages) (path_is : t.path.items ≡ path) (heads_is : t.heads.items ≡ heads) (tasks_is : t.tasks.items ≡ tasks) where
  pub made : (steps : List Step) → tasks ≡ map task_of steps → AreStages g stages path → AreBlocks g path heads → AreSteps g path heads steps (IsSettled stages heads) → IsSearch g t
  made steps same vertices blocks left = record {
    steps = steps;
    tasks = tasks_is ∙ same;
    vertices = subst (λ xs. AreStages g xs t.path.items) (sym stages_is) (subst (AreStages g stages) (sym path_is) vertices);
    blocks = subst (λ xs. AreBlocks g xs t.heads.items) (sym path_is) (subst (AreBlocks g path) (sym heads_is) blocks);
    left =
        subst (λ xs. AreSteps g xs t.heads.items steps (IsSettled t.stages t.heads.items)) (sym path_is)
        (subst (λ xs. AreSteps g path xs steps (IsSettled t.stages xs)) (sym heads_is)
        (subst (λ xs. AreSteps g path heads steps (IsSettled xs heads)) (sym stages_is) left));
  }

-- the first
pub first_search : (g : Digraph) (n : ℕ) (t : Search) → n ≡ g.vertices → t.stages ≡ replicate n Unseen → t.path.items ≡ [] → t.heads.items ≡ [] → t.tasks.items ≡ [] → IsSearch g t
first_search g n t long stages path heads tasks =
    made g t (replicate g.vertices Unseen) [] [] [] (stages ∙ ap (λ k. replicate k Unseen) long) path heads tasks [] refl (stages_first g) (blocks_first g) (steps_first g (IsSettled (replicate g.vertices Unseen) []))

-- ---- a task is taken off

pub task_taken : (g : Digraph) (s t : Search) (task : Task) → IsSearch g s → t.stages ≡ s.stages → t.path.items ≡ s.path.items → t.heads.items ≡ s.heads.items → s.tasks.items ≡ t.tasks.items ++ task ∷ [] → IsTaken g t task
task_taken g s t task is stages path heads tasks =
    let r = last_step is.steps t.tasks.items task (sym is.tasks ∙ tasks) in
    record {
      steps = r.0;
      step = r.1;
      is = r.4;
      tasks = sym r.3;
      vertices = subst (λ xs. AreStages g xs t.path.items) (sym stages) (subst (AreStages g s.stages) (sym path) is.vertices);
      blocks = subst (λ xs. AreBlocks g xs t.heads.items) (sym path) (subst (AreBlocks g s.path.items) (sym heads) is.blocks);
      left =
          subst (λ xs. AreSteps g xs t.heads.items (r.0 ++ r.1 ∷ []) (IsSettled t.stages t.heads.items)) (sym path)
          (subst (λ xs. AreSteps g s.path.items xs (r.0 ++ r.1 ∷ []) (IsSettled t.stages xs)) (sym heads)
          (subst (λ xs. AreSteps g s.path.items s.heads.items (r.0 ++ r.1 ∷ []) (IsSettled xs s.heads.items)) (sym stages)
          (subst (λ xs. AreSteps g s.path.items s.heads.items xs (IsSettled s.stages s.heads.items)) r.2 is.left)));
    }

pub work_taken : (g : Digraph) (s t : Search) (task : Task) → t.stages ≡ s.stages → s.tasks.items ≡ t.tasks.items ++ task ∷ [] → work_of g t < work_of g s
work_taken g s t task stages tasks = omega (arith, ap (λ xs. sum_by unseen xs * (length g.edges + 1)) stages, ap length tasks, length_push t.tasks.items task)

-- where no task is left a search can go anywhere
pub going_first : (g : Digraph) (s : Search) (v : ℕ) → IsSearch g s → s.tasks.items ≡ [] → IsGoing g s v
going_first g s v is none =
    let no = no_steps is.steps (sym is.tasks ∙ none) in
    record {
      steps = is.steps;
      tasks = is.tasks;
      vertices = is.vertices;
      blocks = is.blocks;
      left = settled_as g s.path.items s.heads.items is.steps (IsSettled s.stages s.heads.items) _ (λ q w lt h. inl h) is.left;
      from = λ some. absurd (no_path g s.path.items s.heads.items is.steps (IsSettled s.stages s.heads.items) no is.blocks is.left some);
    }

-- an edge that is followed
module _ (g : Digraph) (s : Search) (to : ℕ) (is : IsTaken g s (Follow to)) where
  along : (q : ℕ) × (is.step ≡ Along q to)
  along = along_of is.step to is.is

  pub going_along : IsGoing g s to
  going_along = record {
    steps = is.steps;
    tasks = is.tasks;
    vertices = is.vertices;
    blocks = is.blocks;
    left = followed g s.stages s.path.items s.heads.items is.steps is.step is.left along.0 to along.1;
    from = λ some. edge_there g s.stages s.path.items s.heads.items is.steps is.step is.left along.0 to along.1;
  }

  pub vertex_along : IsClosed g → to < g.vertices
  vertex_along closed = let edge = edge_there g s.stages s.path.items s.heads.items is.steps is.step is.left along.0 to along.1 in (closed edge.0 _ to edge.4).1

-- ---- where a search goes

module _ (g : Digraph) (s : Search) (to : ℕ) (is : IsGoing g s to) where
  -- the vertex has its label
  pub search_passed : (l : ℕ) → stage_of s.stages to ≡ Closed l → IsSearch g s
  search_passed l at = record {
    steps = is.steps;
    tasks = is.tasks;
    vertices = is.vertices;
    blocks = is.blocks;
    left = steps_passed g s.stages s.path.items s.heads.items is.steps to l at is.left;
  }

  -- it lies on the path
  pub search_joined : (place : ℕ) (t : Search) → stage_of s.stages to ≡ Open place → t.stages ≡ s.stages → t.path.items ≡ s.path.items → AreUpTo place s.heads.items t.heads.items → t.tasks.items ≡ s.tasks.items → IsSearch g t
  search_joined place t at stages path up tasks =
      let there = is.vertices.found to place at in
      let edge = is.from (omega (arith, there.0)) in
      made g t s.stages s.path.items t.heads.items s.tasks.items stages path refl tasks is.steps is.tasks is.vertices
      (blocks_joined g s.path.items s.heads.items t.heads.items is.blocks place there.0 up edge.0 edge.1 edge.2 edge.3 (subst (Goes g edge.0 (slice_index s.path.items edge.1)) (sym there.1) edge.4))
      (steps_joined g s.stages s.path.items s.heads.items is.steps to place t.heads.items at up is.left)

  -- it was not met
  module _ (lt : to < g.vertices) (new : stage_of s.stages to ≡ Unseen) (t : Search) (stages : t.stages ≡ set s.stages to (Open (length s.path.items)))
      (tasks : t.tasks.items ≡ (s.tasks.items ++ Leave (length s.path.items) ∷ []) ++ map (λ (a : Arc). Follow a.vertex) (out_arcs g to)) where
    pub search_met : t.path.items ≡ s.path.items ++ to ∷ [] → t.heads.items ≡ s.heads.items ++ length s.path.items ∷ [] → IsSearch g t
    search_met path heads =
        let p = length s.path.items in
        made g t (set s.stages to (Open p)) (s.path.items ++ to ∷ []) (s.heads.items ++ p ∷ []) t.tasks.items stages path heads refl ((is.steps ++ Off p ∷ []) ++ edges_from p (out_arcs g to))
        (tasks_met g is.steps p to s.tasks.items t.tasks.items is.tasks tasks)
        (stages_met g s.stages s.path.items is.vertices to lt new)
        (blocks_met g s.path.items s.heads.items is.blocks to (path_reaches g s.stages s.path.items s.heads.items is.steps to is.blocks is.from))
        (steps_met g s.stages s.path.items s.heads.items is.steps is.vertices to lt new is.left)

    pub onward_met : IsOnward g s t
    onward_met = record {
      kept = λ v ne same. ne (let at = seen_kept g s.stages s.path.items is.vertices to lt new v (stage_of s.stages v) refl ne in sym at ∙ ap (λ xs. stage_of xs v) (sym stages) ∙ same);
      work =
          omega (
            arith,
            ap (λ xs. sum_by unseen xs * (length g.edges + 1)) stages,
            work_met g s.stages (length s.path.items) to s.tasks.items t.tasks.items (omega (arith, lt, is.vertices.long)) new tasks,
          );
    }

    pub now_met : stage_of t.stages to ≢ Unseen
    now_met same =
        let at = get_or-set_same s.stages to (Open (length s.path.items)) Unseen (omega (arith, lt, is.vertices.long)) in
        let no : Open (length s.path.items) ≡ Unseen = sym at ∙ ap (λ xs. stage_of xs to) (sym stages) ∙ same in
        cc

-- the same, for a place that is how long the path was
pub meets : (g : Digraph) (s : Search) (to : ℕ) → IsGoing g s to → to < g.vertices → stage_of s.stages to ≡ Unseen → (t : Search) (p : ℕ) → t.stages ≡ set s.stages to (Open p) → p ≡ length s.path.items
    → t.tasks.items ≡ (s.tasks.items ++ Leave p ∷ []) ++ map (λ (a : Arc). Follow a.vertex) (out_arcs g to) → t.path.items ≡ s.path.items ++ to ∷ [] → t.heads.items ≡ s.heads.items ++ p ∷ []
    → IsSearch g t × IsOnward g s t
meets g s to is lt new t p stages place tasks path heads =
    let set_at : t.stages ≡ set s.stages to (Open (length s.path.items)) = stages ∙ ap (λ k. set s.stages to (Open k)) place in
    let put : t.tasks.items ≡ (s.tasks.items ++ Leave (length s.path.items) ∷ []) ++ map (λ (a : Arc). Follow a.vertex) (out_arcs g to)
    = tasks ∙ ap (λ k. (s.tasks.items ++ Leave k ∷ []) ++ map (λ (a : Arc). Follow a.vertex) (out_arcs g to)) place in
    (search_met g s to is lt new t set_at put path (heads ∙ ap (λ k. s.heads.items ++ k ∷ []) place), onward_met g s to is lt new t set_at put)

-- nothing changed but the heads
pub onward_same : (g : Digraph) (s t : Search) → t.stages ≡ s.stages → t.tasks.items ≡ s.tasks.items → IsOnward g s t
onward_same g s t stages tasks = record {
  kept = λ v ne same. ne (ap (λ xs. stage_of xs v) (sym stages) ∙ same);
  work = omega (arith, ap (λ xs. sum_by unseen xs * (length g.edges + 1)) stages, ap length tasks);
}

-- ---- a vertex is left

module _ (g : Digraph) (s : Search) (place : ℕ) (is : IsTaken g s (Leave place)) where
  off : is.step ≡ Off place
  off = off_of is.step place is.is

  pub search_left : ((front : List ℕ) × (s.heads.items ≡ front ++ place ∷ []) → ⊥) → IsSearch g s
  search_left not = record {
    steps = is.steps;
    tasks = is.tasks;
    vertices = is.vertices;
    blocks = is.blocks;
    left =
        passed g s.stages s.path.items s.heads.items is.steps is.step is.left place off
        (λ there. not (last_if_there s.heads.items place is.blocks.rise (leaves_last g s.stages s.path.items s.heads.items is.steps is.step is.left place off) there));
  }

  -- the last block is closed
  module _ (front : List ℕ) (heads_are : s.heads.items ≡ front ++ place ∷ []) (t : Search) (label : ℕ) (labelling : IsLabelling (IsFrom s.path.items place) label s.stages t.stages)
      (lowest : IsLeast (IsFrom s.path.items place) label) (tasks : t.tasks.items ≡ s.tasks.items) where
    blocks_are : AreBlocks g s.path.items (front ++ place ∷ [])
    blocks_are = subst (AreBlocks g s.path.items) heads_are is.blocks

    left_are : AreSteps g s.path.items (front ++ place ∷ []) (is.steps ++ Off place ∷ []) (IsSettled s.stages (front ++ place ∷ []))
    left_are =
        subst (λ x. AreSteps g s.path.items (front ++ place ∷ []) (is.steps ++ x ∷ []) (IsSettled s.stages (front ++ place ∷ []))) off
        (subst (λ xs. AreSteps g s.path.items xs (is.steps ++ is.step ∷ []) (IsSettled s.stages xs)) heads_are is.left)

    pub search_closed : t.path.items ≡ take place s.path.items → t.heads.items ≡ front → IsSearch g t
    search_closed path heads =
        made g t t.stages (take place s.path.items) front s.tasks.items refl path heads tasks is.steps is.tasks
        (stages_closed g s.stages t.stages s.path.items front place is.steps label is.vertices blocks_are left_are labelling lowest)
        (blocks_closed g s.stages t.stages s.path.items front place is.steps label is.vertices blocks_are left_are labelling lowest)
        (steps_closed g s.stages t.stages s.path.items front place is.steps label is.vertices blocks_are left_are labelling lowest)

    -- no more vertices are unseen
    fewer : sum_by unseen t.stages * (length g.edges + 1) ≤ sum_by unseen s.stages * (length g.edges + 1)
    fewer = mul-le-mul_right (length g.edges + 1) labelling.count

    pub onward_closed : IsOnward g s t
    onward_closed = record {
      kept = seen_closed g s.stages t.stages s.path.items front place is.steps label is.vertices blocks_are left_are labelling lowest;
      work = omega (arith, fewer, ap length tasks);
    }

-- where no task is left, each vertex that was met has its label
pub all_labelled : (g : Digraph) (s : Search) (v : ℕ) → IsSearch g s → s.tasks.items ≡ [] → stage_of s.stages v ≢ Unseen → (l : ℕ) × (stage_of s.stages v ≡ Closed l)
all_labelled g s v is none met =
    let no = no_steps is.steps (sym is.tasks ∙ none) in
    closed_last g s.stages s.path.items v is.vertices (no_path g s.path.items s.heads.items is.steps (IsSettled s.stages s.heads.items) no is.blocks is.left) met
