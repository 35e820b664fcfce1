-- the last block is a strong component, and gets its label
use Rattle.std.proofs.Common.{◌≡◌, ◌≢◌, ℕ, ◌*◌, ◌<◌, ◌≤◌, ◌⊎◌, inl, inr, List, [], ◌∷◌, ◌++◌, length, take, slice_index, refl, ap, sym, ◌∙◌, subst, arith}
use Rattle.std.specs.Prelude.{Contains}
use Rattle.std.proofs.lemmas.Bool.{cases_lt}
use Rattle.std.proofs.lemmas.List.{length-take-le, get_or-take}
use Rattle.std.proofs.lemmas.List.Elements.{Contains-append_left, Contains-push, Contains-push_cases}
use Rattle.algo_digraph.specs.Digraph.{Digraph, Goes}
use Rattle.algo_digraph.specs.Walks.{IsWalk}
use Rattle.algo_rank.specs.declared.search.Stage.{Stage}
use Rattle.algo_rank.specs.declared.search.Stage.TheVariants.{Unseen, Open, Closed}
use Rattle.algo_rank.specs.Classes.{Reaches, AreStrong, IsStrongLabel}
use Rattle.algo_rank.specs.Search.{stage_of, Step, step_order, AreStages, AreBlocks, AreSteps, IsSettled, IsFrom, IsLabelling, IsLeast}
use Rattle.algo_rank.specs.Search.Step.{Along, Off}
use Rattle.algo_rank.proofs.Steps.{last_order, rise_front}
use Rattle.algo_rank.proofs.Labelling.{front_less, front_rises, none_above}

module _ (g : Digraph) (stages new : List Stage) (path front : List ℕ) (f : ℕ) (steps : List Step) (label : ℕ) (vertices : AreStages g stages path) (blocks : AreBlocks g path (front ++ f ∷ []))
    (are : AreSteps g path (front ++ f ∷ []) (steps ++ Off f ∷ []) (IsSettled stages (front ++ f ∷ []))) (labelled : IsLabelling (IsFrom path f) label stages new) (lowest : IsLeast (IsFrom path f) label) where
  abbrev heads : List ℕ
  heads = front ++ f ∷ []

  abbrev In : ℕ → Type 0
  In v = IsFrom path f v

  in_path : f < length path
  in_path = blocks.within f (Contains-push front f)

  apart : (p q : ℕ) → p < length path → q < length path → slice_index path p ≡ slice_index path q → p ≡ q
  apart p q lp lq same =
      let both : Open p ≡ Open q = sym (vertices.placed p lp) ∙ ap (stage_of stages) same ∙ vertices.placed q lq in
      cc

  -- only vertices on the path from the block on are in it
  at_in : (v : ℕ) (h : In v) → stage_of stages v ≡ Open h.0
  at_in v h = ap (stage_of stages) (sym h.3) ∙ vertices.placed h.0 h.2

  not_in : (v : ℕ) (s : Stage) → stage_of stages v ≡ s → ((p : ℕ) → s ≢ Open p) → In v → ⊥
  not_in v s at ne h = ne h.0 (sym at ∙ at_in v h)

  before_in : (v p : ℕ) → stage_of stages v ≡ Open p → p < f → In v → ⊥
  before_in v p at less h =
      let both : Open p ≡ Open h.0 = sym at ∙ at_in v h in
      let same : p ≡ h.0 = cc in
      omega (arith, same, less, h.1)

  closed_kept : (v l : ℕ) → stage_of stages v ≡ Closed l → stage_of new v ≡ Closed l
  closed_kept v l at = labelled.kept v (not_in v (Closed l) at (λ p e. cc)) ∙ at

  open_kept : (v p : ℕ) → stage_of stages v ≡ Open p → p < f → stage_of new v ≡ Open p
  open_kept v p at less = labelled.kept v (before_in v p at less) ∙ at

  -- what became of a vertex
  in_or_not_by : (v : ℕ) (s : Stage) → stage_of stages v ≡ s → In v ⊎ ((In v → ⊥) × (stage_of new v ≡ s))
  in_or_not_by v Unseen at = inr (not_in v Unseen at (λ p e. cc), labelled.kept v (not_in v Unseen at (λ p e. cc)) ∙ at)
  in_or_not_by v (Closed l) at = inr (not_in v (Closed l) at (λ p e. cc), closed_kept v l at)
  in_or_not_by v (Open p) at =
      elim (cases_lt p f) [
        | inl less ↦ inr (before_in v p at less, open_kept v p at less)
        | inr ge ↦ (let there = vertices.found v p at in inl (p, ge, there.0, there.1))
      ]

  in_or_not : (v : ℕ) → In v ⊎ ((In v → ⊥) × (stage_of new v ≡ stage_of stages v))
  in_or_not v = in_or_not_by v (stage_of stages v) refl

  pub seen_closed : (v : ℕ) → stage_of stages v ≢ Unseen → stage_of new v ≢ Unseen
  seen_closed v ne same =
      elim (in_or_not v) [
        | inl h ↦ (let no : Closed label ≡ Unseen = sym (labelled.set v h) ∙ same in cc)
        | inr out ↦ ne (sym out.1 ∙ same)
      ]

  -- ---- no edge leads out of the block, but to vertices with labels

  abbrev Stays : ℕ → Type 0
  Stays v = In v ⊎ ((l : ℕ) × (stage_of stages v ≡ Closed l))

  settled_stays : (q w : ℕ) → f ≤ q → IsSettled stages heads q w → Stays w
  settled_stays q w ge (inl is) = inr is
  settled_stays q w ge (inr is) =
      elim (cases_lt is.0 f) [
        | inl less ↦ absurd (is.2 f (Contains-push front f) less ge)
        | inr past ↦ (let there = vertices.found w is.0 is.1 in inl (is.0, past, there.0, there.1))
      ]

  no_edge_waits : (q w : ℕ) → f ≤ q → Contains (steps ++ Off f ∷ []) (Along q w) → ⊥
  no_edge_waits q w ge waits = omega (arith, last_order (steps ++ Off f ∷ []) are.rise steps (Off f) (Along q w) refl waits)

  in_stays : (e v w : ℕ) → In v → Goes g e v w → Stays w
  in_stays e v w h goes =
      elim (are.edges e h.0 w h.2 (subst (λ u. Goes g e u w) (sym h.3) goes)) [
        | inl waits ↦ absurd (no_edge_waits h.0 w h.1 waits)
        | inr is ↦ settled_stays h.0 w h.1 is
      ]

  edge_stays : (e v w : ℕ) → Stays v → Goes g e v w → Stays w
  edge_stays e v w (inl h) goes = in_stays e v w h goes
  edge_stays e v w (inr is) goes = inr (vertices.final e v w is.0 goes is.1)

  walk_stays : (a b : ℕ) (es : List ℕ) → Stays a → IsWalk g a es b → Stays b
  walk_stays a b [] h w = subst Stays w h
  walk_stays a b (e ∷ es) h w = walk_stays w.0 b es (edge_stays e a w.0 h w.1) w.2

  walk_closed : (a b l : ℕ) (es : List ℕ) → stage_of stages a ≡ Closed l → IsWalk g a es b → (m : ℕ) × (stage_of stages b ≡ Closed m)
  walk_closed a b l [] at w = (l, ap (stage_of stages) (sym w) ∙ at)
  walk_closed a b l (e ∷ es) at w = let next = vertices.final e a w.0 l w.1 at in walk_closed w.0 b next.0 es next.1 w.2

  -- ---- the label

  block_reaches : (p q : ℕ) → f ≤ p → p < length path → f ≤ q → q < length path → Reaches g (slice_index path p) (slice_index path q)
  block_reaches p q fp lp fq lq =
      elim (cases_lt q p) [
        | inl less ↦ blocks.back q p (omega arith) lp (λ h head above below. omega (arith, none_above front f blocks.rise h head))
        | inr le ↦ blocks.onward p q le lq
      ]

  in_reaches : (a b : ℕ) → In a → In b → Reaches g a b
  in_reaches a b h i = subst (λ x. Reaches g x b) h.3 (subst (Reaches g (slice_index path h.0)) i.3 (block_reaches h.0 i.0 h.1 h.2 i.1 i.2))

  class_in : (v u : ℕ) → In v → AreStrong g v u → Stays u → In u
  class_in v u h both (inl i) = i
  class_in v u h both (inr is) = (let l = walk_closed u v is.0 both.1.0 is.1 both.1.1 in absurd (not_in v (Closed l.0) l.1 (λ p e. cc) h))

  right : (v : ℕ) → In v → IsStrongLabel g v label
  right v h = (
    (in_reaches v label h lowest.has, in_reaches label v lowest.has h),
    λ u both. lowest.least u (class_in v u h both (walk_stays v u both.0.0 (inl h) both.0.1)),
  )

  -- ---- what is left

  abbrev rest : List ℕ
  rest = take f path

  long : length rest ≡ f
  long = length-take-le f path (omega (arith, in_path))

  at : (p : ℕ) → p < f → slice_index rest p ≡ slice_index path p
  at p less = get_or-take f path p 0 less

  labels_closed : (v l : ℕ) → stage_of new v ≡ Closed l → IsStrongLabel g v l
  labels_closed v l is =
      elim (in_or_not v) [
        | inl h ↦ (let both : Closed label ≡ Closed l = sym (labelled.set v h) ∙ is in let same : label ≡ l = cc in subst (IsStrongLabel g v) same (right v h))
        | inr out ↦ vertices.labels v l (sym out.1 ∙ is)
      ]

  stays_closed : (w : ℕ) → Stays w → (m : ℕ) × (stage_of new w ≡ Closed m)
  stays_closed w (inl h) = (label, labelled.set w h)
  stays_closed w (inr is) = (is.0, closed_kept w is.0 is.1)

  final_closed : (e v w l : ℕ) → Goes g e v w → stage_of new v ≡ Closed l → (m : ℕ) × (stage_of new w ≡ Closed m)
  final_closed e v w l goes is =
      elim (in_or_not v) [
        | inl h ↦ stays_closed w (in_stays e v w h goes)
        | inr out ↦ stays_closed w (inr (vertices.final e v w l goes (sym out.1 ∙ is)))
      ]

  found_closed : (v p : ℕ) → stage_of new v ≡ Open p → (p < length rest) × (slice_index rest p ≡ v)
  found_closed v p is =
      elim (in_or_not v) [
        | inl h ↦ (let no : Closed label ≡ Open p = sym (labelled.set v h) ∙ is in cc)
        | inr out ↦
            (let there = vertices.found v p (sym out.1 ∙ is) in
            elim (cases_lt p f) [
              | inl less ↦ (omega (arith, long, less), at p less ∙ there.1)
              | inr ge ↦ absurd (out.0 (p, ge, there.0, there.1))
            ])
      ]

  pub stages_closed : AreStages g new (take f path)
  stages_closed = record {
    long = labelled.long ∙ vertices.long;
    count = omega (arith, long, in_path, vertices.count, labelled.count);
    placed = λ p lt. (let less : p < f = omega (arith, lt, long) in rw (at p less) (open_kept (slice_index path p) p (vertices.placed p (omega (arith, less, in_path))) less));
    found = found_closed;
    labels = labels_closed;
    final = final_closed;
  }

  pub blocks_closed : AreBlocks g (take f path) front
  blocks_closed = record {
    onward = λ p q le lt. (let less : q < f = omega (arith, lt, long) in rw (at p (omega (arith, le, less)), at q less) (blocks.onward p q le (omega (arith, less, in_path))));
    back = λ p q le lt one. (let less : q < f = omega (arith, lt, long) in
        rw (at p (omega (arith, le, less)), at q less) (blocks.back p q le (omega (arith, less, in_path)) (λ h head above below.
        elim (Contains-push_cases front f h head) [
          | inl old ↦ one h old above below
          | inr same ↦ omega (arith, same, below, less)
        ])));
    rise = front_rises front f blocks.rise;
    within = λ h head. omega (arith, front_less front f blocks.rise h head, long);
    first = λ some.
        elim (Contains-push_cases front f 0 (blocks.first (omega (arith, in_path)))) [
          | inl old ↦ old
          | inr same ↦ absurd (omega (arith, same, some, long))
        ];
  }

  step_low : (x : Step) → Contains steps x → step_order x ≤ 2 * f
  step_low x h = last_order (steps ++ Off f ∷ []) are.rise steps (Off f) x refl (Contains-append_left steps (Off f ∷ []) x h)

  leaves_closed : (h : ℕ) → Contains front h → Contains steps (Off h)
  leaves_closed h head =
      elim (Contains-push_cases steps (Off f) (Off h) (are.leaves h (Contains-append_left front (f ∷ []) h head))) [
        | inl old ↦ old
        | inr same ↦ (let is : f ≡ h = cc in absurd (omega (arith, is, front_less front f blocks.rise h head)))
      ]

  settled_closed : (q w : ℕ) → q < f → IsSettled stages heads q w → IsSettled new front q w
  settled_closed q w less (inl is) = inl (is.0, closed_kept w is.0 is.1)
  settled_closed q w less (inr is) =
      elim (cases_lt is.0 f) [
        | inl before ↦ inr (is.0, open_kept w is.0 is.1 before, λ h head above below. is.2 h (Contains-append_left front (f ∷ []) h head) above below)
        | inr past ↦ (let there = vertices.found w is.0 is.1 in inl (label, labelled.set w (is.0, past, there.0, there.1)))
      ]

  edges_closed : (e q w : ℕ) → q < f → Goes g e (slice_index path q) w → Contains steps (Along q w) ⊎ IsSettled new front q w
  edges_closed e q w less goes =
      elim (are.edges e q w (omega (arith, less, in_path)) goes) [
        | inl waits ↦
            elim (Contains-push_cases steps (Off f) (Along q w) waits) [
              | inl old ↦ inl old
              | inr same ↦ (let no : ⊥ = cc in absurd no)
            ]
        | inr is ↦ inr (settled_closed q w less is)
      ]

  pub steps_closed : AreSteps g (take f path) front steps (IsSettled new front)
  steps_closed = record {
    rise = rise_front (steps ++ Off f ∷ []) are.rise steps (Off f) refl;
    places = λ q h. omega (arith, step_low (Off q) h, long);
    leaves = leaves_closed;
    follows = λ q w h.
        (let less : q < f = omega (arith, step_low (Along q w) h) in
        let old = are.follows q w (Contains-append_left steps (Off f ∷ []) (Along q w) h) in
        (omega (arith, less, long), (old.1.0, rw (at q less) old.1.1)));
    edges = λ e q w lt goes. (let less : q < f = omega (arith, lt, long) in edges_closed e q w less (subst (λ u. Goes g e u w) (at q less) goes));
  }
