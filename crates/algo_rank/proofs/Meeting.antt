-- a vertex is met: it becomes the last of the path, a block of its own, and its edges wait
use Rattle.std.proofs.Common.{◌≡◌, ◌≢◌, ℕ, ◌+◌, ◌*◌, ◌<◌, ◌≤◌, ◌⊎◌, inl, inr, List, [], ◌∷◌, ◌++◌, length, map, set, slice_index, ap, sym, ◌∙◌, subst, arith, get_or-set_same, get_or-set_other}
use Rattle.std.specs.Prelude.{Contains}
use Rattle.std.specs.List.Sorted.{IsNonDecreasingBy}
use Rattle.std.proofs.lemmas.Bool.{cases_lt, cases_eq}
use Rattle.std.proofs.lemmas.List.{length_push, length-set, get_or_append_left, get_or_push}
use Rattle.std.proofs.lemmas.List.Sums.{sum_by-set}
use Rattle.std.proofs.lemmas.List.Quantifiers.{all_pairs_push}
use Rattle.std.proofs.lemmas.List.Elements.{Contains-append_left, Contains-append_right, Contains-push, Contains-push_cases, Contains-append_cases, Contains-get_or, All-contains}
use Rattle.algo_digraph.specs.declared.arcs.Arc.{Arc}
use Rattle.algo_digraph.specs.Digraph.{Digraph, Goes}
use Rattle.algo_digraph.specs.Arcs.{arc, out_arcs}
use Rattle.algo_digraph.proofs.ArcEdges.{out_each, left_arc}
use Rattle.algo_rank.specs.declared.search.Stage.{Stage}
use Rattle.algo_rank.specs.declared.search.Stage.TheVariants.{Unseen, Open, Closed}
use Rattle.algo_rank.specs.Classes.{Reaches}
use Rattle.algo_rank.specs.Search.{stage_of, unseen, Step, step_order, AreStages, AreBlocks, AreSteps, IsOneBlock, IsSettled}
use Rattle.algo_rank.specs.Search.Step.{Along, Off}
use Rattle.algo_rank.proofs.Reaching.{reaches_self}
use Rattle.algo_rank.proofs.Steps.{rise_on, in_map, has_map}

-- ---- the vertices

module _ (g : Digraph) (stages : List Stage) (path : List ℕ) (are : AreStages g stages path) (v : ℕ) (lt : v < g.vertices) (new : stage_of stages v ≡ Unseen) where
  abbrev pub met : List Stage
  met = set stages v (Open (length path))

  at_met : stage_of met v ≡ Open (length path)
  at_met = get_or-set_same stages v (Open (length path)) Unseen (omega (arith, lt, are.long))

  not_met : (u : ℕ) → u ≢ v → stage_of met u ≡ stage_of stages u
  not_met u ne = get_or-set_other stages v u (Open (length path)) Unseen ne

  -- a vertex that was met before is another
  seen_apart : (u : ℕ) (s : Stage) → stage_of stages u ≡ s → s ≢ Unseen → u ≢ v
  seen_apart u s at ne same = ne (sym at ∙ ap (stage_of stages) same ∙ new)

  pub seen_kept : (u : ℕ) (s : Stage) → stage_of stages u ≡ s → s ≢ Unseen → stage_of met u ≡ s
  seen_kept u s at ne = not_met u (seen_apart u s at ne) ∙ at

  placed_on : (p : ℕ) → p < length (path ++ v ∷ []) → stage_of met (slice_index (path ++ v ∷ []) p) ≡ Open p
  placed_on p within =
      elim (cases_lt p (length path)) [
        | inl less ↦
            (let same : slice_index (path ++ v ∷ []) p ≡ slice_index path p = get_or_append_left path (v ∷ []) 0 p less in
            ap (stage_of met) same ∙ seen_kept (slice_index path p) (Open p) (are.placed p less) (λ e. cc))
        | inr ge ↦
            (let same : p ≡ length path = omega (arith, within, length_push path v, ge) in
            ap (stage_of met) (get_or_push path v 0 p (sym same)) ∙ at_met ∙ ap Open (sym same))
      ]

  found_on : (u p : ℕ) → stage_of met u ≡ Open p → (p < length (path ++ v ∷ [])) × (slice_index (path ++ v ∷ []) p ≡ u)
  found_on u p at =
      elim (cases_eq u v) [
        | inl same ↦
            (let both : Open (length path) ≡ Open p = sym at_met ∙ ap (stage_of met) (sym same) ∙ at in
            let place : length path ≡ p = cc in
            (omega (arith, length_push path v, place), get_or_push path v 0 p place ∙ sym same))
        | inr ne ↦
            (let old = are.found u p (sym (not_met u ne) ∙ at) in
            (omega (arith, old.0, length_push path v), get_or_append_left path (v ∷ []) 0 p old.0 ∙ old.1))
      ]

  old_closed : (u l : ℕ) → stage_of met u ≡ Closed l → stage_of stages u ≡ Closed l
  old_closed u l at =
      elim (cases_eq u v) [
        | inl same ↦ (let both : Open (length path) ≡ Closed l = sym at_met ∙ ap (stage_of met) (sym same) ∙ at in cc)
        | inr ne ↦ sym (not_met u ne) ∙ at
      ]

  pub stages_met : AreStages g met (path ++ v ∷ [])
  stages_met = record {
    long = length-set stages v (Open (length path)) ∙ are.long;
    count =
        omega (
          arith,
          are.count,
          length_push path v,
          sum_by-set unseen stages v (Open (length path)) Unseen (omega (arith, lt, are.long)),
          ap unseen new,
        );
    placed = placed_on;
    found = found_on;
    labels = λ u l at. are.labels u l (old_closed u l at);
    final = λ e u w l goes at. (let old = are.final e u w l goes (old_closed u l at) in (old.0, seen_kept w (Closed old.0) old.1 (λ e. cc)));
  }

-- ---- the path

before : (path : List ℕ) (v q : ℕ) → q < length path → slice_index (path ++ v ∷ []) q ≡ slice_index path q
before path v q lt = get_or_append_left path (v ∷ []) 0 q lt

last : (path : List ℕ) (v q : ℕ) → q ≡ length path → slice_index (path ++ v ∷ []) q ≡ v
last path v q is = get_or_push path v 0 q (sym is)

module _ (g : Digraph) (path heads : List ℕ) (are : AreBlocks g path heads) (v : ℕ) (reach : (q : ℕ) → q < length path → Reaches g (slice_index path q) v) where
  abbrev longer : List ℕ
  longer = path ++ v ∷ []

  onward_on : (p q : ℕ) → p ≤ q → q < length longer → Reaches g (slice_index longer p) (slice_index longer q)
  onward_on p q le lt =
      elim (cases_lt q (length path)) [
        | inl less ↦ rw (before path v q less, before path v p (omega arith)) (are.onward p q le less)
        | inr ge ↦
            (let end : q ≡ length path = omega (arith, lt, length_push path v, ge) in
            rw (last path v q end) (elim (cases_lt p (length path)) [
              | inl less ↦ rw (before path v p less) (reach p less)
              | inr past ↦ (let same : p ≡ length path = omega arith in rw (last path v p same) (reaches_self g v))
            ]))
      ]

  back_on : (p q : ℕ) → p ≤ q → q < length longer → IsOneBlock (heads ++ length path ∷ []) p q → Reaches g (slice_index longer q) (slice_index longer p)
  back_on p q le lt one =
      elim (cases_lt q (length path)) [
        | inl less ↦
            rw (before path v q less, before path v p (omega arith)) (are.back p q le less (λ h head. one h (Contains-append_left heads (length path ∷ []) h head)))
        | inr ge ↦
            (let end : q ≡ length path = omega (arith, lt, length_push path v, ge) in
            elim (cases_lt p (length path)) [
              | inl less ↦ absurd (one (length path) (Contains-push heads (length path)) less ge)
              | inr past ↦ (let same : p ≡ length path = omega arith in rw (last path v q end, last path v p same) (reaches_self g v))
            ])
      ]

  within_on : (h : ℕ) → Contains (heads ++ length path ∷ []) h → h < length longer
  within_on h head =
      elim (Contains-push_cases heads (length path) h head) [
        | inl old ↦ omega (arith, are.within h old, length_push path v)
        | inr same ↦ omega (arith, same, length_push path v)
      ]

  first_on : Contains (heads ++ length path ∷ []) 0
  first_on =
      elim (cases_lt 0 (length path)) [
        | inl some ↦ Contains-append_left heads (length path ∷ []) 0 (are.first some)
        | inr none ↦ (let same : length path ≡ 0 = omega arith in subst (Contains (heads ++ length path ∷ [])) same (Contains-push heads (length path)))
      ]

  pub blocks_met : AreBlocks g (path ++ v ∷ []) (heads ++ length path ∷ [])
  blocks_met = record {
    onward = onward_on;
    back = back_on;
    rise = all_pairs_push (λ a b. a < b) heads (length path) are.rise (λ k d lt. are.within _ (Contains-get_or heads k d lt));
    within = within_on;
    first = λ some. first_on;
  }

-- ---- the steps

-- the edges of a vertex, from its place
abbrev pub edges_from : ℕ → List Arc → List Step
edges_from p arcs = map (λ a. Along p a.vertex) arcs

module _ (g : Digraph) (stages : List Stage) (path heads : List ℕ) (steps : List Step) (vertices : AreStages g stages path)
    (v : ℕ) (lt : v < g.vertices) (new : stage_of stages v ≡ Unseen)
    (are : AreSteps g path heads steps (λ q w. IsSettled stages heads q w ⊎ (w ≡ v))) where
  abbrev here : ℕ
  here = length path

  abbrev all_steps : List Step
  all_steps = (steps ++ Off (length path) ∷ []) ++ edges_from (length path) (out_arcs g v)

  -- no step is from the new place
  low : (x : Step) → Contains steps x → step_order x ≤ 2 * here
  low (Along q w) h = omega (arith, (are.follows q w h).0)
  low (Off q) h = omega (arith, are.places q h)

  off_order : (x : Step) → Contains (Off here ∷ []) x → step_order x ≡ 2 * here
  off_order x h =
      elim (Contains-push_cases [] (Off here) x h) [
        | inl none ↦ absurd (omega (arith, none.1))
        | inr same ↦ ap step_order (sym same)
      ]

  with_off_low : (x : Step) → Contains (steps ++ Off here ∷ []) x → step_order x ≤ 2 * here + 1
  with_off_low x h =
      elim (Contains-push_cases steps (Off here) x h) [
        | inl old ↦ omega (arith, low x old)
        | inr same ↦ omega (arith, ap step_order same)
      ]

  edge_order : (x : Step) → Contains (edges_from here (out_arcs g v)) x → step_order x ≡ 2 * here + 1
  edge_order x h = let r = in_map (λ (a : Arc). Along here a.vertex) (out_arcs g v) x h in ap step_order (sym r.2)

  rise_met : IsNonDecreasingBy step_order all_steps
  rise_met = rise_on (steps ++ Off here ∷ []) (rise_on steps are.rise (Off here ∷ []) (2 * here) low off_order) (edges_from here (out_arcs g v)) (2 * here + 1) with_off_low edge_order

  -- an old step, the new one to leave, or a new edge
  waits_cases : (x : Step) → Contains all_steps x → Contains steps x ⊎ ((Off here ≡ x) ⊎ ((e w : ℕ) × (Along here w ≡ x) × Goes g e v w))
  waits_cases x h =
      elim (Contains-append_cases (steps ++ Off here ∷ []) (edges_from here (out_arcs g v)) x h) [
        | inl early ↦
            elim (Contains-push_cases steps (Off here) x early) [
              | inl old ↦ inl old
              | inr same ↦ inr (inl same)
            ]
        | inr edge ↦
            (let r = in_map (λ (a : Arc). Along here a.vertex) (out_arcs g v) x edge in
            inr (inr (r.0.edge, r.0.vertex, r.2, All-contains (λ (a : Arc). Goes g a.edge v a.vertex) (out_arcs g v) r.0 (out_each g v) r.1)))
      ]

  old_waits : (x : Step) → Contains steps x → Contains all_steps x
  old_waits x h = Contains-append_left (steps ++ Off here ∷ []) (edges_from here (out_arcs g v)) x (Contains-append_left steps (Off here ∷ []) x h)

  off_waits : Contains all_steps (Off here)
  off_waits = Contains-append_left (steps ++ Off here ∷ []) (edges_from here (out_arcs g v)) (Off here) (Contains-push steps (Off here))

  edge_waits : (e w : ℕ) → Goes g e v w → Contains all_steps (Along here w)
  edge_waits e w goes =
      Contains-append_right (steps ++ Off here ∷ []) (edges_from here (out_arcs g v)) (Along here w) (has_map (λ (a : Arc). Along here a.vertex) (out_arcs g v) (arc e w) (left_arc g v e w goes))

  places_met : (q : ℕ) → Contains all_steps (Off q) → q ≤ length (path ++ v ∷ [])
  places_met q h =
      elim (waits_cases (Off q) h) [
        | inl old ↦ omega (arith, are.places q old, length_push path v)
        | inr (inl same) ↦ (let is : here ≡ q = cc in omega (arith, is, length_push path v))
        | inr (inr edge) ↦ (let no : ⊥ = cc in absurd no)
      ]

  leaves_met : (h : ℕ) → Contains (heads ++ here ∷ []) h → Contains all_steps (Off h)
  leaves_met h head =
      elim (Contains-push_cases heads here h head) [
        | inl old ↦ old_waits (Off h) (are.leaves h old)
        | inr same ↦ subst (λ k. Contains all_steps (Off k)) same off_waits
      ]

  follows_met : (q w : ℕ) → Contains all_steps (Along q w) → (q < length (path ++ v ∷ [])) × ((e : ℕ) × Goes g e (slice_index (path ++ v ∷ []) q) w)
  follows_met q w h =
      elim (waits_cases (Along q w) h) [
        | inl old ↦
            (let f = are.follows q w old in
            (omega (arith, f.0, length_push path v), (f.1.0, rw (before path v q f.0) f.1.1)))
        | inr (inl same) ↦ (let no : ⊥ = cc in absurd no)
        | inr (inr edge) ↦
            (let place : here ≡ q = cc in
            let to : edge.1 ≡ w = cc in
            (omega (arith, place, length_push path v), (edge.0, rw (last path v q (sym place)) (subst (Goes g edge.0 v) to edge.3))))
      ]

  settled_met : (q w : ℕ) → q < length path → IsSettled stages heads q w ⊎ (w ≡ v) → IsSettled (met g stages path vertices v lt new) (heads ++ here ∷ []) q w
  settled_met q w within (inl (inl labelled)) = inl (labelled.0, seen_kept g stages path vertices v lt new w (Closed labelled.0) labelled.1 (λ e. cc))
  settled_met q w within (inl (inr there)) =
      inr (
        there.0,
        seen_kept g stages path vertices v lt new w (Open there.0) there.1 (λ e. cc),
        λ h head above below.
            elim (Contains-push_cases heads here h head) [
              | inl old ↦ there.2 h old above below
              | inr same ↦ omega (arith, same)
            ],
      )
  settled_met q w within (inr same) =
      inr (here, ap (stage_of (met g stages path vertices v lt new)) same ∙ at_met g stages path vertices v lt new, λ h head above below. omega arith)

  edges_met : (e q w : ℕ) → q < length (path ++ v ∷ []) → Goes g e (slice_index (path ++ v ∷ []) q) w
      → Contains all_steps (Along q w) ⊎ IsSettled (met g stages path vertices v lt new) (heads ++ here ∷ []) q w
  edges_met e q w within goes =
      elim (cases_lt q (length path)) [
        | inl less ↦
            elim (are.edges e q w less (subst (λ u. Goes g e u w) (before path v q less) goes)) [
              | inl old ↦ inl (old_waits (Along q w) old)
              | inr is ↦ inr (settled_met q w less is)
            ]
        | inr ge ↦
            (let same : q ≡ here = omega (arith, within, length_push path v, ge) in
            inl (subst (λ p. Contains all_steps (Along p w)) (sym same) (edge_waits e w (subst (λ u. Goes g e u w) (last path v q same) goes))))
      ]

  pub steps_met : AreSteps g (path ++ v ∷ []) (heads ++ length path ∷ []) ((steps ++ Off (length path) ∷ []) ++ edges_from (length path) (out_arcs g v))
      (IsSettled (set stages v (Open (length path))) (heads ++ length path ∷ []))
  steps_met = record {
    rise = rise_met;
    places = places_met;
    leaves = leaves_met;
    follows = follows_met;
    edges = edges_met;
  }
