-- steps of a search: the last one is taken off, and those of a new vertex are put on
use Rattle.std.proofs.Common.{◌≡◌, ◌≢◌, ℕ, zero, suc, ◌+◌, ◌-◌, ◌<◌, ◌≤◌, ◌⊎◌, inl, inr, List, [], ◌∷◌, ◌++◌, length, map, get_or, length-append, refl, ap, ◌∙◌, arith}
use Rattle.std.specs.Prelude.{Contains}
use Rattle.std.specs.List.Sorted.{IsNonDecreasingBy}
use Rattle.std.proofs.lemmas.Bool.{cases_lt}
use Rattle.std.proofs.lemmas.List.{length-map, get_or-map, length_push, get_or_append_left, get_or-append_right, get_or_push}
use Rattle.std.proofs.lemmas.List.Elements.{Contains-append_left, Contains-push_cases, Contains-get_or}
use Rattle.algo_digraph.specs.Digraph.{Digraph}
use Rattle.algo_rank.specs.Search.{Step, step_order, AreSteps}
use Rattle.algo_rank.specs.Search.Step.{Along, Off}

-- ---- steps that rise

module _ (xs : List Step) (rise : IsNonDecreasingBy step_order xs) where
  -- those that were there before the last one rise
  pub rise_front : (front : List Step) (x : Step) → xs ≡ front ++ x ∷ [] → IsNonDecreasingBy step_order front
  rise_front front x is i j d le lt =
      let left : get_or xs i d ≡ get_or front i d = ap (λ ys. get_or ys i d) is ∙ get_or_append_left front (x ∷ []) d i (omega arith) in
      let right : get_or xs j d ≡ get_or front j d = ap (λ ys. get_or ys j d) is ∙ get_or_append_left front (x ∷ []) d j lt in
      omega (arith, ap step_order left, ap step_order right, rise i j d le (omega (arith, ap length is, length_push front x)))

  -- the last one is the greatest
  pub last_order : (front : List Step) (x y : Step) → xs ≡ front ++ x ∷ [] → Contains xs y → step_order y ≤ step_order x
  last_order front x y is found =
      let n = length front in
      let long : length xs ≡ n + 1 = ap length is ∙ length_push front x in
      let last : get_or xs n y ≡ x = ap (λ ys. get_or ys n y) is ∙ get_or_push front x y n refl in
      omega (arith, ap step_order found.2, ap step_order last, rise found.0 n y (omega (arith, found.1, long)) (omega (arith, long)))

  -- with steps of one order, which is not below theirs, they rise
  pub rise_on : (ys : List Step) (k : ℕ) → ((x : Step) → Contains xs x → step_order x ≤ k) → ((y : Step) → Contains ys y → step_order y ≡ k) → IsNonDecreasingBy step_order (xs ++ ys)
  rise_on ys k low same i j d le lt =
      elim (cases_lt j (length xs)) [
        | inl less ↦
            (let left = get_or_append_left xs ys d i (omega arith) in
            let right = get_or_append_left xs ys d j less in
            omega (arith, ap step_order left, ap step_order right, rise i j d le less))
        | inr ge ↦
            (let within : j - length xs < length ys = omega (arith, lt, length-append xs ys, ge) in
            let right : step_order (get_or (xs ++ ys) j d) ≡ k = ap step_order (get_or-append_right xs ys (length xs) j d refl ge) ∙ same (get_or ys (j - length xs) d) (Contains-get_or ys (j - length xs) d within) in
            elim (cases_lt i (length xs)) [
              | inl less ↦ (let left = get_or_append_left xs ys d i less in omega (arith, ap step_order left, right, low (get_or xs i d) (Contains-get_or xs i d less)))
              | inr past ↦
                  (let inside : i - length xs < length ys = omega (arith, lt, length-append xs ys, past, le) in
                  let left : step_order (get_or (xs ++ ys) i d) ≡ k = ap step_order (get_or-append_right xs ys (length xs) i d refl past) ∙ same (get_or ys (i - length xs) d) (Contains-get_or ys (i - length xs) d inside) in
                  omega (arith, left, right))
            ])
      ]

-- ---- a step is taken off

module _ (g : Digraph) (path heads : List ℕ) (front : List Step) (x : Step) (Settled : ℕ → ℕ → Type 0) (are : AreSteps g path heads (front ++ x ∷ []) Settled)
    (stays : (h : ℕ) → Contains heads h → x ≢ Off h) (done : (q w : ℕ) → x ≡ Along q w → Settled q w) where
  edge_stays : (q w : ℕ) → Contains (front ++ x ∷ []) (Along q w) ⊎ Settled q w → Contains front (Along q w) ⊎ Settled q w
  edge_stays q w (inr is) = inr is
  edge_stays q w (inl waits) =
      elim (Contains-push_cases front x (Along q w) waits) [
        | inl still ↦ inl still
        | inr same ↦ inr (done q w same)
      ]

  leave_stays : (h : ℕ) → Contains heads h → Contains (front ++ x ∷ []) (Off h) → Contains front (Off h)
  leave_stays h head waits =
      elim (Contains-push_cases front x (Off h) waits) [
        | inl still ↦ still
        | inr same ↦ absurd (stays h head same)
      ]

  pub taken : AreSteps g path heads front Settled
  taken = record {
    rise = rise_front (front ++ x ∷ []) are.rise front x refl;
    places = λ q h. are.places q (Contains-append_left front (x ∷ []) (Off q) h);
    leaves = λ h head. leave_stays h head (are.leaves h head);
    follows = λ q w h. are.follows q w (Contains-append_left front (x ∷ []) (Along q w) h);
    edges = λ e q w lt goes. edge_stays q w (are.edges e q w lt goes);
  }

-- what is settled is settled in another way
pub settled_as : (g : Digraph) (path heads : List ℕ) (steps : List Step) (P Q : ℕ → ℕ → Type 0) → ((q w : ℕ) → q < length path → P q w → Q q w) → AreSteps g path heads steps P → AreSteps g path heads steps Q
settled_as g path heads steps P Q weaker are = record {
  rise = are.rise;
  places = are.places;
  leaves = are.leaves;
  follows = are.follows;
  edges = λ e q w lt goes.
      elim (are.edges e q w lt goes) [
        | inl waits ↦ inl waits
        | inr is ↦ inr (weaker q w lt is)
      ];
}

-- fewer blocks
pub fewer_heads : (g : Digraph) (path heads fewer : List ℕ) (steps : List Step) (P : ℕ → ℕ → Type 0) → ((h : ℕ) → Contains fewer h → Contains heads h) → AreSteps g path heads steps P → AreSteps g path fewer steps P
fewer_heads g path heads fewer steps P some are = record {
  rise = are.rise;
  places = are.places;
  leaves = λ h head. are.leaves h (some h head);
  follows = are.follows;
  edges = are.edges;
}

-- ---- members of a mapped list

pub in_map : {X Y : Type 0} (f : X → Y) (xs : List X) (y : Y) → Contains (map f xs) y → (x : X) × Contains xs x × (f x ≡ y)
in_map f [] y h = absurd (omega (arith, h.1))
in_map f (x ∷ xs) y (zero, lt, is) = (x, (0, omega arith, refl), is)
in_map f (x ∷ xs) y (suc k, lt, is) = (let r = in_map f xs y (k, omega arith, is) in (r.0, (suc r.1.0, omega (arith, r.1.1), r.1.2), r.2))

pub has_map : {X Y : Type 0} (f : X → Y) (xs : List X) (x : X) → Contains xs x → Contains (map f xs) (f x)
has_map f xs x h = (h.0, omega (arith, h.1, length-map xs f), get_or-map f xs h.0 x (f x) h.1 ∙ ap f h.2)
