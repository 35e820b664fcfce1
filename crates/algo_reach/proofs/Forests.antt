-- trees of vertices: a way up gets shorter, and one tree is put under another
use Rattle.std.proofs.Common.{◌≡◌, ◌≢◌, ℕ, ◌+◌, ◌<◌, ◌≤◌, ◌==◌, ◌⊎◌, inl, inr, Bool, true, false, cond, List, [], ◌∷◌, ◌++◌, length, set, slice_index, refl, ap, sym, ◌∙◌, subst, arith, get_or-set_same, get_or-set_other}
use Rattle.std.specs.Prelude.{Contains}
use Rattle.std.proofs.lemmas.Bool.{cases_eq, cases_lt}
use Rattle.std.proofs.lemmas.Bool.Decides.{nat_tests}
use Rattle.std.proofs.lemmas.List.{length-set, get_or_past, get_or_push, get_or_append_left}
use Rattle.std.proofs.lemmas.List.Elements.{Contains-push_cases}
use Rattle.algo_digraph.specs.declared.arcs.Arc.{Arc}
use Rattle.algo_digraph.specs.Digraph.{Digraph, Goes, IsClosed}
use Rattle.algo_digraph.specs.Arcs.{arc, out_arcs}
use Rattle.algo_digraph.specs.Walks.{IsPath, AreConnected, IsLabel}
use Rattle.algo_reach.specs.Forest.{IsForest, IsJoining}
use Rattle.algo_digraph.proofs.ArcEdges.{left_arc}
use Rattle.algo_digraph.proofs.Paths.{connected_then, connected_back}

-- a vertex gets its grandparent as its parent
module _ (g : Digraph) (parents : List ℕ) (root : ℕ → ℕ) (forest : IsForest g parents root) (x : ℕ) (lt : x < g.vertices) where
  abbrev above : ℕ
  above = slice_index parents (slice_index parents x)

  abbrev shorter : List ℕ
  shorter = set parents x above

  here : slice_index shorter x ≡ above
  here = get_or-set_same parents x above 0 (omega (arith, lt, forest.long))

  else_ : (v : ℕ) → v ≢ x → slice_index shorter v ≡ slice_index parents v
  else_ v ne = get_or-set_other parents x v above 0 ne

  falls_on : (v : ℕ) → slice_index shorter v ≤ v
  falls_on v =
      elim (cases_eq v x) [
        | inl e ↦ subst (λ y. slice_index shorter y ≤ y) (sym e) (omega (arith, here, forest.falls (slice_index parents x), forest.falls x))
        | inr ne ↦ omega (arith, else_ v ne, forest.falls v)
      ]

  up_above : root above ≡ root x
  up_above = forest.up (slice_index parents x) (omega (arith, forest.falls x, lt)) ∙ forest.up x lt

  up_here : root (slice_index shorter x) ≡ root x
  up_here = ap root here ∙ up_above

  up_on : (v : ℕ) → v < g.vertices → root (slice_index shorter v) ≡ root v
  up_on v small =
      elim (cases_eq v x) [
        | inl e ↦ subst (λ y. root (slice_index shorter y) ≡ root y) (sym e) up_here
        | inr ne ↦ ap root (else_ v ne) ∙ forest.up v small
      ]

  -- x is its own grandparent only where it is its own parent
  top_here : slice_index shorter x ≡ x → root x ≡ x
  top_here e = forest.top x lt (omega (arith, here, e, forest.falls (slice_index parents x), forest.falls x))

  top_on : (v : ℕ) → v < g.vertices → slice_index shorter v ≡ v → root v ≡ v
  top_on v small own =
      elim (cases_eq v x) [
        | inl e ↦ subst (λ y. root y ≡ y) (sym e) (top_here (subst (λ y. slice_index shorter y ≡ y) e own))
        | inr ne ↦ forest.top v small (sym (else_ v ne) ∙ own)
      ]

  -- a root is its own grandparent
  fixed_by : (r : ℕ) → slice_index parents r ≡ r → slice_index shorter r ≡ r
  fixed_by r own =
      elim (cases_eq r x) [
        | inl e ↦ (let own_x : slice_index parents x ≡ x = subst (λ y. slice_index parents y ≡ y) e own in
            subst (λ y. slice_index shorter y ≡ y) (sym e) (here ∙ ap (slice_index parents) own_x ∙ own_x))
        | inr ne ↦ else_ r ne ∙ own
      ]

  pub halved : IsForest g (set parents x (slice_index parents (slice_index parents x))) root
  halved = record {
    long = length-set parents x above ∙ forest.long;
    falls = falls_on;
    up = up_on;
    top = top_on;
    fixed = λ v small. fixed_by (root v) (forest.fixed v small);
    least = forest.least;
    connected = forest.connected;
  }

  -- the same, of lists that are known to be the parents
  pub halved_by : (one two new : List ℕ) → one ≡ parents → two ≡ parents → new ≡ set parents x (slice_index two (slice_index one x))
      → IsForest g new root × (root (slice_index two (slice_index one x)) ≡ root x)
  halved_by one two new e f is =
      let same : slice_index two (slice_index one x) ≡ slice_index parents (slice_index parents x) = cc in
      let put : new ≡ set parents x (slice_index parents (slice_index parents x)) = cc in
      (subst (λ ps. IsForest g ps root) (sym put) halved, ap root same ∙ up_above)

-- a root is put under a smaller one
module _ (g : Digraph) (parents : List ℕ) (root : ℕ → ℕ) (forest : IsForest g parents root) (x y : ℕ) (less : x < y) (lt : y < g.vertices)
    (own_x : slice_index parents x ≡ x) (own_y : slice_index parents y ≡ y) (joined : AreConnected g y x) where
  abbrev pub next : ℕ → ℕ
  next v = cond (root v == y) x (root v)

  next_by : (r : ℕ) (b : Bool) → (r == y) ≡ b → ((r ≡ y) × (cond b x r ≡ x)) ⊎ ((r ≢ y) × (cond b x r ≡ r))
  next_by r true e = let same : r ≡ y = grind (arith, nat_tests) in inl (same, refl)
  next_by r false e = let other : r ≢ y = grind (arith, nat_tests) in inr (other, refl)

  -- the root of a vertex is the one that went, or it stays
  next_is : (v : ℕ) → ((root v ≡ y) × (next v ≡ x)) ⊎ ((root v ≢ y) × (next v ≡ root v))
  next_is v = next_by (root v) (root v == y) refl

  pub next_same : (u w : ℕ) → root u ≡ root w → next u ≡ next w
  next_same u w e = ap (λ r. cond (r == y) x r) e

  abbrev put : List ℕ
  put = set parents y x

  at_y : slice_index put y ≡ x
  at_y = get_or-set_same parents y x 0 (omega (arith, lt, forest.long))

  at_else : (v : ℕ) → v ≢ y → slice_index put v ≡ slice_index parents v
  at_else v ne = get_or-set_other parents y v x 0 ne

  pub next_x : next x ≡ x
  next_x =
      elim (next_is x) [
        | inl went ↦ went.1
        | inr stays ↦ stays.1 ∙ forest.top x (omega (arith, less, lt)) own_x
      ]

  pub next_y : next y ≡ x
  next_y =
      elim (next_is y) [
        | inl went ↦ went.1
        | inr stays ↦ absurd (stays.0 (forest.top y lt own_y))
      ]

  -- what had either root has the smaller one
  pub lands : (v : ℕ) → (root v ≡ x) ⊎ (root v ≡ y) → next v ≡ x
  lands v (inl e) =
      elim (next_is v) [
        | inl went ↦ went.1
        | inr stays ↦ stays.1 ∙ e
      ]
  lands v (inr e) =
      elim (next_is v) [
        | inl went ↦ went.1
        | inr stays ↦ absurd (stays.0 e)
      ]

  falls_linked : (v : ℕ) → slice_index put v ≤ v
  falls_linked v =
      elim (cases_eq v y) [
        | inl e ↦ subst (λ k. slice_index put k ≤ k) (sym e) (omega (arith, at_y, less))
        | inr ne ↦ omega (arith, at_else v ne, forest.falls v)
      ]

  up_linked : (v : ℕ) → v < g.vertices → next (slice_index put v) ≡ next v
  up_linked v small =
      elim (cases_eq v y) [
        | inl e ↦ subst (λ k. next (slice_index put k) ≡ next k) (sym e) (ap next at_y ∙ next_x ∙ sym next_y)
        | inr ne ↦ ap next (at_else v ne) ∙ next_same (slice_index parents v) v (forest.up v small)
      ]

  top_else : (v : ℕ) → v ≢ y → root v ≡ v → next v ≡ v
  top_else v ne own =
      elim (next_is v) [
        | inl went ↦ absurd (ne (sym own ∙ went.0))
        | inr stays ↦ stays.1 ∙ own
      ]

  top_linked : (v : ℕ) → v < g.vertices → slice_index put v ≡ v → next v ≡ v
  top_linked v small own =
      elim (cases_eq v y) [
        | inl e ↦ absurd (omega (arith, subst (λ k. slice_index put k ≡ k) e own, at_y, less))
        | inr ne ↦ top_else v ne (forest.top v small (sym (at_else v ne) ∙ own))
      ]

  fixed_linked : (v : ℕ) → v < g.vertices → slice_index put (next v) ≡ next v
  fixed_linked v small =
      elim (next_is v) [
        | inl went ↦ (let apart : x ≢ y = λ e. absurd (omega (arith, e, less)) in subst (λ k. slice_index put k ≡ k) (sym went.1) (at_else x apart ∙ own_x))
        | inr stays ↦ subst (λ k. slice_index put k ≡ k) (sym stays.1) (at_else (root v) stays.0 ∙ forest.fixed v small)
      ]

  least_linked : (v : ℕ) → next v ≤ v
  least_linked v =
      elim (next_is v) [
        | inl went ↦ omega (arith, went.1, went.0, less, forest.least v)
        | inr stays ↦ omega (arith, stays.1, forest.least v)
      ]

  connected_linked : (v : ℕ) → v < g.vertices → AreConnected g v (next v)
  connected_linked v small =
      elim (next_is v) [
        | inl went ↦ subst (AreConnected g v) (sym went.1) (connected_then g v y x (subst (AreConnected g v) went.0 (forest.connected v small)) joined)
        | inr stays ↦ subst (AreConnected g v) (sym stays.1) (forest.connected v small)
      ]

  pub linked : IsForest g (set parents y x) next
  linked = record {
    long = length-set parents y x ∙ forest.long;
    falls = falls_linked;
    up = up_linked;
    top = top_linked;
    fixed = fixed_linked;
    least = least_linked;
    connected = connected_linked;
  }

-- of two connected vertices, whose roots are x and y, the trees become one
module _ (g : Digraph) (parents : List ℕ) (root : ℕ → ℕ) (forest : IsForest g parents root) (a b x y : ℕ) (in_a : a < g.vertices) (in_b : b < g.vertices)
    (at_a : x ≡ root a) (at_b : y ≡ root b) (together : AreConnected g a b) where
  x_in : x < g.vertices
  x_in = omega (arith, at_a, forest.least a, in_a)

  y_in : y < g.vertices
  y_in = omega (arith, at_b, forest.least b, in_b)

  x_own : slice_index parents x ≡ x
  x_own = subst (λ k. slice_index parents k ≡ k) (sym at_a) (forest.fixed a in_a)

  y_own : slice_index parents y ≡ y
  y_own = subst (λ k. slice_index parents k ≡ k) (sym at_b) (forest.fixed b in_b)

  a_to_x : AreConnected g a x
  a_to_x = subst (AreConnected g a) (sym at_a) (forest.connected a in_a)

  b_to_y : AreConnected g b y
  b_to_y = subst (AreConnected g b) (sym at_b) (forest.connected b in_b)

  x_to_y : AreConnected g x y
  x_to_y = connected_then g x a y (connected_back g a x a_to_x) (connected_then g a b y together b_to_y)

  abbrev Together : List ℕ → Type 0
  Together new = (next : ℕ → ℕ) × IsForest g new next × ((u w : ℕ) → root u ≡ root w → next u ≡ next w) × ((u w : ℕ) → (u ≡ a) × (w ≡ b) → next u ≡ next w)

  same_at : (next : ℕ → ℕ) → next a ≡ next b → (u w : ℕ) → (u ≡ a) × (w ≡ b) → next u ≡ next w
  same_at next e u w h = ap next h.0 ∙ e ∙ ap next (sym h.1)

  under_x : x < y → Together (set parents y x)
  under_x less =
      let joined = connected_back g x y x_to_y in (
        next g parents root forest x y less y_in x_own y_own joined,
        linked g parents root forest x y less y_in x_own y_own joined,
        next_same g parents root forest x y less y_in x_own y_own joined,
        same_at (next g parents root forest x y less y_in x_own y_own joined)
            (lands g parents root forest x y less y_in x_own y_own joined a (inl (sym at_a)) ∙ sym (lands g parents root forest x y less y_in x_own y_own joined b (inr (sym at_b)))),
      )

  under_y : y < x → Together (set parents x y)
  under_y less = (
    next g parents root forest y x less x_in y_own x_own x_to_y,
    linked g parents root forest y x less x_in y_own x_own x_to_y,
    next_same g parents root forest y x less x_in y_own x_own x_to_y,
    same_at (next g parents root forest y x less x_in y_own x_own x_to_y)
        (lands g parents root forest y x less x_in y_own x_own x_to_y a (inr (sym at_a)) ∙ sym (lands g parents root forest y x less x_in y_own x_own x_to_y b (inl (sym at_b)))),
  )

  already : x ≡ y → Together parents
  already e = (root, forest, λ u w h. h, same_at root (sym at_a ∙ e ∙ at_b))

  pub joined_by : (new : List ℕ) → (x < y → new ≡ set parents y x) → (y < x → new ≡ set parents x y) → (x ≡ y → new ≡ parents) → Together new
  joined_by new rises falls same =
      elim (cases_lt x y) [
        | inl lt ↦ subst Together (sym (rises lt)) (under_x lt)
        | inr ge ↦ elim (cases_eq x y) [
          | inl e ↦ subst Together (sym (same e)) (already e)
          | inr ne ↦ (let gt : y < x = omega (arith, ge, ne) in subst Together (sym (falls gt)) (under_y gt))
        ]
      ]

pair_then : (P Q : ℕ → ℕ → Type 0) (mid new : ℕ → ℕ) (u w : ℕ) → (mid u ≡ mid w → new u ≡ new w) → (P u w → mid u ≡ mid w) → (Q u w → new u ≡ new w) → P u w ⊎ Q u w → new u ≡ new w
pair_then P Q mid new u w on p q (inl h) = on (p h)
pair_then P Q mid new u w on p q (inr h) = q h

-- two steps in which trees grew together
pub joining_then : (g : Digraph) (P Q R : ℕ → ℕ → Type 0) (a b c : List ℕ) → IsJoining g P a b → IsJoining g Q b c → ((u w : ℕ) → R u w → P u w ⊎ Q u w) → IsJoining g R a c
joining_then g P Q R a b c first second pairs = λ root forest.
    let one = first root forest in
    let two = second one.0 one.1 in
    (two.0, two.1, λ u w e. two.2 u w (one.2 u w e), λ u w h. pair_then P Q one.0 two.0 u w (two.2 u w) (one.3 u w) (two.3 u w) (pairs u w h))

-- ---- the edges that leave a vertex

-- an arc came to w, and u is the vertex
abbrev pub HasCome : List Arc → ℕ → ℕ → ℕ → Type 0
HasCome came v u w = (u ≡ v) × ((e : ℕ) × Contains came (arc e w))

pub none_come : (g : Digraph) (v : ℕ) (parents : List ℕ) → IsJoining g (HasCome [] v) parents parents
none_come g v parents = λ root forest. (root, forest, λ u w h. h, λ u w h. absurd (omega (arith, h.1.1.1)))

come_more : (came : List Arc) (v : ℕ) (x : Arc) (u w : ℕ) → HasCome (came ++ x ∷ []) v u w → HasCome came v u w ⊎ ((u ≡ v) × (w ≡ x.vertex))
come_more came v x u w h =
    elim (Contains-push_cases came x (arc h.1.0 w) h.1.1) [
      | inl there ↦ inl (h.0, (h.1.0, there))
      | inr e ↦ inr (h.0, ap (λ (a : Arc). a.vertex) (sym e))
    ]

pub one_more : (g : Digraph) (v : ℕ) (came : List Arc) (x : Arc) (a b c : List ℕ) → IsJoining g (HasCome came v) a b → IsJoining g (λ u w. (u ≡ v) × (w ≡ x.vertex)) b c → IsJoining g (HasCome (came ++ x ∷ []) v) a c
one_more g v came x a b c first second = joining_then g (HasCome came v) (λ u w. (u ≡ v) × (w ≡ x.vertex)) (HasCome (came ++ x ∷ []) v) a b c first second (come_more came v x)

pub all_come : (g : Digraph) (v : ℕ) (came : List Arc) (a b : List ℕ) → came ≡ out_arcs g v → IsJoining g (HasCome came v) a b → IsJoining g (λ u w. (u ≡ v) × ((e : ℕ) × Goes g e v w)) a b
all_come g v came a b all joining = λ root forest.
    let r = joining root forest in
    (r.0, r.1, r.2, λ u w h. r.3 u w (h.0, (h.1.0, subst (λ (xs : List Arc). Contains xs (arc h.1.0 w)) (sym all) (left_arc g v h.1.0 w h.1.1))))

-- an edge connects its ends
pub edge_connects : (g : Digraph) (e a b : ℕ) → Goes g e a b → AreConnected g a b
edge_connects g e a b goes = (e ∷ [], (b, inl goes, refl))

-- ---- all edges

-- the edges that leave the first k vertices lie in trees
abbrev pub HasJoined : Digraph → ℕ → List ℕ → Type 0
HasJoined g k parents = (root : ℕ → ℕ) × IsForest g parents root × ((e u w : ℕ) → u < k → Goes g e u w → root u ≡ root w)

-- each vertex alone
module _ (g : Digraph) (parents : List ℕ) (long : length parents ≡ g.vertices) (own : (v : ℕ) → v < g.vertices → slice_index parents v ≡ v) where
  alone_falls : (v : ℕ) → slice_index parents v ≤ v
  alone_falls v =
      elim (cases_lt v g.vertices) [
        | inl lt ↦ omega (arith, own v lt)
        | inr past ↦ omega (arith, get_or_past parents v 0 (omega (arith, long, past)))
      ]

  alone : IsForest g parents (λ v. v)
  alone = record {
    long = long;
    falls = alone_falls;
    up = own;
    top = λ v lt e. refl;
    fixed = own;
    least = λ v. omega arith;
    connected = λ v lt. ([], refl);
  }

  pub none_joined : HasJoined g 0 parents
  none_joined = ((λ v. v), alone, λ e u w lt goes. absurd (omega (arith, lt)))

pub joined_more : (g : Digraph) (k : ℕ) (old new : List ℕ) → HasJoined g k old → IsJoining g (λ u w. (u ≡ k) × ((e : ℕ) × Goes g e k w)) old new → HasJoined g (k + 1) new
joined_more g k old new h joining =
    let r = joining h.0 h.1 in (
      r.0,
      r.1,
      λ e u w lt goes. elim (cases_lt u k) [
        | inl less ↦ r.2 u w (h.2 e u w less goes)
        | inr ge ↦ (let is : u ≡ k = omega (arith, lt, ge) in r.3 u w (is, (e, subst (λ a. Goes g e a w) is goes)))
      ],
    )

pub all_joined : (g : Digraph) (k : ℕ) (parents : List ℕ) → IsClosed g → g.vertices ≤ k → HasJoined g k parents
    → (root : ℕ → ℕ) × IsForest g parents root × ((e u w : ℕ) → Goes g e u w → root u ≡ root w)
all_joined g k parents closed most h = (h.0, h.1, λ e u w goes. h.2 e u w (omega (arith, (closed e u w goes).0, most)) goes)

-- ---- the roots as labels

module _ (parents labels new : List ℕ) (v r : ℕ) (long : length labels ≡ v) (is : new ≡ labels ++ r ∷ []) (own : slice_index parents v ≡ v → r ≡ v)
    (up : slice_index parents v < v → r ≡ slice_index labels (slice_index parents v)) (g : Digraph) (root : ℕ → ℕ) (forest : IsForest g parents root) (lt : v < length parents)
    (each : (u : ℕ) → u < v → slice_index labels u ≡ root u) where
  in_g : v < g.vertices
  in_g = omega (arith, lt, forest.long)

  label_right : r ≡ root v
  label_right =
      elim (cases_eq (slice_index parents v) v) [
        | inl e ↦ own e ∙ sym (forest.top v in_g e)
        | inr ne ↦ (let less : slice_index parents v < v = omega (arith, ne, forest.falls v) in up less ∙ each (slice_index parents v) less ∙ forest.up v in_g)
      ]

  before : (u : ℕ) → u < v → slice_index new u ≡ root u
  before u less = ap (λ (xs : List ℕ). slice_index xs u) is ∙ get_or_append_left labels (r ∷ []) 0 u (omega (arith, less, long)) ∙ each u less

  at_last : slice_index new v ≡ root v
  at_last = ap (λ (xs : List ℕ). slice_index xs v) is ∙ get_or_push labels r 0 v long ∙ label_right

  pub labels_more : (u : ℕ) → u < v + 1 → slice_index new u ≡ root u
  labels_more u small =
      elim (cases_lt u v) [
        | inl less ↦ before u less
        | inr ge ↦ (let e : u ≡ v = omega (arith, ge, small) in subst (λ k. slice_index new k ≡ root k) (sym e) at_last)
      ]

-- what an edge joins has one root, so what a path joins has
pub root_along : (g : Digraph) (root : ℕ → ℕ) → ((e u w : ℕ) → Goes g e u w → root u ≡ root w) → (a b : ℕ) (es : List ℕ) → IsPath g a es b → root a ≡ root b
root_along g root same a b [] p = ap root p
root_along g root same a b (e ∷ es) p =
    elim p.1 [
      | inl on ↦ same e a p.0 on ∙ root_along g root same p.0 b es p.2
      | inr back ↦ sym (same e p.0 a back) ∙ root_along g root same p.0 b es p.2
    ]

-- where all edges lie in trees, the roots are the labels
pub roots_label : (g : Digraph) (parents : List ℕ) (root : ℕ → ℕ) → IsForest g parents root → ((e u w : ℕ) → Goes g e u w → root u ≡ root w) → (v : ℕ) → v < g.vertices → IsLabel g v (root v)
roots_label g parents root forest same v lt = (forest.connected v lt, λ b path. omega (arith, root_along g root same v b path.0 path.1, forest.least b))
