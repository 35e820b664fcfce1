-- What an overlay tells after something was written.
use Rattle.std.proofs.Common.{◌≡◌, ℕ, ℤ, Bool, true, false, ◌&&◌, cond, Option, Some, refl, ap, ◌∙◌}
use Rattle.std.specs.Prelude.{nat_eq, unwrap_or}
use Rattle.std.specs.Ordering.{int_eq}
use Rattle.std.specs.HashMap.{HashMap, get}
use Rattle.changeset.specs.declared.state.VertexState.{VertexState}
use Rattle.changeset.specs.declared.state.EdgeState.{EdgeState}
use Rattle.changeset.specs.Facts.{Facts, put, more_ends, fewer_ends}
use Rattle.changeset.specs.Overlay.{same_at, written_or}

-- facts are the same where they tell the same of each key
pub same_facts : (f h : Facts) → ((t : ℕ) (k : ℤ) → f.vertex t k ≡ h.vertex t k) → ((t : ℕ) (k : ℤ) → f.edge t k ≡ h.edge t k) → f.vertices ≡ h.vertices → f.edges ≡ h.edges → f.cells ≡ h.cells → f ≡ h
same_facts f h v e a b c = λ i. record { vertex = λ t k. v t k i; edge = λ t k. e t k i; vertices = a i; edges = b i; cells = c i }

unwrap_cond : {X : Type 0} (b : Bool) (x d : X) (o : Option X) → unwrap_or (cond b (Some x) o) d ≡ cond b x (unwrap_or o d)
unwrap_cond true x d o = refl
unwrap_cond false x d o = refl

pub written_put : {X S : Type 0} (old new : HashMap (ℕ × ℤ) X S) (base : ℕ → ℤ → X) (t : ℕ) (k : ℤ) (x : X) → ((q : ℕ × ℤ) → get same_at new q ≡ cond (same_at (t, k) q) (Some x) (get same_at old q))
    → (u : ℕ) (q : ℤ) → written_or new base u q ≡ put (written_or old base) t k x u q
written_put old new base t k x updates u q = ap (λ o. unwrap_or o (base u q)) (updates (u, q)) ∙ unwrap_cond (nat_eq t u && int_eq k q) x (base u q) (get same_at old (u, q))

-- ---- several things written

-- other numbers beside what is told of keys
pub renumbered : (f h : Facts) (a b c x y z : ℕ) → f ≡ h → a ≡ x → b ≡ y → c ≡ z
    → ◌≡◌ {A = Facts} (record { vertex = f.vertex; edge = f.edge; vertices = a; edges = b; cells = c }) (record { vertex = h.vertex; edge = h.edge; vertices = x; edges = y; cells = z })
renumbered f h a b c x y z e p q r = λ i. record { vertex = (e i).vertex; edge = (e i).edge; vertices = p i; edges = q i; cells = r i }

-- a vertex comes or goes, and as many ends of edges stand there as before
pub put_vertex : (f h : Facts) (t : ℕ) (k : ℤ) (b : Bool) (ends : ℕ) → h ≡ record f { vertex = put f.vertex t k (record { there = b; ends = ends }) } → ends ≡ (f.vertex t k).ends
    → h ≡ record f { vertex = put f.vertex t k (record { there = b; ends = (f.vertex t k).ends }) }
put_vertex f h t k b ends e same = e ∙ ap (λ n. let x : Facts = record f { vertex = put f.vertex t k (record { there = b; ends = n }) } in x) same

-- the state of a vertex is changed
pub put_state : (f h : Facts) (t : ℕ) (k : ℤ) (change : VertexState → VertexState) (x : VertexState) → h ≡ record f { vertex = put f.vertex t k (change x) } → x ≡ f.vertex t k → h ≡ record f { vertex = put f.vertex t k (change (f.vertex t k)) }
put_state f h t k change x e same = e ∙ ap (λ y. let z : Facts = record f { vertex = put f.vertex t k (change y) } in z) same

-- an edge comes: one more end stands at each of two vertices
pub edge_comes : (f one two three : Facts) (src dst t from to : ℕ) (a b k : ℤ) (x : EdgeState) → one ≡ record f { vertex = more_ends f.vertex src a } → two ≡ record one { vertex = more_ends one.vertex dst b } → three ≡ record two { edge = put two.edge t k x } → src ≡ from → dst ≡ to
    → three ≡ record f { vertex = more_ends (more_ends f.vertex from a) to b; edge = put f.edge t k x }
edge_comes f one two three src dst t from to a b k x e₁ e₂ e₃ p q =
    e₃
    ∙ ap (λ z. let y : Facts = record z { edge = put z.edge t k x } in y) (e₂ ∙ ap (λ z. let y : Facts = record z { vertex = more_ends z.vertex dst b } in y) e₁)
    ∙ ap (λ z. let y : Facts = record f { vertex = more_ends (more_ends f.vertex z a) dst b; edge = put f.edge t k x } in y) p
    ∙ ap (λ z. let y : Facts = record f { vertex = more_ends (more_ends f.vertex from a) z b; edge = put f.edge t k x } in y) q

-- an edge goes
pub edge_goes : (f one two three : Facts) (src dst t from to : ℕ) (a b k : ℤ) (x : EdgeState) → one ≡ record f { vertex = fewer_ends f.vertex src a } → two ≡ record one { vertex = fewer_ends one.vertex dst b } → three ≡ record two { edge = put two.edge t k x } → src ≡ from → dst ≡ to
    → three ≡ record f { vertex = fewer_ends (fewer_ends f.vertex from a) to b; edge = put f.edge t k x }
edge_goes f one two three src dst t from to a b k x e₁ e₂ e₃ p q =
    e₃
    ∙ ap (λ z. let y : Facts = record z { edge = put z.edge t k x } in y) (e₂ ∙ ap (λ z. let y : Facts = record z { vertex = fewer_ends z.vertex dst b } in y) e₁)
    ∙ ap (λ z. let y : Facts = record f { vertex = fewer_ends (fewer_ends f.vertex z a) dst b; edge = put f.edge t k x } in y) p
    ∙ ap (λ z. let y : Facts = record f { vertex = fewer_ends (fewer_ends f.vertex from a) z b; edge = put f.edge t k x } in y) q
