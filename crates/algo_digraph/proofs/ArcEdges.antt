-- the arcs of a vertex are the edges that leave, or enter, it
use Rattle.std.proofs.Common.{◌≡◌, ℕ, ◌+◌, ◌<◌, ◌≤◌, ◌==◌, Bool, true, false, if◌then◌else◌, List, [], ◌∷◌, All, length, get_or, slice_get, map, Some, ap, sym, ◌∙◌, subst, arith}
use Rattle.std.specs.Prelude.{Contains}
use Rattle.std.proofs.lemmas.List.{length-map, get_or-map}
use Rattle.std.proofs.lemmas.List.Elements.{All-map, All-weaker, All-contains_itself}
use Rattle.std.proofs.lemmas.Option.{slice_get_within, get_or_from_slice_get, slice_get-get_or, some_pair_parts}
use Rattle.csr_rows.specs.Rows.{places_from}
use Rattle.csr_rows.proofs.Meaning.{place_of_end, end_of_place}
use Rattle.algo_digraph.specs.declared.arcs.Arc.{Arc}
use Rattle.algo_digraph.specs.Digraph.{Digraph, Goes, IsClosed, leaving, entering, source_of, target_of}
use Rattle.algo_digraph.specs.Arcs.{arc, out_arcs, in_arcs}

-- an edge has one source and one target
pub same_ends : (g : Digraph) (e a b c d : ℕ) → Goes g e a b → Goes g e c d → (a ≡ c) × (b ≡ d)
same_ends g e a b c d p q = some_pair_parts a c b d (sym p ∙ q)

pub goes_within : (g : Digraph) (e a b : ℕ) → Goes g e a b → e < length g.edges
goes_within g e a b h = slice_get_within g.edges e (a, b) h

pub source_is : (g : Digraph) (e a b : ℕ) → Goes g e a b → source_of g e ≡ a
source_is g e a b h = ap (λ (p : ℕ × ℕ). p.0) (get_or_from_slice_get g.edges e (a, b) (0, 0) h)

pub target_is : (g : Digraph) (e a b : ℕ) → Goes g e a b → target_of g e ≡ b
target_is g e a b h = ap (λ (p : ℕ × ℕ). p.1) (get_or_from_slice_get g.edges e (a, b) (0, 0) h)

pub goes : (g : Digraph) (e : ℕ) → e < length g.edges → Goes g e (source_of g e) (target_of g e)
goes g e lt = slice_get-get_or g.edges e (0, 0) lt

-- the end of an edge of a row
end_at : (f : ℕ × ℕ → ℕ) (edges : List (ℕ × ℕ)) (e v : ℕ) → slice_get (map f edges) e ≡ Some v → (e < length edges) × (f (get_or edges e (0, 0)) ≡ v)
end_at f edges e v at =
    let within : e < length edges = omega (arith, slice_get_within (map f edges) e v at, length-map edges f) in
    (within, sym (get_or-map f edges e (0, 0) 0 within) ∙ get_or_from_slice_get (map f edges) e v 0 at)

end_there : (f : ℕ × ℕ → ℕ) (edges : List (ℕ × ℕ)) (e : ℕ) (p : ℕ × ℕ) → slice_get edges e ≡ Some p → slice_get (map f edges) e ≡ Some (f p)
end_there f edges e p at =
    let within = slice_get_within edges e p at in
    let long : e < length (map f edges) = omega (arith, length-map edges f) in
    slice_get-get_or (map f edges) e 0 long ∙ ap Some (get_or-map f edges e p 0 within ∙ ap f (get_or_from_slice_get edges e p p at))

contains_map : {X Y : Type 0} (f : X → Y) (xs : List X) (x : X) → Contains xs x → Contains (map f xs) (f x)
contains_map f xs x h = (h.0, omega (arith, h.1, length-map xs f), get_or-map f xs h.0 x (f x) h.1 ∙ ap f h.2)

module _ (g : Digraph) (v : ℕ) where
  leaves : (e : ℕ) → Contains (leaving g v) e → Goes g e v (target_of g e)
  leaves e found =
      let end = end_at (λ p. p.0) g.edges e v (place_of_end (map (λ p. p.0) g.edges) v e found) in
      subst (λ a. Goes g e a (target_of g e)) end.1 (goes g e end.0)

  enters : (e : ℕ) → Contains (entering g v) e → Goes g e (source_of g e) v
  enters e found =
      let end = end_at (λ p. p.1) g.edges e v (place_of_end (map (λ p. p.1) g.edges) v e found) in
      subst (λ b. Goes g e (source_of g e) b) end.1 (goes g e end.0)

  -- each arc is an edge
  pub out_each : All (λ a. Goes g a.edge v a.vertex) (out_arcs g v)
  out_each =
      All-map (λ (a : Arc). Goes g a.edge v a.vertex) (λ e. arc e (target_of g e)) (leaving g v)
      (All-weaker (λ e. Contains (leaving g v) e) (λ e. Goes g e v (target_of g e)) leaves (leaving g v) (All-contains_itself (leaving g v)))

  pub in_each : All (λ a. Goes g a.edge a.vertex v) (in_arcs g v)
  in_each =
      All-map (λ (a : Arc). Goes g a.edge a.vertex v) (λ e. arc e (source_of g e)) (entering g v)
      (All-weaker (λ e. Contains (entering g v) e) (λ e. Goes g e (source_of g e) v) enters (entering g v) (All-contains_itself (entering g v)))

  pub out_edges : All (λ a. a.edge < length g.edges) (out_arcs g v)
  out_edges = All-weaker (λ (a : Arc). Goes g a.edge v a.vertex) (λ (a : Arc). a.edge < length g.edges) (λ a h. goes_within g a.edge v a.vertex h) (out_arcs g v) out_each

  pub in_edges : All (λ a. a.edge < length g.edges) (in_arcs g v)
  in_edges = All-weaker (λ (a : Arc). Goes g a.edge a.vertex v) (λ (a : Arc). a.edge < length g.edges) (λ a h. goes_within g a.edge a.vertex v h) (in_arcs g v) in_each

  pub out_ends : IsClosed g → All (λ a. a.vertex < g.vertices) (out_arcs g v)
  out_ends closed = All-weaker (λ (a : Arc). Goes g a.edge v a.vertex) (λ (a : Arc). a.vertex < g.vertices) (λ a h. (closed a.edge v a.vertex h).1) (out_arcs g v) out_each

  pub in_ends : IsClosed g → All (λ a. a.vertex < g.vertices) (in_arcs g v)
  in_ends closed = All-weaker (λ (a : Arc). Goes g a.edge a.vertex v) (λ (a : Arc). a.vertex < g.vertices) (λ a h. (closed a.edge a.vertex v h).0) (in_arcs g v) in_each

  -- each edge is an arc
  pub left_arc : (e w : ℕ) → Goes g e v w → Contains (out_arcs g v) (arc e w)
  left_arc e w h =
      subst (λ x. Contains (out_arcs g v) (arc e x)) (target_is g e v w h)
      (contains_map (λ e. arc e (target_of g e)) (leaving g v) e (end_of_place (map (λ p. p.0) g.edges) v e (end_there (λ p. p.0) g.edges e (v, w) h)))

  pub entered_arc : (e u : ℕ) → Goes g e u v → Contains (in_arcs g v) (arc e u)
  entered_arc e u h =
      subst (λ x. Contains (in_arcs g v) (arc e x)) (source_is g e u v h)
      (contains_map (λ e. arc e (source_of g e)) (entering g v) e (end_of_place (map (λ p. p.1) g.edges) v e (end_there (λ p. p.1) g.edges e (u, v) h)))

-- no more arcs than edges
few_if : (b : Bool) (first : ℕ) (p : List ℕ) (e : ℕ) (ends : List ℕ) → length p ≤ length ends → length (if b then first ∷ p else p) ≤ length (e ∷ ends)
few_if true first p e ends h = omega (arith, h)
few_if false first p e ends h = omega (arith, h)

row_few : (first : ℕ) (ends : List ℕ) (v : ℕ) → length (places_from first ends v) ≤ length ends
row_few first [] v = omega arith
row_few first (e ∷ ends) v = few_if (e == v) first (places_from (first + 1) ends v) e ends (row_few (first + 1) ends v)

pub out_few : (g : Digraph) (v : ℕ) → length (out_arcs g v) ≤ length g.edges
out_few g v = omega (arith, length-map (leaving g v) (λ e. arc e (target_of g e)), row_few 0 (map (λ p. p.0) g.edges) v, length-map g.edges (λ (p : ℕ × ℕ). p.0))

pub in_few : (g : Digraph) (v : ℕ) → length (in_arcs g v) ≤ length g.edges
in_few g v = omega (arith, length-map (entering g v) (λ e. arc e (source_of g e)), row_few 0 (map (λ p. p.1) g.edges) v, length-map g.edges (λ (p : ℕ × ℕ). p.1))
