-- paths, whose edges may be taken either way
use Rattle.std.proofs.Common.{ℕ, ◌<◌, inl, inr, List, [], ◌∷◌, ◌++◌, refl, sym, subst}
use Rattle.algo_digraph.specs.Digraph.{Digraph, IsClosed}
use Rattle.algo_digraph.specs.Walks.{Joins, IsPath, AreConnected}

pub turned : (g : Digraph) (e a b : ℕ) → Joins g e a b → Joins g e b a
turned g e a b (inl h) = inr h
turned g e a b (inr h) = inl h

pub joins_in : (g : Digraph) → IsClosed g → (e a b : ℕ) → Joins g e a b → b < g.vertices
joins_in g closed e a b (inl h) = (closed e a b h).1
joins_in g closed e a b (inr h) = (closed e b a h).0

pub path_push : (g : Digraph) (a b c e : ℕ) (es : List ℕ) → IsPath g a es b → Joins g e b c → IsPath g a (es ++ e ∷ []) c
path_push g a b c e [] p h = (c, subst (λ x. Joins g e x c) (sym p) h, refl)
path_push g a b c e (f ∷ es) p h = (p.0, p.1, path_push g p.0 b c e es p.2 h)

pub connected_on : (g : Digraph) (a b c e : ℕ) → AreConnected g a b → Joins g e b c → AreConnected g a c
connected_on g a b c e h j = (h.0 ++ e ∷ [], path_push g a b c e h.0 h.1 j)

path_then : (g : Digraph) (a b c : ℕ) (es : List ℕ) → IsPath g a es b → AreConnected g b c → AreConnected g a c
path_then g a b c [] p h = subst (λ x. AreConnected g x c) (sym p) h
path_then g a b c (e ∷ es) p h = let rest = path_then g p.0 b c es p.2 h in (e ∷ rest.0, (p.0, p.1, rest.1))

pub connected_then : (g : Digraph) (a b c : ℕ) → AreConnected g a b → AreConnected g b c → AreConnected g a c
connected_then g a b c h = path_then g a b c h.0 h.1

path_back : (g : Digraph) (a b : ℕ) (es : List ℕ) → IsPath g a es b → AreConnected g b a
path_back g a b [] p = ([], sym p)
path_back g a b (e ∷ es) p = connected_on g b p.0 a e (path_back g p.0 b es p.2) (turned g e a p.0 p.1)

pub connected_back : (g : Digraph) (a b : ℕ) → AreConnected g a b → AreConnected g b a
connected_back g a b h = path_back g a b h.0 h.1
