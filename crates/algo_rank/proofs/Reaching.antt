-- walks one after another, and what labels tell
use Rattle.std.proofs.Common.{◌≡◌, ℕ, ◌↔◌, List, [], ◌∷◌, le_antisymm, refl, sym, subst}
use Rattle.algo_digraph.specs.Digraph.{Digraph, Goes}
use Rattle.algo_digraph.specs.Walks.{IsWalk}
use Rattle.algo_rank.specs.Classes.{Reaches, AreStrong, IsStrongLabel}

pub reaches_self : (g : Digraph) (a : ℕ) → Reaches g a a
reaches_self g a = ([], refl)

pub reaches_edge : (g : Digraph) (e a b : ℕ) → Goes g e a b → Reaches g a b
reaches_edge g e a b goes = (e ∷ [], (b, goes, refl))

walk_then : (g : Digraph) (a b c : ℕ) (es : List ℕ) → IsWalk g a es b → Reaches g b c → Reaches g a c
walk_then g a b c [] w h = subst (λ x. Reaches g x c) (sym w) h
walk_then g a b c (e ∷ es) w h = let rest = walk_then g w.0 b c es w.2 h in (e ∷ rest.0, (w.0, w.1, rest.1))

pub reaches_then : (g : Digraph) (a b c : ℕ) → Reaches g a b → Reaches g b c → Reaches g a c
reaches_then g a b c h = walk_then g a b c h.0 h.1

pub strong_back : (g : Digraph) (a b : ℕ) → AreStrong g a b → AreStrong g b a
strong_back g a b h = (h.1, h.0)

pub strong_then : (g : Digraph) (a b c : ℕ) → AreStrong g a b → AreStrong g b c → AreStrong g a c
strong_then g a b c h i = (reaches_then g a b c h.0 i.0, reaches_then g c b a i.1 h.1)

-- ---- labels

pub one_label : (g : Digraph) (v l m : ℕ) → IsStrongLabel g v l → IsStrongLabel g v m → l ≡ m
one_label g v l m h i = le_antisymm (h.1 m i.0) (i.1 l h.0)

pub labels_tell : (g : Digraph) (a b l m : ℕ) → IsStrongLabel g a l → IsStrongLabel g b m → (l ≡ m) ↔ AreStrong g a b
labels_tell g a b l m h i = (
  λ same. strong_then g a m b (subst (AreStrong g a) same h.0) (strong_back g b m i.0),
  λ both. le_antisymm (h.1 m (strong_then g a b m both i.0)) (i.1 l (strong_then g b a l (strong_back g a b both) h.0)),
)

-- the label of a vertex has the same label
pub label_own : (g : Digraph) (v l : ℕ) → IsStrongLabel g v l → IsStrongLabel g l l
label_own g v l h = ((reaches_self g l, reaches_self g l), λ u both. h.1 u (strong_then g v l u h.0 both))
