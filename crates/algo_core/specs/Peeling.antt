-- Peeling: vertices get their core numbers, least first. No public contract names these words.
use Rattle.std.specs.Prelude.{◌≡◌, ◌⊎◌, ℕ, ◌+◌, ◌-◌, ◌*◌, ◌<◌, ◌≤◌, ◌==◌, ◌++◌, max, nat_lt, Bool, true, List, [], ◌∷◌, Option, Some, None, Result, Ok, Err, Contains, filter, flat_map, length, map, slice_index, slice_index_or, slice_set, count_by, sum}
use Rattle.std.specs.Option.{is_none}
use Rattle.algo_digraph.specs.declared.arcs.Arc.{Arc}
use Rattle.algo_digraph.specs.Digraph.{Digraph}
use Rattle.algo_digraph.specs.Arcs.{out_arcs, in_arcs}
use Rattle.algo_digraph.specs.Cores.{ends_inside, IsInCore, IsCoreNumber}

-- the core number of a vertex, if it has one yet
abbrev pub core_of : List (Option ℕ) → ℕ → Option ℕ
core_of cores v = slice_index_or cores v (Some 0)

-- a vertex is left where it has no core number yet
abbrev pub is_left : List (Option ℕ) → ℕ → Bool
is_left cores v = is_none (core_of cores v)

-- for each edge end of a vertex the vertex at the edge's other end: targets, then sources, so a loop lists its vertex twice
abbrev pub neighbors : Digraph → ℕ → List ℕ
neighbors g v = map (λ (a : Arc). a.vertex) (out_arcs g v) ++ map (λ (a : Arc). a.vertex) (in_arcs g v)

-- each number is right; the count of each vertex that is left is that of its edge ends among these, but does not fall below the
-- level; and what is left lies in cores of the level and is all that lies in a core of more
pub record IsPeeling (g : Digraph) (level : ℕ) (cores : List (Option ℕ)) (ends : List ℕ) : Type 0 where
  pub long : length cores ≡ g.vertices
  pub counts : length ends ≡ g.vertices
  pub right : (v k : ℕ) → v < g.vertices → core_of cores v ≡ Some k → IsCoreNumber g v k
  pub counted : (v : ℕ) → is_left cores v ≡ true → slice_index ends v ≡ max level (ends_inside g (is_left cores) v)
  pub deep : (v : ℕ) → is_left cores v ≡ true → IsInCore g v level
  pub above : (v k : ℕ) → IsInCore g v k → level < k → is_left cores v ≡ true

-- some more edge ends are counted off, one for each time that a vertex is listed, but no count falls below the level; vertices
-- that got down to it are queued
pub record IsLowering (level : ℕ) (listed old new before after : List ℕ) : Type 0 where
  pub long : length new ≡ length old
  pub each : (w : ℕ) → level ≤ slice_index old w → slice_index new w ≡ max level (slice_index old w - count_by (λ x. x == w) listed)
  pub queued : (w : ℕ) → Contains after w → Contains before w ⊎ ((w < length old) × (slice_index new w ≤ level))
  pub stays : (w : ℕ) → Contains before w → Contains after w
  pub less : (w : ℕ) → slice_index new w ≤ slice_index old w
  pub work : 2 * sum new + length after ≤ 2 * sum old + length before

-- ---- many at once

-- vertices that were left got the level as their number, one after another
abbrev pub AreNumbered : ℕ → List (Option ℕ) → List ℕ → List (Option ℕ) → Type 0
AreNumbered level old [] new = old ≡ new
AreNumbered level old (v ∷ vs) new = (v < length old) × (core_of old v ≡ None) × AreNumbered level (slice_set old v (Some level)) vs new

-- a vertex has a count above the level
abbrev pub is_above : List ℕ → ℕ → ℕ → Bool
is_above ends level w = nat_lt level (slice_index ends w)

-- the neighbors of vertices that have such a count
abbrev pub falling : Digraph → List ℕ → ℕ → List ℕ → List ℕ
falling g ends level vs = filter (is_above ends level) (flat_map (neighbors g) vs)

-- what was found where there was memory to list it
abbrev pub found_in : {E : Type 0} → Result (List ℕ) E → List ℕ
found_in (Ok found) = found
found_in (Err e) = []

-- vertices without a number, of a kind, got the level as their number, each of that kind has one, and no other changed
pub record IsNumbering (Kind : ℕ → Type 0) (level : ℕ) (old new : List (Option ℕ)) : Type 0 where
  pub long : length new ≡ length old
  pub kept : (v k : ℕ) → core_of old v ≡ Some k → core_of new v ≡ Some k
  pub fresh : (v : ℕ) → core_of old v ≡ None → (core_of new v ≡ None) ⊎ ((core_of new v ≡ Some level) × Kind v)
  pub all : (v : ℕ) → Kind v → core_of new v ≡ None → ⊥
