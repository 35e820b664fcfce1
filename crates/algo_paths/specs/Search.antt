-- A search for least weights. No public contract names these words.
use Rattle.std.specs.Prelude.{◌≡◌, ◌⊎◌, ℕ, ◌+◌, ◌*◌, ◌<◌, ◌≤◌, ◌^◌, ℤ, pos, List, [], Option, Contains, length, slice_index, sum}
use Rattle.std.specs.Option.{MatchOption}
use Rattle.algo_digraph.specs.Digraph.{Digraph, Goes}
use Rattle.algo_digraph.specs.Walks.{IsWalk, weight_of}
use Rattle.algo_paths.specs.Queue.{entry_of}

-- no edge from v makes anything better
abbrev pub IsRelaxed : Digraph → List ℕ → List ℕ → ℕ → Type 0
IsRelaxed g weights best v = (e w : ℕ) → Goes g e v w → slice_index best w ≤ slice_index best v + slice_index weights e

-- a vertex waits in the queue or in the wave at work, or it is relaxed
abbrev pub IsCovered : Digraph → List ℕ → List ℕ → List (ℕ × ℕ) → List ℕ → ℕ → Type 0
IsCovered g weights best queue wave v = (Contains queue (entry_of best v) ⊎ Contains wave v) ⊎ IsRelaxed g weights best v

-- a weight is the old one of some vertex, and that of a walk from there
abbrev pub ComesFrom : Digraph → List ℕ → List ℕ → ℕ → ℕ → Type 0
ComesFrom g weights old w r = (u : ℕ) × (es : List ℕ) × IsWalk g u es w × (r ≡ slice_index old u + weight_of weights es)

-- weights got better, and vertices that waited in a wave are relaxed but for those that are left of it
pub record IsProgress (g : Digraph) (weights : List ℕ) (wave left : List ℕ) (old new : List ℕ) (before after : List (ℕ × ℕ)) : Type 0 where
  pub long : length new ≡ length old
  pub lower : (w : ℕ) → slice_index new w ≤ slice_index old w
  pub better : (w : ℕ) → w < g.vertices → ComesFrom g weights old w (slice_index new w)
  pub covered : (v : ℕ) → v < g.vertices → IsCovered g weights old before wave v ⊎ (slice_index new v < slice_index old v) → IsCovered g weights new after left v
  pub queued : (x : ℕ × ℕ) → Contains after x → Contains before x ⊎ (x.1 < g.vertices)
  pub work : 2 * sum new + length after ≤ 2 * sum old + length before

-- some weights got better, each by an edge from v, and the vertices were queued with them
pub record IsRelaxing (g : Digraph) (weights : List ℕ) (v : ℕ) (old new : List ℕ) (before after : List (ℕ × ℕ)) : Type 0 where
  pub long : length new ≡ length old
  pub lower : (w : ℕ) → slice_index new w ≤ slice_index old w
  pub better : (w : ℕ) → (slice_index new w ≡ slice_index old w)
      ⊎ (Contains after (entry_of new w) × ((e : ℕ) × Goes g e v w × (slice_index new w ≡ slice_index old v + slice_index weights e)))
  pub stays : (x : ℕ × ℕ) → Contains before x → Contains after x
  pub queued : (x : ℕ × ℕ) → Contains after x → Contains before x ⊎ (x.1 < g.vertices)
  pub work : 2 * sum new + length after ≤ 2 * sum old + length before

-- a weight is offered to a vertex, which takes it where it is better, and is queued then
pub record IsOffer (w weight : ℕ) (old new : List ℕ) (before after : List (ℕ × ℕ)) : Type 0 where
  pub long : length new ≡ length old
  pub lower : (u : ℕ) → slice_index new u ≤ slice_index old u
  pub taken : slice_index new w ≤ weight
  pub better : (u : ℕ) → (slice_index new u ≡ slice_index old u) ⊎ (Contains after (entry_of new u) × (u ≡ w) × (slice_index new u ≡ weight))
  pub stays : (x : ℕ × ℕ) → Contains before x → Contains after x
  pub queued : (x : ℕ × ℕ) → Contains after x → Contains before x ⊎ (x.1 ≡ w)
  pub work : 2 * sum new + length after ≤ 2 * sum old + length before

-- 2 ^ 63 stands for no walk yet; each smaller weight is that of a walk; and each vertex that has one waits in the queue or is relaxed
pub record IsSearch (g : Digraph) (weights : List ℕ) (from : ℕ) (best : List ℕ) (queue : List (ℕ × ℕ)) : Type 0 where
  pub long : length best ≡ g.vertices
  pub low : (v : ℕ) → slice_index best v ≤ 2 ^ 63
  pub start : slice_index best from ≡ 0
  pub walks : (v : ℕ) → v < g.vertices → slice_index best v < 2 ^ 63 → (es : List ℕ) × IsWalk g from es v × (weight_of weights es ≡ slice_index best v)
  pub queued : (x : ℕ × ℕ) → Contains queue x → x.1 < g.vertices
  pub covered : (v : ℕ) → v < g.vertices → slice_index best v < 2 ^ 63 → IsCovered g weights best queue [] v

-- r is the weight of v after a round: the least of its own and of those that one more edge makes
pub record IsNextBest (g : Digraph) (weights best : List ℕ) (v r : ℕ) : Type 0 where
  pub own : r ≤ slice_index best v
  pub least : (e u : ℕ) → Goes g e u v → r ≤ slice_index best u + slice_index weights e
  pub some : (r ≡ slice_index best v) ⊎ ((e : ℕ) × (u : ℕ) × Goes g e u v × (r ≡ slice_index best u + slice_index weights e))

-- how a weight is told
abbrev pub IsTold : ℕ → Option ℤ → Type 0
IsTold b r = MatchOption r (2 ^ 63 ≤ b) (λ z. (b < 2 ^ 63) × (z ≡ pos b))
