-- Ranks, round by round, in units of 1 / 4294967296. Quotients drop the remainder.
use Rattle.std.specs.Prelude.{◌≡◌, ℕ, zero, suc, ◌+◌, ◌*◌, ◌/◌, ◌<◌, List, length, slice_index, sum_by}
use Rattle.algo_digraph.specs.Digraph.{Digraph, leaving, entering, source_of}

-- what each edge that leaves a vertex hands on: 85 hundredths of the vertex's rank, divided by the number of these edges
abbrev pub share_of : Digraph → (ℕ → ℕ) → ℕ → ℕ
share_of g rank u = 85 * rank u / (100 * length (leaving g u))

-- the rank of a vertex in the next round: what each vertex has of its own, and what each edge that enters it hands on
abbrev pub next_rank : Digraph → (ℕ → ℕ) → ℕ → ℕ
next_rank g rank v = 15 * 4294967296 / (100 * g.vertices) + sum_by (λ e. share_of g rank (source_of g e)) (entering g v)

-- the rank of a vertex after so many rounds: at first all vertices have the same
abbrev pub rank_after : Digraph → ℕ → ℕ → ℕ
rank_after g zero v = 4294967296 / g.vertices
rank_after g (suc rounds) v = next_rank g (rank_after g rounds) v

-- the ranks of all vertices, by index
pub record AreRanks (g : Digraph) (rounds : ℕ) (ranks : List ℕ) : Type 0 where
  pub long : length ranks ≡ g.vertices
  pub each : (v : ℕ) → v < g.vertices → slice_index ranks v ≡ rank_after g rounds v
