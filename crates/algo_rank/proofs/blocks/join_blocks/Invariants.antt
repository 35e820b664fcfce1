use Rattle.std.proofs.Common.{ℕ, ◌<◌, ◌≤◌, length}
use Rattle.std.specs.Prelude.{AllPairs, Contains}
use Rattle.algo_rank.proofs.blocks.join_blocks.Given as goal

abbrev pub invariant-heads : goal.invariant-heads
invariant-heads l = record {
  rise : AllPairs (λ a b. a < b) l.heads.items;
  some : (h : ℕ) → Contains l.heads.items h → Contains l.initial.heads.items h;
  all : (h : ℕ) → Contains l.initial.heads.items h → h ≤ l.place → Contains l.heads.items h;
}

abbrev pub decreases-heads : goal.decreases-heads
decreases-heads l = length l.heads.items
