use Rattle.std.proofs.Common.{◌≡◌, ℕ, ◌<◌, slice_index, subst}
use Rattle.algo_rank.specs.Ranks.{next_rank}
use Rattle.algo_rank.proofs.Shares.{one_whole, next_are}
use Rattle.algo_rank.proofs.rounds.digraph_rank.Goals as goal

pub next_ranks-requires-clause-low : goal.next_ranks-requires-clause-low
next_ranks-requires-clause-low g c κs within =
    rw c.as_slice-in-loop-round.ensures (one_whole c.args.digraph.now c.loop-round._round c.loop-round.ranks c.loop-round.invariant c.vertex_count-n.ensures.closed)

pub loop-round-preserved : goal.loop-round-preserved
loop-round-preserved g c =
    let digraph = c.args.digraph.now in
    let next = c.in_ok-ranks-2.ranks in
    next_are digraph c.loop-round._round c.loop-round.ranks c.loop-round.invariant c.vertex_count-n.ensures.closed next c.in_ok-ranks-2.ensures.len
    (subst (λ xs. (v : ℕ) → v < digraph.vertices → slice_index next v ≡ next_rank digraph (slice_index xs) v) c.as_slice-in-loop-round.ensures c.in_ok-ranks-2.ensures.each)
