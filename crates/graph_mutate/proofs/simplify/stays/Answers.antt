use Rattle.std.proofs.Common.{w32}
use Rattle.std.proofs.lemmas.Int.{to_z-of_z}
use Rattle.graph_mutate.proofs.Stays.{pair_put}
use Rattle.graph_mutate.proofs.simplify.stays.Goals as goal

pub returns-then-not-is_loop-clause-seen : goal.returns-then-not-is_loop-clause-seen
returns-then-not-is_loop-clause-seen c = λ s d.
    pair_put (c.args.source, c.args.destination) (s, d) _ _ (rw (to_z-of_z w32 c.args.source c.ranges.source, to_z-of_z w32 c.args.destination c.ranges.destination) at (c.in_ok-is_new.ensures.updates.0 (s, d)))

pub returns-else-not-is_loop-clause-seen : goal.returns-else-not-is_loop-clause-seen
returns-else-not-is_loop-clause-seen c = λ s d.
    pair_put (c.args.source, c.args.destination) (s, d) _ _ (rw (to_z-of_z w32 c.args.source c.ranges.source, to_z-of_z w32 c.args.destination c.ranges.destination) at (c.in_ok-is_new.ensures.updates.0 (s, d)))
