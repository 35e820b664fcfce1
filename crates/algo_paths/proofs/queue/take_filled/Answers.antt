use Rattle.algo_paths.proofs.Entries.{is_taken}
use Rattle.algo_paths.proofs.queue.take_filled.Goals as goal

pub returns-in-Some-clause-some : goal.returns-in-Some-clause-some
returns-in-Some-clause-some c =
    let some = rw c.as_slice.ensures at c.in-Some.ensures.some in
    rw (c.take.ensures.taken, c.take.ensures.left) (is_taken c.args.buckets.now c.in-Some.place some.0 some.1)
