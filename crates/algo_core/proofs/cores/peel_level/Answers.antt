use Rattle.std.proofs.Common.{◌≡◌, ap, length, arith}
use Rattle.std.specs.Prelude.{filter, nat_le, slice_index}
use Rattle.algo_core.proofs.Levels.{few_in, few_has, few_all, on_ok}
use Rattle.algo_core.proofs.cores.peel_level.Goals as goal

pub with_few_ends-requires : goal.with_few_ends-requires
with_few_ends-requires g c = rw c.as_slice.ensures (λ v h. omega (arith, c.requires.left v h, c.requires.peeling.counts))

pub peel_rest-requires-clause-queued : goal.peel_rest-requires-clause-queued
peel_rest-requires-clause-queued g c =
    let queue = rw c.as_slice.ensures at c.in_ok-queue.ensures in
    rw (c.as_slice-then-len-left-2.ensures.value, queue, c.as_slice-then-len-left.ensures) (λ v h. let f = few_in c.args.ends.now c.args.left.now c.args.level v h in (c.requires.left v f.0, f.1))

pub peel_rest-requires-clause-all : goal.peel_rest-requires-clause-all
peel_rest-requires-clause-all g c =
    let queue = rw c.as_slice.ensures at c.in_ok-queue.ensures in
    let same : length (filter (λ u. nat_le (slice_index c.args.ends.now u) c.args.level) c.args.left.now) ≡ length c.args.left.now
    = omega (arith, ap length queue, c.len.ensures, c.if-len-left.true) in
    rw (c.as_slice-then-len-left-2.ensures.value, queue) (λ v h. few_all c.args.ends.now c.args.left.now c.args.level v same (c.requires.has v h))

pub returns-then-len-left-clause-gone : goal.returns-then-len-left-clause-gone
returns-then-len-left-clause-gone g c =
    let queue = rw c.as_slice.ensures at c.in_ok-queue.ensures in
    let gone = rw (c.as_slice-then-len-left-2.ensures.value, queue) at c.peel_rest.ensures.gone in
    λ v found few. gone v (few_has c.args.ends.now c.args.left.now c.args.level v found few)

pub peel_queue-requires-clause-queued : goal.peel_queue-requires-clause-queued
peel_queue-requires-clause-queued g c κs within =
    let queue = rw c.as_slice.ensures at c.in_ok-queue.ensures in
    rw queue (λ v h. let f = few_in c.args.ends.now c.args.left.now c.args.level v h in (c.requires.left v f.0, f.1))

pub returns-clause-gone : goal.returns-clause-gone
returns-clause-gone g c =
    let queue = rw c.as_slice.ensures at c.in_ok-queue.ensures in
    let gone = rw queue at c.peel_queue.ensures.gone in
    on_ok c.peel_queue.result gone (λ h v found few. h v (few_has c.args.ends.now c.args.left.now c.args.level v found few))
