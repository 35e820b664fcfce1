use Rattle.algo_paths.proofs.Relaxing.{progress_round}
use Rattle.algo_paths.proofs.round.wide_wave.Goals as goal

pub returns : goal.returns
returns g c = λ wave.
    let each = rw c.as_slice.ensures at c.in_ok-next.ensures.each in
    let q = c.in_ok-queue_better.ensures in
    let better = rw (c.as_slice-2.ensures, c.as_slice-3.ensures) at q.better in
    let queued = rw c.vertex_count.ensures.count at q.queued in
    let work = rw (c.as_slice-2.ensures, c.as_slice-3.ensures) at q.work in
    progress_round c.args.digraph.now c.args.weights.now wave c.args.best.now c.in_ok-next.next c.args.queue.now c.queue_better.new.queue
    c.requires.long c.in_ok-next.ensures.len each c.vertex_count.ensures.closed better queued work
