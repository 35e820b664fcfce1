use Rattle.std.proofs.Common.{◌<◌, ap, arith, slice_index}
use Rattle.algo_paths.proofs.Relaxing.{offer_taken}
use Rattle.algo_paths.proofs.relax.offer.Goals as goal

pub returns : goal.returns
returns c =
    let less : c.args.weight < slice_index c.args.best.now c.args.w = omega (arith, ap (λ xs. slice_index xs c.args.w) c.as_slice.ensures) in
    rw c.set.ensures (offer_taken c.args.w c.args.weight c.args.best.now c.args.queue.now c.push.new.self c.requires less c.in_ok-push.ensures)
