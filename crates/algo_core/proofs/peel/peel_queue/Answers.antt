use Rattle.std.proofs.Common.{inl, inr}
use Rattle.algo_core.specs.Peeling.{core_of}
use Rattle.algo_core.proofs.Peels.{numbered_on}
use Rattle.algo_core.proofs.peel.peel_queue.Goals as goal

pub queue-preserved : goal.queue-preserved
queue-preserved g c =
    let inv = c.queue.invariant in
    let e = c.in_ok-peel_some.ensures in
    record {
      peeling = e.peeling;
      queued = e.queued;
      kept = λ w k h. e.kept w k (inv.kept w k h);
      done = λ w h.
          elim (inv.done w h) [
            | inl waits ↦ e.done w waits
            | inr had ↦ inr (numbered_on (core_of c.queue.cores w) (core_of c.peel_some.new.cores w) (e.kept w) had)
          ];
    }
