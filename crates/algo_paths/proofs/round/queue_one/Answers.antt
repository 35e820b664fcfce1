use Rattle.std.proofs.Common.{ℕ, inl, inr, ap, arith}
use Rattle.algo_paths.proofs.round.queue_one.Goals as goal

pub returns-clause-better : goal.returns-clause-better
returns-clause-better c = λ less. c.in_ok-push.ensures.put

pub returns-clause-stays : goal.returns-clause-stays
returns-clause-stays c = λ x h. c.in_ok-push.ensures.stays x h

pub returns-clause-queued : goal.returns-clause-queued
returns-clause-queued c = λ x h.
    elim (c.in_ok-push.ensures.queued x h) [
      | inl old ↦ inl old
      | inr e ↦ inr (ap (λ (y : ℕ × ℕ). y.1) e)
    ]

pub returns-clause-work : goal.returns-clause-work
returns-clause-work c = omega (arith, c.in_ok-push.ensures.long)
