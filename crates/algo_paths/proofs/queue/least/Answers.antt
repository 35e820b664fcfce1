use Rattle.std.proofs.Common.{ℕ, inl, inr, arith, get_or}
use Rattle.std.proofs.lemmas.Bool.{cases_lt}
use Rattle.std.proofs.lemmas.List.Elements.{Contains-get_or}
use Rattle.algo_paths.proofs.queue.least.Goals as goal

pub loop-entry-preserved : goal.loop-entry-preserved
loop-entry-preserved c =
    let m = c.min-least.ensures in
    let inv = c.loop-entry.invariant in
    let x : ℕ × ℕ = get_or c.args.bucket.now c.loop-entry.entry-index (0, 0) in
    elim (cases_lt c.loop-entry.least x.0) [
      | inl lt ↦ (inv.0, inv.1, omega (arith, m, lt, inv.2))
      | inr ge ↦ (x, Contains-get_or c.args.bucket.now c.loop-entry.entry-index (0, 0) c.loop-entry-test.true, omega (arith, m, ge))
    ]
