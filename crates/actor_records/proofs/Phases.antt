-- Each core number of a phase is less than each core number of a later phase.
use Rattle.std.proofs.Common.{ℕ, ◌+◌, ◌<◌, ◌≤◌, arith}
use Rattle.std.specs.Prelude.{IsTrue}
use Rattle.actor_records.specs.declared.record.Did.{Did}
use Rattle.actor_records.specs.declared.record.Did.TheVariants.{Core, Local, Starved}
use Rattle.actor_records.specs.Records.{is_core}
use Rattle.actor_records.specs.Calls.{InPhase}

module _ {N R C A T : Type 0} where
  -- the numbers between which a core record of a phase lies
  bounds : (ends : ℕ → ℕ) (p n : ℕ) (did : Did N R C A T) → IsTrue (is_core did) → InPhase ends p n did → (ends p < n) × (n ≤ ends (p + 1))
  bounds ends p n (Core note reply) core h = h
  bounds ends p n (Local command reply) core h = absurd cc
  bounds ends p n (Starved head) core h = absurd cc

  pub phases_apart : (ends : ℕ → ℕ) → ((p q : ℕ) → p ≤ q → ends p ≤ ends q) → (p q n k : ℕ) (did other : Did N R C A T) → p < q
      → IsTrue (is_core did) → IsTrue (is_core other) → InPhase ends p n did → InPhase ends q k other → n < k
  phases_apart ends rise p q n k did other later core core' one two =
      let up = rise (p + 1) q (omega arith) in
      let low = bounds ends p n did core one in
      let high = bounds ends q k other core' two in
      let top = low.1 in let bottom = high.0 in omega arith
