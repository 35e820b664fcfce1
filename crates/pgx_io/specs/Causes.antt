-- When a call on an object of the outside may fail.
use Rattle.std.specs.Prelude.{◌+◌, ◌-◌, ◌^◌, ◌≤◌, ℕ, min, Result, OnErr}

-- a count of faults rose in a call, or stands at the last value of a u64
abbrev pub FaultCountRose : ℕ → ℕ → Type 0
FaultCountRose before now = min (before + 1) (2 ^ 64 - 1) ≤ now

-- the count did not fall, and the call failed only where it rose
pub record HasCause {T E : Type 0} (before now : ℕ) (result : Result T E) : Type 0 where
  pub later : before ≤ now
  pub failed : OnErr result (FaultCountRose before now)
