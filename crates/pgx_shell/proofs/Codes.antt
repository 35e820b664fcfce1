-- Only a call that is done has the status 0.
use Rattle.std.proofs.Common.{◌≡◌, ◌≢◌, ◌⊎◌, ℕ, List, inl, inr, sym, ap, arith, ◌∙◌}
use Rattle.pgx_io.specs.Seen.{SinkSeen}
use Rattle.pgx_shell.specs.Ending.{Ending, usage, stopped, WritesOrFails, LineTold, StopTold, error_line, stop_status, ending_text, ending_status}
use Rattle.pgx_shell.specs.declared.stop.Stop.{Stop}
use Rattle.pgx_shell.specs.declared.stop.Stop.TheVariants.{TooLong, BadLine, NoFile, BadConfig, BadTable, ReadFault, WriteFault, NoMemory}

module _ (old new : SinkSeen) where
  told_not_zero : (text : List ℕ) (status code : ℕ) → status ≢ 0 → WritesOrFails old new text status code → code ≢ 0
  told_not_zero text status code other (inl p) zero = other (sym p.0 ∙ zero)
  told_not_zero text status code other (inr p) zero = let is = p.0 in omega (arith, is, zero)

  -- the words are no form
  pub usage_not_done : (place : ℕ) (ending : Ending) → (ending ≡ usage place) ⊎ (ending ≡ stopped NoMemory) → (code : ℕ)
      → WritesOrFails old new (ending_text ending) (ending_status ending) code → code ≢ 0
  usage_not_done place ending (inl is) code told =
      told_not_zero (ending_text ending) (ending_status ending) code (let status : ending_status ending ≡ 2 = ap ending_status is in omega (arith, status)) told
  usage_not_done place ending (inr is) code told =
      told_not_zero (ending_text ending) (ending_status ending) code (let status : ending_status ending ≡ 5 = ap ending_status is in omega (arith, status)) told

  line_not_done : (stop : Stop) (code : ℕ) → stop_status stop ≢ 0 → LineTold old new stop code → code ≢ 0
  line_not_done stop code other (inl told) = told_not_zero (error_line stop) (stop_status stop) code other told
  line_not_done stop code other (inr told) = told_not_zero (error_line NoMemory) (stop_status NoMemory) code (omega arith) told

  -- a call stopped
  pub stop_not_done : (stop : Stop) (code : ℕ) → StopTold old new stop code → code ≢ 0
  stop_not_done TooLong code told = line_not_done TooLong code (omega arith) told
  stop_not_done (BadLine line why) code told = line_not_done (BadLine line why) code (omega arith) told
  stop_not_done (NoFile name) code told = line_not_done (NoFile name) code (omega arith) told
  stop_not_done (BadConfig file fault) code told = line_not_done (BadConfig file fault) code (omega arith) told
  stop_not_done (BadTable file row number) code told = line_not_done (BadTable file row number) code (omega arith) told
  stop_not_done ReadFault code told = line_not_done ReadFault code (omega arith) told
  stop_not_done WriteFault code told = λ zero. let is = told.0 in omega (arith, is, zero)
  stop_not_done NoMemory code told = line_not_done NoMemory code (omega arith) told
