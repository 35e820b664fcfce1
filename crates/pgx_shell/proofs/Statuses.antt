-- What each status of the program says, from how its call ended.
use Rattle.std.proofs.Common.{◌≡◌, ◌≢◌, ◌⊎◌, ℕ, List, Result, Option, Some, None, Ok, Err, IsOk, IsSome, IsSomeAnd, IfSome, refl, sym, ap, inl, inr, arith, ◌∙◌}
use Rattle.std.proofs.lemmas.Bool.{false≢true}
use Rattle.std.specs.Io.KnownBytes.{Appends}
use Rattle.pgx_io.specs.Files.{Files}
use Rattle.pgx_io.specs.ReadWrite.{AppendsFront}
use Rattle.pgx_shell.specs.Expected.{expected_run, expected_script, IsExpectedStop}
use Rattle.pgx_shell.specs.Texts.{Outcome, ActionOutcome}
use Rattle.pgx_shell.specs.Words.{form_of}
use Rattle.pgx_shell.specs.Ending.{Ending, usage, done, stopped, EndingCause, EndsWell, WritesOrFails, stop_status, ending_text, ending_status}
use Rattle.pgx_shell.specs.Outside.{Outside, ReadFailed, WriteFailed}
use Rattle.pgx_shell.specs.Statuses.{DidAll, SaidUsage, SaidScript, SaidSource, WroteFront, IfAccepted, IfRefused}
use Rattle.pgx_shell.specs.declared.words.Action.{Action}
use Rattle.pgx_shell.specs.declared.words.Action.TheVariants.{Once, Check}
use Rattle.pgx_shell.specs.declared.stop.Stop.{Stop}
use Rattle.pgx_shell.specs.declared.stop.Stop.TheVariants.{TooLong, BadLine, NoFile, BadConfig, BadTable, ReadFault, WriteFault, NoMemory}

-- the script brings this stop, or its sources do
abbrev Denies : Option (List ℕ) → Option Files → Stop → Type 0
Denies rest known_files stop = IfSome rest (λ bytes. expected_script bytes ≡ Err stop) ⊎ IsExpectedStop rest known_files stop

-- source and library tell what is accepted, or what brings this stop
abbrev AcceptsOf : Option (List ℕ) → Option Files → Type 0
AcceptsOf rest known_files = IsSomeAnd rest (λ bytes. IsSomeAnd known_files (λ files. IsOk (expected_run bytes files)))

abbrev RefusesOf : Option (List ℕ) → Option Files → Stop → Type 0
RefusesOf rest known_files stop = IsSomeAnd rest (λ bytes. (expected_script bytes ≡ Err stop) ⊎ IsSomeAnd known_files (λ files. expected_run bytes files ≡ Err stop))

-- an answer is not Ok and Err
not_both : {A : Type 0} (r : Result A Stop) (x : A) (stop : Stop) → r ≡ Ok x → r ≡ Err stop → ⊥
not_both r x stop ok err = cc

not_ok : {A : Type 0} (r : Result A Stop) (stop : Stop) → IsOk r → r ≡ Err stop → ⊥
not_ok r stop ok err = false≢true (rw err at ok)

one_err : {A : Type 0} (r : Result A Stop) (said stop : Stop) → r ≡ Err said → r ≡ Err stop → said ≡ stop
one_err r said stop first second = cc

-- what is expected of a script that brings a stop
script_stops : (bytes : List ℕ) (files : Files) (stop : Stop) → expected_script bytes ≡ Err stop → expected_run bytes files ≡ Err stop
script_stops bytes files stop h = rw h refl

-- what is refused is not accepted
not_accepted : (rest : Option (List ℕ)) (known_files : Option Files) (stop : Stop) → Denies rest known_files stop → AcceptsOf rest known_files → ⊥
not_accepted None known_files stop h ok = ok
not_accepted (Some bytes) None stop h ok = ok
not_accepted (Some bytes) (Some files) stop (inl h) ok = not_ok (expected_run bytes files) stop ok (script_stops bytes files stop h)
not_accepted (Some bytes) (Some files) stop (inr h) ok = not_ok (expected_run bytes files) stop ok h.stops

-- an expected stop is the one
same_stop : (rest : Option (List ℕ)) (known_files : Option Files) (said stop : Stop) → Denies rest known_files said → RefusesOf rest known_files stop → said ≡ stop
same_stop None known_files said stop h r = absurd r
same_stop (Some bytes) known_files said stop (inl h) (inl r) = one_err (expected_script bytes) said stop h r
same_stop (Some bytes) None said stop (inl h) (inr r) = absurd r
same_stop (Some bytes) (Some files) said stop (inl h) (inr r) = one_err (expected_run bytes files) said stop (script_stops bytes files said h) r
same_stop (Some bytes) known_files said stop (inr h) (inl r) = absurd (not_ok (expected_script bytes) stop h.script r)
same_stop (Some bytes) None said stop (inr h) (inr r) = absurd r
same_stop (Some bytes) (Some files) said stop (inr h) (inr r) = one_err (expected_run bytes files) said stop h.stops r

-- and then nothing is done
not_done : (action : Action) (rest : Option (List ℕ)) (known_files : Option Files) (outcome : Outcome) (stop : Stop) → ActionOutcome action rest known_files outcome → RefusesOf rest known_files stop → ⊥
not_done action None known_files outcome stop h r = r
not_done Once (Some bytes) known_files outcome stop h (inl r) = not_both (expected_script bytes) h.run.script stop h.expected.script r
not_done Once (Some bytes) None outcome stop h (inr r) = r
not_done Once (Some bytes) (Some files) outcome stop h (inr r) = not_both (expected_run bytes files) h.run stop h.expected.sources r
not_done Check (Some bytes) known_files outcome stop h (inl r) = not_both (expected_script bytes) h.script stop h.reads r
not_done Check (Some bytes) None outcome stop h (inr r) = r
not_done Check (Some bytes) (Some files) outcome stop h (inr r) = not_ok (expected_run bytes files) stop h.opens r

some_and : {A : Type 0} (o : Option A) (P Q : A → Type 0) → ((a : A) → P a → Q a) → IsSomeAnd o P → IsSomeAnd o Q
some_and None P Q f h = h
some_and (Some a) P Q f h = f a h

some_not : {A : Type 0} (o : Option A) (P : A → Type 0) → ((a : A) → P a → ⊥) → IsSomeAnd o P → ⊥
some_not None P f h = h
some_not (Some a) P f h = f a h

module _ (words : List (List ℕ)) (before after : Outside) (code : ℕ) where
  abbrev rest : Option (List ℕ)
  rest = before.source.rest

  abbrev known_files : Option Files
  known_files = before.library.files

  abbrev Told : Ending → Type 0
  Told ending = WritesOrFails before.sink after.sink (ending_text ending) (ending_status ending) code

  -- another status than 7 has its text whole
  whole_at : (k : ℕ) → k ≢ 7 → (ending : Ending) → Told ending → code ≡ k → (ending_status ending ≡ k) × Appends before.sink.taken after.sink.taken (ending_text ending)
  whole_at k other ending (inl p) e = (sym p.0 ∙ e, p.1)
  whole_at k other ending (inr p) e = absurd (other (sym e ∙ p.0))

  -- another status than the ending's
  unlike : (k : ℕ) → k ≢ 7 → (ending : Ending) → Told ending → code ≡ k → ending_status ending ≢ k → ⊥
  unlike k other ending tells e differs = differs (whole_at k other ending tells e).0

  row_done : (ending : Ending) → EndingCause words before after ending → Told ending → code ≡ 0 → DidAll words before after
  row_done (usage place) cause tells e = absurd (unlike 0 (omega arith) (usage place) tells e (omega arith))
  row_done (done outcome) cause tells e = some_and (form_of words) _ _ (λ action due. (outcome, due, (whole_at 0 (omega arith) (done outcome) tells e).1)) cause
  row_done (stopped TooLong) cause tells e = absurd (unlike 0 (omega arith) (stopped TooLong) tells e (omega arith))
  row_done (stopped (BadLine line why)) cause tells e = absurd (unlike 0 (omega arith) (stopped (BadLine line why)) tells e (omega arith))
  row_done (stopped (NoFile name)) cause tells e = absurd (unlike 0 (omega arith) (stopped (NoFile name)) tells e (omega arith))
  row_done (stopped (BadConfig file fault)) cause tells e = absurd (unlike 0 (omega arith) (stopped (BadConfig file fault)) tells e (omega arith))
  row_done (stopped (BadTable file row number)) cause tells e = absurd (unlike 0 (omega arith) (stopped (BadTable file row number)) tells e (omega arith))
  row_done (stopped ReadFault) cause tells e = absurd (unlike 0 (omega arith) (stopped ReadFault) tells e (omega arith))
  row_done (stopped WriteFault) cause tells e = absurd cause.1
  row_done (stopped NoMemory) cause tells e = absurd (unlike 0 (omega arith) (stopped NoMemory) tells e (omega arith))

  row_usage : (ending : Ending) → EndingCause words before after ending → Told ending → code ≡ 2 → SaidUsage words before after
  row_usage (usage place) cause tells e = (cause.0, (place, cause.1, (whole_at 2 (omega arith) (usage place) tells e).1))
  row_usage (done outcome) cause tells e = absurd (unlike 2 (omega arith) (done outcome) tells e (omega arith))
  row_usage (stopped TooLong) cause tells e = absurd (unlike 2 (omega arith) (stopped TooLong) tells e (omega arith))
  row_usage (stopped (BadLine line why)) cause tells e = absurd (unlike 2 (omega arith) (stopped (BadLine line why)) tells e (omega arith))
  row_usage (stopped (NoFile name)) cause tells e = absurd (unlike 2 (omega arith) (stopped (NoFile name)) tells e (omega arith))
  row_usage (stopped (BadConfig file fault)) cause tells e = absurd (unlike 2 (omega arith) (stopped (BadConfig file fault)) tells e (omega arith))
  row_usage (stopped (BadTable file row number)) cause tells e = absurd (unlike 2 (omega arith) (stopped (BadTable file row number)) tells e (omega arith))
  row_usage (stopped ReadFault) cause tells e = absurd (unlike 2 (omega arith) (stopped ReadFault) tells e (omega arith))
  row_usage (stopped WriteFault) cause tells e = absurd cause.1
  row_usage (stopped NoMemory) cause tells e = absurd (unlike 2 (omega arith) (stopped NoMemory) tells e (omega arith))

  row_script : (ending : Ending) → EndingCause words before after ending → Told ending → code ≡ 3 → SaidScript before after
  row_script (usage place) cause tells e = absurd (unlike 3 (omega arith) (usage place) tells e (omega arith))
  row_script (done outcome) cause tells e = absurd (unlike 3 (omega arith) (done outcome) tells e (omega arith))
  row_script (stopped TooLong) cause tells e = inl (cause.1, (whole_at 3 (omega arith) (stopped TooLong) tells e).1)
  row_script (stopped (BadLine line why)) cause tells e = inr (line, why, (cause.1, (whole_at 3 (omega arith) (stopped (BadLine line why)) tells e).1))
  row_script (stopped (NoFile name)) cause tells e = absurd (unlike 3 (omega arith) (stopped (NoFile name)) tells e (omega arith))
  row_script (stopped (BadConfig file fault)) cause tells e = absurd (unlike 3 (omega arith) (stopped (BadConfig file fault)) tells e (omega arith))
  row_script (stopped (BadTable file row number)) cause tells e = absurd (unlike 3 (omega arith) (stopped (BadTable file row number)) tells e (omega arith))
  row_script (stopped ReadFault) cause tells e = absurd (unlike 3 (omega arith) (stopped ReadFault) tells e (omega arith))
  row_script (stopped WriteFault) cause tells e = absurd cause.1
  row_script (stopped NoMemory) cause tells e = absurd (unlike 3 (omega arith) (stopped NoMemory) tells e (omega arith))

  row_source : (ending : Ending) → EndingCause words before after ending → Told ending → code ≡ 4 → SaidSource before after
  row_source (usage place) cause tells e = absurd (unlike 4 (omega arith) (usage place) tells e (omega arith))
  row_source (done outcome) cause tells e = absurd (unlike 4 (omega arith) (done outcome) tells e (omega arith))
  row_source (stopped TooLong) cause tells e = absurd (unlike 4 (omega arith) (stopped TooLong) tells e (omega arith))
  row_source (stopped (BadLine line why)) cause tells e = absurd (unlike 4 (omega arith) (stopped (BadLine line why)) tells e (omega arith))
  row_source (stopped (NoFile name)) cause tells e = inl (name, (cause.1, (whole_at 4 (omega arith) (stopped (NoFile name)) tells e).1))
  row_source (stopped (BadConfig file fault)) cause tells e = inr (inl (file, fault, (cause.1, (whole_at 4 (omega arith) (stopped (BadConfig file fault)) tells e).1)))
  row_source (stopped (BadTable file row number)) cause tells e = inr (inr (file, row, number, (cause.1, (whole_at 4 (omega arith) (stopped (BadTable file row number)) tells e).1)))
  row_source (stopped ReadFault) cause tells e = absurd (unlike 4 (omega arith) (stopped ReadFault) tells e (omega arith))
  row_source (stopped WriteFault) cause tells e = absurd cause.1
  row_source (stopped NoMemory) cause tells e = absurd (unlike 4 (omega arith) (stopped NoMemory) tells e (omega arith))

  row_read : (ending : Ending) → EndingCause words before after ending → Told ending → code ≡ 6 → ReadFailed before after
  row_read (usage place) cause tells e = absurd (unlike 6 (omega arith) (usage place) tells e (omega arith))
  row_read (done outcome) cause tells e = absurd (unlike 6 (omega arith) (done outcome) tells e (omega arith))
  row_read (stopped TooLong) cause tells e = absurd (unlike 6 (omega arith) (stopped TooLong) tells e (omega arith))
  row_read (stopped (BadLine line why)) cause tells e = absurd (unlike 6 (omega arith) (stopped (BadLine line why)) tells e (omega arith))
  row_read (stopped (NoFile name)) cause tells e = absurd (unlike 6 (omega arith) (stopped (NoFile name)) tells e (omega arith))
  row_read (stopped (BadConfig file fault)) cause tells e = absurd (unlike 6 (omega arith) (stopped (BadConfig file fault)) tells e (omega arith))
  row_read (stopped (BadTable file row number)) cause tells e = absurd (unlike 6 (omega arith) (stopped (BadTable file row number)) tells e (omega arith))
  row_read (stopped ReadFault) cause tells e = cause.1
  row_read (stopped WriteFault) cause tells e = absurd cause.1
  row_read (stopped NoMemory) cause tells e = absurd (unlike 6 (omega arith) (stopped NoMemory) tells e (omega arith))

  -- 7 is a fault of the sink, behind a prefix of what was due
  front_of : (ending : Ending) → ending_status ending ≢ 7 → Told ending → code ≡ 7 → WriteFailed before after × AppendsFront before.sink.taken after.sink.taken (ending_text ending)
  front_of ending other (inl p) e = absurd (other (sym p.0 ∙ e))
  front_of ending other (inr p) e = (p.1, p.2)

  front : (ending : Ending) → ending_status ending ≢ 7 → EndingCause words before after ending → Told ending → code ≡ 7 → WriteFailed before after × WroteFront words before after
  front ending other cause tells e = let p = front_of ending other tells e in (p.0, (ending, cause, p.1))

  row_front : (ending : Ending) → EndingCause words before after ending → Told ending → code ≡ 7 → WriteFailed before after × WroteFront words before after
  row_front (usage place) cause tells e = front (usage place) (omega arith) cause tells e
  row_front (done outcome) cause tells e = front (done outcome) (omega arith) cause tells e
  row_front (stopped TooLong) cause tells e = front (stopped TooLong) (omega arith) cause tells e
  row_front (stopped (BadLine line why)) cause tells e = front (stopped (BadLine line why)) (omega arith) cause tells e
  row_front (stopped (NoFile name)) cause tells e = front (stopped (NoFile name)) (omega arith) cause tells e
  row_front (stopped (BadConfig file fault)) cause tells e = front (stopped (BadConfig file fault)) (omega arith) cause tells e
  row_front (stopped (BadTable file row number)) cause tells e = front (stopped (BadTable file row number)) (omega arith) cause tells e
  row_front (stopped ReadFault) cause tells e = front (stopped ReadFault) (omega arith) cause tells e
  row_front (stopped WriteFault) cause tells e = absurd cause.1
  row_front (stopped NoMemory) cause tells e = front (stopped NoMemory) (omega arith) cause tells e

  -- without a fault of the sink the status is the ending's
  no_front : (ending : Ending) → (WriteFailed before after → ⊥) → Told ending → code ≡ ending_status ending
  no_front ending sure (inl p) = p.0
  no_front ending sure (inr p) = absurd (sure p.1)

  -- a form whose script is accepted ends well, or without memory, where no count of faults rose
  row_complete : (ending : Ending) → EndingCause words before after ending → Told ending → IsSome (form_of words) → AcceptsOf rest known_files → (ReadFailed before after → ⊥) → (WriteFailed before after → ⊥) → (code ≡ 0) ⊎ (code ≡ 5)
  row_complete (usage place) cause tells form ok read sure = absurd (false≢true (rw cause.0 at form))
  row_complete (done outcome) cause tells form ok read sure = inl (no_front (done outcome) sure tells)
  row_complete (stopped TooLong) cause tells form ok read sure = absurd (not_accepted rest known_files TooLong (inl cause.1) ok)
  row_complete (stopped (BadLine line why)) cause tells form ok read sure = absurd (not_accepted rest known_files (BadLine line why) (inl cause.1) ok)
  row_complete (stopped (NoFile name)) cause tells form ok read sure = absurd (not_accepted rest known_files (NoFile name) (inr cause.1) ok)
  row_complete (stopped (BadConfig file fault)) cause tells form ok read sure = absurd (not_accepted rest known_files (BadConfig file fault) (inr cause.1.1) ok)
  row_complete (stopped (BadTable file row number)) cause tells form ok read sure = absurd (not_accepted rest known_files (BadTable file row number) (inr cause.1) ok)
  row_complete (stopped ReadFault) cause tells form ok read sure = absurd (read cause.1)
  row_complete (stopped WriteFault) cause tells form ok read sure = absurd cause.1
  row_complete (stopped NoMemory) cause tells form ok read sure = inr (no_front (stopped NoMemory) sure tells)

  -- a form whose script is refused says so, or that there is no memory, where no count of faults rose
  row_refused : (ending : Ending) → EndingCause words before after ending → Told ending → (stop : Stop) → IsSome (form_of words) → RefusesOf rest known_files stop → (ReadFailed before after → ⊥) → (WriteFailed before after → ⊥) → (code ≡ stop_status stop) ⊎ (code ≡ 5)
  row_refused (usage place) cause tells stop form refused read sure = absurd (false≢true (rw cause.0 at form))
  row_refused (done outcome) cause tells stop form refused read sure = absurd (some_not (form_of words) _ (λ action due. not_done action rest known_files outcome stop due refused) cause)
  row_refused (stopped TooLong) cause tells stop form refused read sure =
      inl (no_front (stopped TooLong) sure tells ∙ ap stop_status (same_stop rest known_files TooLong stop (inl cause.1) refused))
  row_refused (stopped (BadLine line why)) cause tells stop form refused read sure =
      inl (no_front (stopped (BadLine line why)) sure tells ∙ ap stop_status (same_stop rest known_files (BadLine line why) stop (inl cause.1) refused))
  row_refused (stopped (NoFile name)) cause tells stop form refused read sure =
      inl (no_front (stopped (NoFile name)) sure tells ∙ ap stop_status (same_stop rest known_files (NoFile name) stop (inr cause.1) refused))
  row_refused (stopped (BadConfig file fault)) cause tells stop form refused read sure =
      inl (no_front (stopped (BadConfig file fault)) sure tells ∙ ap stop_status (same_stop rest known_files (BadConfig file fault) stop (inr cause.1.1) refused))
  row_refused (stopped (BadTable file row number)) cause tells stop form refused read sure =
      inl (no_front (stopped (BadTable file row number)) sure tells ∙ ap stop_status (same_stop rest known_files (BadTable file row number) stop (inr cause.1) refused))
  row_refused (stopped ReadFault) cause tells stop form refused read sure = absurd (read cause.1)
  row_refused (stopped WriteFault) cause tells stop form refused read sure = absurd cause.1
  row_refused (stopped NoMemory) cause tells stop form refused read sure = inr (no_front (stopped NoMemory) sure tells)

  pub done_at : EndsWell words before after code → code ≡ 0 → DidAll words before after
  done_at e k = row_done e.0 e.1 e.2 k

  pub usage_at : EndsWell words before after code → code ≡ 2 → SaidUsage words before after
  usage_at e k = row_usage e.0 e.1 e.2 k

  pub script_at : EndsWell words before after code → code ≡ 3 → SaidScript before after
  script_at e k = row_script e.0 e.1 e.2 k

  pub source_at : EndsWell words before after code → code ≡ 4 → SaidSource before after
  source_at e k = row_source e.0 e.1 e.2 k

  pub read_at : EndsWell words before after code → code ≡ 6 → ReadFailed before after
  read_at e k = row_read e.0 e.1 e.2 k

  pub write_at : EndsWell words before after code → code ≡ 7 → WriteFailed before after × WroteFront words before after
  write_at e k = row_front e.0 e.1 e.2 k

  pub accepted : EndsWell words before after code → IfAccepted words before after code
  accepted e form ok sure = row_complete e.0 e.1 e.2 form ok sure.0 sure.1

  pub refused_at : EndsWell words before after code → IfRefused words before after code
  refused_at e stop form refused sure = row_refused e.0 e.1 e.2 stop form refused sure.0 sure.1
