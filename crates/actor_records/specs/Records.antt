-- Records: where they stand, whose they are, and which entries of a history they are.
use Rattle.std.specs.Prelude.{ℕ, zero, suc, ◌==◌, Bool, true, false, List, [], Option, Some, None, filter, slice_index_or, unwrap_or, if◌then◌else◌}
use Rattle.std.specs.List.{filter_map}
use Rattle.turn_hall.specs.declared.entry.Entry.{Entry}
use Rattle.turn_hall.specs.Replay.{entry}
use Rattle.actor_records.specs.declared.record.Record.{Record}
use Rattle.actor_records.specs.declared.record.Did.{Did}
use Rattle.actor_records.specs.declared.record.Did.TheVariants.{Core, Local, Starved}

-- the same function, but for the value at one number
abbrev pub updated : {X : Type 0} → (ℕ → X) → ℕ → X → ℕ → X
updated f k x w = if k == w then x else f w

module _ {N R C A T : Type 0} where
  -- the core record of the entry at a place of the history, counted from 1
  abbrev pub core_record : ℕ → Entry N R → Record N R C A T
  core_record n e = record { number = Some n; after = 0; index = 0; who = e.who; did = Core e.note e.reply }

  -- the core number at which a record stands
  abbrev pub place : Record N R C A T → ℕ
  place r = unwrap_or r.number r.after

  abbrev pub is_core : Did N R C A T → Bool
  is_core (Core note reply) = true
  is_core (Local command reply) = false
  is_core (Starved head) = false

  -- the entry of a core record
  abbrev pub entry_of : ℕ → Did N R C A T → Option (Entry N R)
  entry_of who (Core note reply) = Some (entry who note reply)
  entry_of who (Local command reply) = None
  entry_of who (Starved head) = None

  -- the entries of the core records, in order
  abbrev pub book_of : List (Record N R C A T) → List (Entry N R)
  book_of records = filter_map (λ r. entry_of r.who r.did) records

  -- the numbers that records have, in order
  abbrev pub numbers : List (Record N R C A T) → List ℕ
  numbers records = filter_map (λ r. r.number) records

  -- the records of one actor, in order
  abbrev pub of_who : ℕ → List (Record N R C A T) → List (Record N R C A T)
  of_who who records = filter (λ r. r.who == who) records

  -- what each actor did, where the first list is that of actor 1; nobody has the number 0
  abbrev pub parts_of : List (List (Record N R C A T)) → ℕ → List (Record N R C A T)
  parts_of records zero = []
  parts_of records (suc k) = slice_index_or records k []
