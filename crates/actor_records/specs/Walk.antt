-- The walk that makes one list of the records of all actors.
use Rattle.std.specs.Prelude.{ℕ, List, [], ◌∷◌, ◌++◌, is_none, if◌then◌else◌}
use Rattle.std.specs.List.{flat_map}
use Rattle.turn_hall.specs.declared.entry.Entry.{Entry}
use Rattle.actor_records.specs.declared.record.Record.{Record}
use Rattle.actor_records.specs.Records.{updated, parts_of}

module _ {N R C A T : Type 0} where
  -- the records before the first core record, and those from there on
  abbrev pub locals : List (Record N R C A T) → List (Record N R C A T)
  locals [] = []
  locals (r ∷ rs) = if is_none r.number then (r ∷ locals rs) else []

  abbrev pub behind : List (Record N R C A T) → List (Record N R C A T)
  behind [] = []
  behind (r ∷ rs) = if is_none r.number then behind rs else (r ∷ rs)

  -- the first record with those up to the next core record, and those from there on
  abbrev pub block : List (Record N R C A T) → List (Record N R C A T)
  block [] = []
  block (r ∷ rs) = r ∷ locals rs

  abbrev pub behind_block : List (Record N R C A T) → List (Record N R C A T)
  behind_block [] = []
  behind_block (r ∷ rs) = behind rs

  -- for each entry of the history the next block of its actor, taken from what each actor has left
  abbrev pub walk_from : List (Entry N R) → (ℕ → List (Record N R C A T)) → List (Record N R C A T)
  walk_from [] left = []
  walk_from (e ∷ es) left = block (left e.who) ++ walk_from es (updated left e.who (behind_block (left e.who)))

  -- first what the actors did before their first core records, by actors; then block by block
  abbrev pub walk : List (Entry N R) → List (List (Record N R C A T)) → List (Record N R C A T)
  walk history records = flat_map locals records ++ walk_from history (λ who. behind (parts_of records who))
