-- One list of the records of all actors, and what is promised of it.
use Rattle.std.specs.Prelude.{◌≡◌, ℕ, ◌<◌, ◌≤◌, List, length, All, AllPairs, is_some}
use Rattle.std.specs.List.{range_with_len}
use Rattle.turn_hall.specs.declared.entry.Entry.{Entry}
use Rattle.turn_hall.specs.Replay.{replay, IsLegal}
use Rattle.actor_records.specs.declared.record.Record.{Record}
use Rattle.actor_records.specs.Records.{is_core, book_of, numbers, of_who, parts_of}
use Rattle.actor_records.specs.Rules.{Rules}
use Rattle.actor_records.specs.Agreement.{Stand, AgreesWith}
use Rattle.actor_records.specs.OneThread.{World, one, world_after, AllDue}
use Rattle.actor_records.specs.Order.{Before, Placed}
use Rattle.actor_records.specs.Walk.{walk}

-- the actors are numbered from 1 on
pub record IsActor (actors who : ℕ) : Type 0 where
  pub first : 0 < who
  pub last : who ≤ actors

-- all begins with a state and with what each actor has in mind, and ends where each actor has made its last call
module _ {S N R C A T M H : Type 0} (u : Rules S N R C A T M H) (start : S) (minds : ℕ → M) (Finished : M → Type 0) where
  abbrev pub opening_world : World S M
  opening_world = record { state = start; minds = minds }

  -- a proper journal of so many actors: exactly the calls that are due, numbered and in order
  pub record IsProper (actors : ℕ) (J : List (Record N R C A T)) : Type 0 where
    -- the core records are numbered from 1 without gaps, and no other record has a number
    pub numbered : numbers J ≡ range_with_len 1 (length (book_of J))
    pub marked : All (λ r. is_some r.number ≡ is_core r.did) J
    -- each actor makes its calls in their order, each once, up to the last
    pub due : AllDue u opening_world J
    pub finished : (who : ℕ) → Finished ((world_after u opening_world J).minds who)
    -- a core record tells 0 and 0, and each other record the last core record of its actor, and counts from there
    pub placed : (who : ℕ) → Placed 0 0 (of_who who J)
    pub known : All (λ r. IsActor actors r.who) J
    pub order : AllPairs Before J

  -- a proper journal with the replies of one thread, whose core records are a legal history
  pub record IsJournal (actors : ℕ) (history : List (Entry N R)) (J : List (Record N R C A T)) : Type 0 where
    pub proper : IsProper actors J
    pub replies : one u opening_world J ≡ J
    pub books : book_of J ≡ history
    pub legal : IsLegal u.step start history
    pub state : (world_after u opening_world J).state ≡ replay u.step start history

  -- what each actor did, where it agrees with one legal history and no actor has a call left
  pub record AreRecords (history : List (Entry N R)) (records : List (List (Record N R C A T))) : Type 0 where
    pub legal : IsLegal u.step start history
    pub stands : ℕ → Stand M H
    pub agrees : (who : ℕ) → AgreesWith u start (minds who) who history (parts_of records who) (stands who)
    pub finished : (who : ℕ) → Finished (stands who).mind

  -- the walk over such records is a journal, in which each actor has exactly its records
  pub record WalksToJournal (history : List (Entry N R)) (records : List (List (Record N R C A T))) : Type 0 where
    pub journal : IsJournal (length records) history (walk history records)
    pub kept : (who : ℕ) → of_who who (walk history records) ≡ parts_of records who
