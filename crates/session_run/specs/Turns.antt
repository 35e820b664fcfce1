-- One actor's turns: what each of them leaves. Other actors may call in between.
use Rattle.std.specs.Prelude.{◌≡◌, ◌⊎◌, ℕ, ◌+◌, ◌-◌, map, List, [], ◌∷◌, ◌++◌, Option, Some, None, Result, Ok, Err, length, slice_get}
use Rattle.column_types.specs.declared.fault.NoMemory.{NoMemory}
use Rattle.turn_hall.specs.declared.entry.Entry.{Entry}
use Rattle.turn_hall.specs.Replay.{entry, entries_of}
use Rattle.actor_records.specs.declared.record.Did.TheVariants.{Local, Starved}
use Rattle.actor_records.specs.Records.{core_record}
use Rattle.actor_records.specs.Agreement.{Stand, AgreesWith}
use Rattle.catalogue_state.specs.Bound.{data_of}
use Rattle.catalogue_state.specs.declared.ask.Ask.{Ask}
use Rattle.catalogue_state.specs.declared.reply.Reply.{Reply}
use Rattle.catalogue_state.specs.declared.parts.SourceData.{SourceData}
use Rattle.catalogue_hall.specs.declared.held.Named.{Named}
use Rattle.catalogue_hall.specs.History.{History, held_by}
use Rattle.journal_text.specs.Asks.{ask_text}
use Rattle.script_read.specs.declared.script.Command.{Command}
use Rattle.session_run.specs.declared.place.Place.{Place}
use Rattle.session_run.specs.declared.actor.Actor.{Actor}
use Rattle.session_run.specs.Record.{ActorDid, ActorRecord}
use Rattle.session_run.specs.declared.record.LocalReply.{LocalReply}
use Rattle.session_run.specs.Own.{OwnPart, own_told, own_local}
use Rattle.session_run.specs.Language.{ActorMind, rules}

-- ---- where the next record stands

-- behind a record: after its number, or one further behind the same number
abbrev pub behind : Option ℕ → ℕ → ℕ → Place
behind (Some number) after index = record { after = number; index = 0 }
behind None after index = record { after = after; index = index }

abbrev pub behind_last : Option ActorRecord → Place
behind_last None = record { after = 0; index = 0 }
behind_last (Some r) = behind r.number r.after r.index

-- behind the last of an actor's records
abbrev pub place_after : List ActorRecord → Place
place_after records = behind_last (slice_get records (length records - 1))

-- ---- an actor at work

-- the history of all calls, what the actor holds, its own part, where its next record stands, and its records
pub record Work : Type 0 where
  pub history : History
  pub held : List Named
  pub own : OwnPart
  pub place : Place
  pub records : List ActorRecord

abbrev pub work : History → List Named → OwnPart → Place → List ActorRecord → Work
work history held own place records = record { history = history; held = held; own = own; place = place; records = records }

-- the history with calls of others, and then one more call
abbrev pub longer : History → List (Entry Ask Reply) → ℕ → Ask → Reply → History
longer history between who ask reply = record history { book = (history.book ++ between) ++ entry who ask reply ∷ [] }

-- between two commands the place is that behind the last record
abbrev pub worked : History → List Named → OwnPart → List ActorRecord → Work
worked history held own records = work history held own (place_after records) records

-- an actor at work on a catalogue with this history: its next record stands at this place, or behind its last record
abbrev pub at_place : History → Place → Actor → Work
at_place history place actor = work history actor.held actor.own place actor.records

abbrev pub at_work : History → Actor → Work
at_work history actor = worked history actor.held actor.own actor.records

-- the sources of the run
abbrev pub sources_of : Work → List SourceData
sources_of w = map data_of w.history.start.sources

-- after a core call with this reply, which came behind these calls of others
abbrev pub answered : Work → List (Entry Ask Reply) → ℕ → Ask → Reply → Work
answered w between who ask reply = record {
  history = longer w.history between who ask reply;
  held = held_by (longer w.history between who ask reply) who;
  own = own_told w.own ask reply;
  place = record { after = length (w.history.book ++ between) + 1; index = 0 };
  records = w.records ++ core_record (length (w.history.book ++ between) + 1) (entry who ask reply) ∷ [];
}

-- a record that is no core record, at the place of the next
abbrev pub record_at : Place → ℕ → ActorDid → ActorRecord
record_at place who did = record { number = None; after = place.after; index = place.index + 1; who = who; did = did }

abbrev pub next_place : Place → Place
next_place place = record { after = place.after; index = place.index + 1 }

-- after a call that found no memory, whose head this is
abbrev pub starved : Work → ℕ → List ℕ → Work
starved w who head = record w {
  place = next_place w.place;
  records = w.records ++ record_at w.place who (Starved head) ∷ [];
}

-- after a local command with this reply, which left this own part
abbrev pub done_locally : Work → ℕ → Command → LocalReply → OwnPart → Work
done_locally w who command reply own = record w {
  own = own;
  place = next_place w.place;
  records = w.records ++ record_at w.place who (Local command reply) ∷ [];
}

-- what became of a local command: its reply, or that it found no memory
abbrev pub did_locally : Command → Result LocalReply NoMemory → ActorDid
did_locally command (Ok reply) = Local command reply
did_locally command (Err e) = Starved command.line

-- a core call ended: with a reply, behind calls of others alone, or because memory ran out
abbrev pub CallEnds : Work → ℕ → Ask → Option Reply → Work → Type 0
CallEnds w who ask (Some reply) v = (between : List (Entry Ask Reply)) × (entries_of who between ≡ []) × (v ≡ answered w between who ask reply)
CallEnds w who ask None v = v ≡ starved w who (ask_text ask)

-- a core call stopped because memory ran out: before it was made, or behind it and its record
abbrev pub CallStops : Work → ℕ → Ask → Work → Type 0
CallStops w who ask v = (v ≡ w) ⊎ ((reply : Reply) × CallEnds w who ask (Some reply) v)

-- a local command ended: with the reply that is due, or because memory ran out
abbrev pub LocalEnds : Work → ℕ → Command → Work → Type 0
LocalEnds w who command v =
    let due = own_local (sources_of w) w.own w.held command in
    (v ≡ done_locally w who command due.0 due.1) ⊎ (v ≡ starved w who command.line)

-- ---- what an actor's work does to its records

-- where the actor stands, with this in mind
abbrev pub stand : Work → ActorMind → Stand ActorMind (List Named)
stand w mind = record { after = w.place.after; index = w.place.index; held = w.held; mind = mind }

-- the records agree with the history: they lead from the first mind to this one
abbrev pub Stands : List SourceData → (ℕ → ℕ) → ActorMind → ℕ → Work → ActorMind → Type 0
Stands sources ends first who w mind = AgreesWith (rules sources ends) w.history.start first who w.history.book w.records (stand w mind)
