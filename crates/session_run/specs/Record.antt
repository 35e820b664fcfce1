-- What an actor did, and its record.
use Rattle.std.specs.Prelude.{ℕ, List}
use Rattle.actor_records.specs.declared.record.Did.{Did}
use Rattle.actor_records.specs.declared.record.Record.{Record}
use Rattle.catalogue_state.specs.declared.ask.Ask.{Ask}
use Rattle.catalogue_state.specs.declared.reply.Reply.{Reply}
use Rattle.script_read.specs.declared.script.Command.{Command}
use Rattle.session_run.specs.declared.record.LocalReply.{LocalReply}

-- a core call with its reply, a local command with its reply, or the head of a call that found no memory
abbrev pub ActorDid : Type 0
ActorDid = Did Ask Reply Command LocalReply (List ℕ)

-- the same with its place among the actor's records
abbrev pub ActorRecord : Type 0
ActorRecord = Record Ask Reply Command LocalReply (List ℕ)
