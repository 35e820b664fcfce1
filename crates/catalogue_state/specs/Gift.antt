-- What is handed out beside a reply.
use Rattle.std.specs.Prelude.{ℕ, Option, Some, None, option_and_then}
use Rattle.catalogue_state.specs.declared.ask.Ask.{Ask}
use Rattle.catalogue_state.specs.declared.ask.Ask.TheVariants.{OpenSession, CloseSession, Peek, Place, Derive, Publish, Unpublish, Get, Checkout, Append, Release, Columns as ListColumns, Lines as ListLines}
use Rattle.catalogue_state.specs.declared.reply.Reply.{Reply}
use Rattle.catalogue_state.specs.declared.reply.Reply.TheVariants.{Done, Front, Sid, Columns, Lines, Refused}
use Rattle.catalogue_state.specs.declared.call.Gift.{Gift}
use Rattle.catalogue_state.specs.declared.call.Gift.TheVariants as gift
use Rattle.catalogue_state.specs.declared.parts.Source.{Source}
use Rattle.catalogue_state.specs.declared.parts.Held.{Held}
use Rattle.catalogue_state.specs.State.{Name, State, session_of, source_of, held_of}

-- the source, or the snapshot of the graph; nothing where there is none
abbrev pub source_gift : Option Source → Gift
source_gift None = gift.Nothing
source_gift (Some s) = gift.Source s.data

abbrev pub snap_gift : Option Held → Gift
snap_gift None = gift.Nothing
snap_gift (Some h) = gift.Snap h.snap

-- the graph that a caller holds under a name
abbrev pub held_under : State → ℕ → Name → Option Held
held_under m who name = option_and_then (λ s. held_of s name) (session_of m who)

-- beside the reply to a peek: the source, where a front was told
abbrev pub peek_gift : Option Source → Reply → Gift
peek_gift from (Front n) = source_gift from
peek_gift from Done = gift.Nothing
peek_gift from (Sid n) = gift.Nothing
peek_gift from (Columns numbers) = gift.Nothing
peek_gift from (Lines lines) = gift.Nothing
peek_gift from (Refused refusal) = gift.Nothing

-- beside the reply to a call that brings a graph: its snapshot, where a snapshot id was told
abbrev pub graph_gift : Option Held → Reply → Gift
graph_gift held (Sid n) = snap_gift held
graph_gift held Done = gift.Nothing
graph_gift held (Front n) = gift.Nothing
graph_gift held (Columns numbers) = gift.Nothing
graph_gift held (Lines lines) = gift.Nothing
graph_gift held (Refused refusal) = gift.Nothing

-- read from the state after the call: the source for a front, the snapshot held under the name for a snapshot id
abbrev pub gift_of : State → ℕ → Ask → Reply → Gift
gift_of m who OpenSession reply = gift.Nothing
gift_of m who CloseSession reply = gift.Nothing
gift_of m who (Peek source) reply = peek_gift (source_of m source) reply
gift_of m who (Place name source front) reply = graph_gift (held_under m who name) reply
gift_of m who (Derive name base how) reply = graph_gift (held_under m who name) reply
gift_of m who (Publish name line keep threshold) reply = gift.Nothing
gift_of m who (Unpublish line) reply = gift.Nothing
gift_of m who (Get line name) reply = graph_gift (held_under m who name) reply
gift_of m who (Checkout name target) reply = graph_gift (held_under m who name) reply
gift_of m who (Append name changes) reply = gift.Nothing
gift_of m who (Release name) reply = gift.Nothing
gift_of m who ListColumns reply = gift.Nothing
gift_of m who ListLines reply = gift.Nothing
