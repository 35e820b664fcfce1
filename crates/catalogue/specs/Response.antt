-- How a call ends.
use Rattle.std.specs.Prelude.{◌≡◌, ℕ, Bool, true, false, Result, Ok, Err, ⊤}
use Rattle.column_types.specs.declared.fault.NoMemory.{NoMemory}
use Rattle.catalogue_state.specs.declared.ask.Ask.{Ask}
use Rattle.catalogue_state.specs.declared.ask.Ask.TheVariants.{OpenSession, CloseSession, Peek, Place, Derive, Publish, Unpublish, Get, Checkout, Append, Release, Columns as ListColumns, Lines as ListLines}
use Rattle.catalogue_state.specs.declared.call.Gift.TheVariants as gift
use Rattle.catalogue_state.specs.declared.reply.Reply.{Reply}
use Rattle.catalogue_state.specs.declared.reply.Reply.TheVariants.{Done, Front, Sid, Columns, Lines, Refused}
use Rattle.catalogue_state.specs.declared.reply.Refusal.{Refusal}
use Rattle.catalogue_state.specs.declared.reply.Refusal.TheVariants.{TooBig, BadRow, BadChange, MixedEnds, KeysSpent, SessionsFull, NoSource, NameTaken, GraphsFull, NoName, NotPrivate, LineTaken, LinesFull, NoLine, NotOwner, NoSnapshot, Sourced, NotLatest, NotVisible, NotPinned, NotOpen, AlreadyOpen}
use Rattle.catalogue.specs.declared.response.Fault.{Fault}
use Rattle.catalogue.specs.declared.response.Fault.TheVariants as fault
use Rattle.catalogue.specs.declared.response.Response.{Response}
use Rattle.catalogue_state.specs.declared.parts.Snap.{Snap}
use Rattle.catalogue_state.specs.State.{State}
use Rattle.catalogue_state.specs.Step.{Answer, step}
use Rattle.catalogue_state.specs.Gift.{gift_of}

-- whether a call derives a snapshot from another one: it comes with what was built from that
unfoldable pub is_derived : Ask → Bool
is_derived OpenSession = false
is_derived CloseSession = false
is_derived (Peek source) = false
is_derived (Place name source front) = false
is_derived (Derive name base how) = true
is_derived (Publish name line keep threshold) = false
is_derived (Unpublish line) = false
is_derived (Get line name) = false
is_derived (Checkout name target) = false
is_derived (Append name changes) = true
is_derived (Release name) = false
is_derived ListColumns = false
is_derived ListLines = false

-- the response of a call is the step's: its reply twice, and what is handed out, read from the state after it
pub record IsServed (old : State) (who : ℕ) (ask : Ask) (new : State) (r : Response) : Type 0 where
  pub step : step old who ask ≡ (r.reply, new)
  pub kept : r.kept ≡ r.reply
  pub gift : r.gift ≡ gift_of new who ask r.reply

-- a response that tells one reply, and hands out nothing or the snapshot that came
abbrev pub done_response : Response
done_response = record { kept = Done; reply = Done; gift = gift.Nothing }

abbrev pub refusal_response : Refusal → Response
refusal_response r = record { kept = Refused r; reply = Refused r; gift = gift.Nothing }

abbrev pub told_response : ℕ → Response
told_response sid = record { kept = Sid sid; reply = Sid sid; gift = gift.Nothing }

abbrev pub sid_response : Snap → Response
sid_response snap = record { kept = Sid snap.sid; reply = Sid snap.sid; gift = gift.Snap snap }

-- a refusal takes memory where it hands on a name
abbrev pub RefusalTakesMemory : Refusal → Type 0
RefusalTakesMemory TooBig = ⊥
RefusalTakesMemory (BadRow row cause) = ⊥
RefusalTakesMemory (BadChange place why) = ⊥
RefusalTakesMemory (MixedEnds name) = ⊤
RefusalTakesMemory KeysSpent = ⊥
RefusalTakesMemory SessionsFull = ⊥
RefusalTakesMemory (NoSource name) = ⊤
RefusalTakesMemory (NameTaken name) = ⊤
RefusalTakesMemory GraphsFull = ⊥
RefusalTakesMemory (NoName name) = ⊤
RefusalTakesMemory (NotPrivate name) = ⊤
RefusalTakesMemory (LineTaken name) = ⊤
RefusalTakesMemory LinesFull = ⊥
RefusalTakesMemory (NoLine name) = ⊤
RefusalTakesMemory (NotOwner name) = ⊤
RefusalTakesMemory (NoSnapshot n) = ⊥
RefusalTakesMemory (Sourced name) = ⊤
RefusalTakesMemory (NotLatest n) = ⊥
RefusalTakesMemory (NotVisible n) = ⊥
RefusalTakesMemory (NotPinned name) = ⊤
RefusalTakesMemory NotOpen = ⊥
RefusalTakesMemory AlreadyOpen = ⊥

-- this refusal, or memory ran out for the name that it hands on
abbrev pub IsRefusal : Refusal → Fault → Type 0
IsRefusal r (fault.Refused q) = q ≡ r
IsRefusal r fault.NoMemory = ⊤

-- the refusal is told; memory may run out for a name that it hands on
abbrev pub TellsRefusal : Fault → Result Response NoMemory → Type 0
TellsRefusal (fault.Refused r) (Ok response) = response ≡ refusal_response r
TellsRefusal (fault.Refused r) (Err e) = RefusalTakesMemory r
TellsRefusal fault.NoMemory (Ok response) = ⊥
TellsRefusal fault.NoMemory (Err e) = ⊤

-- whether the tests of a call take memory where this is its answer: where the call is just done they take none; else they may take
-- some, for what the reply tells or brings
abbrev pub TakesMemory : Reply → Type 0
TakesMemory Done = ⊥
TakesMemory (Front n) = ⊤
TakesMemory (Sid n) = ⊤
TakesMemory (Columns numbers) = ⊤
TakesMemory (Lines lines) = ⊤
TakesMemory (Refused r) = RefusalTakesMemory r

-- the tests of a call end with what it goes on with, or with the step's refusal; memory runs out only where the answer takes some
abbrev pub Tests : {X : Type 0} → State → Answer → (X → Answer) → Result X Fault → Type 0
Tests m answer next (Ok x) = answer ≡ next x
Tests m answer next (Err (fault.Refused r)) = answer ≡ (Refused r, m)
Tests m answer next (Err fault.NoMemory) = TakesMemory answer.0

-- tests that take no memory
abbrev pub TestsSurely : {X : Type 0} → State → Answer → (X → Answer) → Result X Refusal → Type 0
TestsSurely m answer next (Ok x) = answer ≡ next x
TestsSurely m answer next (Err r) = answer ≡ (Refused r, m)

-- ---- where memory may run out

-- a call that gives up graphs
abbrev pub GivesUp : Ask → Type 0
GivesUp OpenSession = ⊥
GivesUp CloseSession = ⊤
GivesUp (Peek source) = ⊥
GivesUp (Place name source front) = ⊥
GivesUp (Derive name base how) = ⊥
GivesUp (Publish name line keep threshold) = ⊥
GivesUp (Unpublish line) = ⊤
GivesUp (Get line name) = ⊥
GivesUp (Checkout name target) = ⊥
GivesUp (Append name changes) = ⊥
GivesUp (Release name) = ⊤
GivesUp ListColumns = ⊥
GivesUp ListLines = ⊥

-- a call with this answer may run out of memory: not where it gives up graphs and is done, and not where it is refused without a name
abbrev pub MayRunOut : Ask → Reply → Type 0
MayRunOut ask Done = GivesUp ask → ⊥
MayRunOut ask (Front n) = ⊤
MayRunOut ask (Sid n) = ⊤
MayRunOut ask (Columns numbers) = ⊤
MayRunOut ask (Lines lines) = ⊤
MayRunOut ask (Refused r) = RefusalTakesMemory r

abbrev pub RunsOut : State → ℕ → Ask → Type 0
RunsOut m who ask = MayRunOut ask (step m who ask).0
