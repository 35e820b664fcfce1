-- What a call has to bring that was built beforehand, and what a caller owes.
use Rattle.std.specs.Prelude.{◌≡◌, ℕ, List, Option, Some, None, find, option_map}
use Rattle.turn_hall.specs.declared.entry.Entry.{Entry}
use Rattle.turn_hall.specs.Replay.{replay, EndsWith}
use Rattle.catalogue_state.specs.declared.ask.Ask.{Ask}
use Rattle.catalogue_state.specs.declared.ask.Ask.TheVariants.{OpenSession, CloseSession, Peek, Place, Derive, Publish, Unpublish, Get, Checkout, Append, Release, Columns, Lines}
use Rattle.catalogue_state.specs.declared.ask.How.{How}
use Rattle.catalogue_state.specs.declared.ask.How.TheVariants.{Changes}
use Rattle.catalogue_state.specs.declared.call.Call.{Call}
use Rattle.catalogue_state.specs.declared.call.Made.{Made}
use Rattle.catalogue_state.specs.declared.call.Made.TheVariants.{Missing}
use Rattle.catalogue_state.specs.declared.reply.Reply.{Reply}
use Rattle.catalogue_state.specs.declared.parts.Snap.{Snap}
use Rattle.catalogue_state.specs.declared.parts.Held.{Held}
use Rattle.catalogue_state.specs.State.{Name, State, named, holds}
use Rattle.catalogue_state.specs.Step.{step}
use Rattle.catalogue_state.specs.Derived.{IsBuilt}
use Rattle.catalogue_state.specs.Bound.{HasSmall, IsReady}

-- the snapshot that is held under a name
abbrev pub snap_held : List Held → Name → Option Snap
snap_held held name = option_map (λ h. h.snap) (find (named name) held)

-- what was built from the snapshot that is held; nothing where none is
abbrev pub IsBuiltFrom : Option Snap → How → Made → Type 0
IsBuiltFrom None how made = made ≡ Missing
IsBuiltFrom (Some b) how made = IsBuilt how b.shot made

-- what was built for a call, from what its caller holds; calls that derive no graph bring nothing
abbrev pub IsMadeFor : List Held → Ask → Made → Type 0
IsMadeFor held OpenSession made = made ≡ Missing
IsMadeFor held CloseSession made = made ≡ Missing
IsMadeFor held (Peek source) made = made ≡ Missing
IsMadeFor held (Place name source front) made = made ≡ Missing
IsMadeFor held (Derive name base how) made = IsBuiltFrom (snap_held held base) how made
IsMadeFor held (Publish name line keep threshold) made = made ≡ Missing
IsMadeFor held (Unpublish line) made = made ≡ Missing
IsMadeFor held (Get line name) made = made ≡ Missing
IsMadeFor held (Checkout name target) made = made ≡ Missing
IsMadeFor held (Append name changes) made = IsBuiltFrom (snap_held held name) (Changes changes) made
IsMadeFor held (Release name) made = made ≡ Missing
IsMadeFor held Columns made = made ≡ Missing
IsMadeFor held Lines made = made ≡ Missing

-- what is needed to serve a call: numbers are left, and what it brings was built from what its caller holds now
pub record CanServe (m : State) (who : ℕ) (call : Call) : Type 0 where
  pub numbers : IsReady m
  pub made : IsMadeFor (holds m who) call.ask call.made

-- what a caller owes: opening graphs are within the limits, and what it brings was built from what it held after its own last call
pub record MayAsk (start : State) (own : List (Entry Ask Reply)) (call : Call) : Type 0 where
  pub small : HasSmall start
  pub made : (who : ℕ) → EndsWith who own → IsMadeFor (holds (replay step start own) who) call.ask call.made
