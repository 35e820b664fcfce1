-- What a call brings that is built before its turn, from what its caller holds.
use Rattle.std.specs.Prelude.{◌≡◌, List}
use Rattle.catalogue_state.specs.declared.ask.Ask.{Ask}
use Rattle.catalogue_state.specs.declared.ask.Ask.TheVariants.{OpenSession, CloseSession, Peek, Place, Derive, Publish, Unpublish, Get, Checkout, Append, Release, Columns, Lines}
use Rattle.catalogue_state.specs.declared.ask.How.TheVariants.{Changes}
use Rattle.catalogue_state.specs.declared.call.Made.{Made}
use Rattle.catalogue_state.specs.declared.call.Made.TheVariants.{Missing}
use Rattle.catalogue_state.specs.Ready.{IsBuiltFrom}
use Rattle.catalogue_hall.specs.declared.held.Named.{Named}
use Rattle.catalogue_hall.specs.History.{snap_named}

-- as `IsMadeFor` of catalogue_state says it of the state
abbrev pub IsMadeOf : List Named → Ask → Made → Type 0
IsMadeOf held OpenSession made = made ≡ Missing
IsMadeOf held CloseSession made = made ≡ Missing
IsMadeOf held (Peek source) made = made ≡ Missing
IsMadeOf held (Place name source front) made = made ≡ Missing
IsMadeOf held (Derive name base how) made = IsBuiltFrom (snap_named held base) how made
IsMadeOf held (Publish name line keep threshold) made = made ≡ Missing
IsMadeOf held (Unpublish line) made = made ≡ Missing
IsMadeOf held (Get line name) made = made ≡ Missing
IsMadeOf held (Checkout name target) made = made ≡ Missing
IsMadeOf held (Append name changes) made = IsBuiltFrom (snap_named held name) (Changes changes) made
IsMadeOf held (Release name) made = made ≡ Missing
IsMadeOf held Columns made = made ≡ Missing
IsMadeOf held Lines made = made ≡ Missing
