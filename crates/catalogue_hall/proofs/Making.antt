-- What is built from what a session holds is what the catalogue asks for.
use Rattle.std.proofs.Common.{◌≡◌, List, [], ◌∷◌, Option, Bool, true, false, refl, subst, map}
use Rattle.std.specs.Str.{bytes_eq}
use Rattle.catalogue_state.specs.declared.ask.Ask.{Ask}
use Rattle.catalogue_state.specs.declared.ask.Ask.TheVariants.{OpenSession, CloseSession, Peek, Place, Derive, Publish, Unpublish, Get, Checkout, Append, Release, Columns, Lines}
use Rattle.catalogue_state.specs.declared.ask.How.TheVariants.{Changes}
use Rattle.catalogue_state.specs.declared.call.Made.{Made}
use Rattle.catalogue_state.specs.declared.parts.Snap.{Snap}
use Rattle.catalogue_state.specs.declared.parts.Held.{Held}
use Rattle.catalogue_state.specs.State.{Name}
use Rattle.catalogue_state.specs.Ready.{snap_held, IsBuiltFrom, IsMadeFor}
use Rattle.catalogue_hall.specs.History.{named_of, snap_named}
use Rattle.catalogue_hall.specs.Building.{IsMadeOf}

snap_at : (name : Name) (h : Held) (held : List Held) (b : Bool) → bytes_eq h.name name ≡ b → snap_named (map named_of held) name ≡ snap_held held name
    → snap_named (named_of h ∷ map named_of held) name ≡ snap_held (h ∷ held) name
snap_at name h held true e ih = rw e refl
snap_at name h held false e ih = rw e ih

-- a snapshot is found by its name alone
same_snap : (name : Name) (held : List Held) → snap_named (map named_of held) name ≡ snap_held held name
same_snap name [] = refl
same_snap name (h ∷ held) = snap_at name h held (bytes_eq h.name name) refl (same_snap name held)

pub made_for : (held : List Held) (ask : Ask) (made : Made) → IsMadeOf (map named_of held) ask made → IsMadeFor held ask made
made_for held OpenSession made is = is
made_for held CloseSession made is = is
made_for held (Peek source) made is = is
made_for held (Place name source front) made is = is
made_for held (Derive name base how) made is = subst (λ (o : Option Snap). IsBuiltFrom o how made) (same_snap base held) is
made_for held (Publish name line keep threshold) made is = is
made_for held (Unpublish line) made is = is
made_for held (Get line name) made is = is
made_for held (Checkout name target) made is = is
made_for held (Append name changes) made is = subst (λ (o : Option Snap). IsBuiltFrom o (Changes changes) made) (same_snap name held) is
made_for held (Release name) made is = is
made_for held Columns made is = is
made_for held Lines made is = is
