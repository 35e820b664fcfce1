-- What comes of what was built from a snapshot in use.
use Rattle.std.specs.Prelude.{◌≡◌, ◌+◌, ◌≤◌, ◌==◌, not, is_some, List, length, None, Some}
use Rattle.graph_model.specs.declared.change.Change.{Change}
use Rattle.graph_model.specs.Graph.{GraphData}
use Rattle.graph_snap.specs.declared.built.Built.{Built}
use Rattle.catalogue_state.specs.declared.ask.How.{How}
use Rattle.catalogue_state.specs.declared.parts.Snap.{Snap}
use Rattle.catalogue_state.specs.declared.ask.How.TheVariants.{Changes}
use Rattle.catalogue_state.specs.declared.reply.Reply.TheVariants.{Sid}
use Rattle.catalogue_state.specs.declared.reply.Refusal.TheVariants.{Sourced, NoLine, NotLatest}
use Rattle.catalogue_state.specs.declared.parts.Line.{Line}
use Rattle.catalogue_state.specs.declared.parts.Held.{Held}
use Rattle.catalogue_state.specs.State.{Name, State, roots, latest}
use Rattle.catalogue_state.specs.Step.{Answer, unless, given, unless_refused, derived, appended, new_columns}
use Rattle.catalogue_state.specs.Derived.{why_not, numbers_by}
use Rattle.catalogue.specs.declared.arrivals.Coming.{Coming}
use Rattle.catalogue.specs.declared.response.Fault.{Fault}
use Rattle.catalogue.specs.declared.response.Fault.TheVariants as fault
use Rattle.catalogue.specs.Kept.{IsNumbered}
use Rattle.catalogue.specs.Registry.{Comes}

-- the snapshot that is made of what was built from a base
abbrev pub snap_of_built : State → Snap → Built → Snap
snap_of_built m base built = record { sid = m.next_sid; front = 0; shot = built.shot; columns = numbers_by base.columns m.next_column built.kept }

-- the derived snapshot, which nothing refuses: its numbers, and the columns that it keeps and its new ones
pub record Arrives (m : State) (base : Snap) (how : How) (c : Coming) : Type 0 where
  pub allowed : why_not how base.shot ≡ None
  pub snap : c.snap ≡ derived m base how
  pub count : length c.new ≡ new_columns base how
  pub few : length c.new ≤ 2208
  pub numbered : IsNumbered (m.next_column + length c.new) c.snap
  pub comes : Comes (roots m) m.next_column c.snap c.kept c.new

-- why no graph is derived; memory may run out where one is
abbrev pub TellsWhy : How → GraphData → Fault → Type 0
TellsWhy how g (fault.Refused r) = why_not how g ≡ Some r
TellsWhy how g fault.NoMemory = why_not how g ≡ None

-- a snapshot more of a published graph of this name, over that of a pin: what `step` says of it behind the tests of the pin
unfoldable pub append_to : State → Name → Line → Held → List Change → Answer
append_to m line l h changes =
    unless m (is_some l.source) (Sourced line) (
    given m (latest l.snaps) (NoLine line) (λ last.
    unless m (not (last.sid == h.snap.sid)) (NotLatest last.sid) (
    unless_refused m (why_not (Changes changes) h.snap.shot) (
    let snap = derived m h.snap (Changes changes) in
    (Sid snap.sid, appended m line snap (new_columns h.snap (Changes changes)))))))
