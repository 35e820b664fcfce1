-- The shared state.
use Rattle.std.specs.Prelude.{ℕ, ◌-◌, Bool, ◌==◌, ◌++◌, List, [], ◌∷◌, Option, Some, None, length, slice_get, find, map, fold, count_by, flat_map, if◌then◌else◌}
use Rattle.std.specs.List.{list_any}
use Rattle.std.specs.Ordering.{nat_cmp}
use Rattle.std.specs.BTreeSet.{insert_key}
use Rattle.std.specs.Str.{bytes_eq}
use Rattle.catalogue_state.specs.declared.ask.Target.{Target}
use Rattle.catalogue_state.specs.declared.ask.Target.TheVariants as target
use Rattle.catalogue_state.specs.declared.parts.Source.{Source}
use Rattle.catalogue_state.specs.declared.parts.Snap.{Snap}
use Rattle.catalogue_state.specs.declared.parts.Line.{Line}
use Rattle.catalogue_state.specs.declared.parts.Hold.{Hold}
use Rattle.catalogue_state.specs.declared.parts.Hold.TheVariants.{Private, Pin}
use Rattle.catalogue_state.specs.declared.parts.Held.{Held}
use Rattle.catalogue_state.specs.declared.parts.Session.{Session}

-- the bytes of a name
abbrev pub Name : Type 0
Name = List ℕ

-- the sources, the published graphs in order of publication, the open sessions, and the next snapshot id and column number
pub record State : Type 0 where
  pub sources : List Source
  pub lines : List Line
  pub sessions : List Session
  pub next_sid : ℕ
  pub next_column : ℕ

-- ---- look-ups

-- the session of a caller
abbrev pub of_who : ℕ → Session → Bool
of_who who s = s.who == who

-- the source of a name, and the graph of a name
abbrev pub from_source : Name → Source → Bool
from_source n s = bytes_eq s.data.name n

abbrev pub named : Name → Held → Bool
named n h = bytes_eq h.name n

-- the published graph of a name
abbrev pub from_line : Name → Line → Bool
from_line n l = bytes_eq l.name n

-- the caller's session, the source of a name, and the graph that a session holds under a name
abbrev pub session_of : State → ℕ → Option Session
session_of m who = find (of_who who) m.sessions

abbrev pub source_of : State → Name → Option Source
source_of m n = find (from_source n) m.sources

abbrev pub line_of : State → Name → Option Line
line_of m n = find (from_line n) m.lines

abbrev pub held_of : Session → Name → Option Held
held_of s n = find (named n) s.held

-- what a session holds; nothing where there is none
abbrev pub held_in : Option Session → List Held
held_in None = []
held_in (Some s) = s.held

abbrev pub holds : State → ℕ → List Held
holds m who = held_in (session_of m who)

-- ---- snapshots of a published graph, oldest first

-- the one that came last
abbrev pub latest : List Snap → Option Snap
latest snaps = slice_get snaps (length snaps - 1)

-- the one with an id
abbrev pub of_sid : ℕ → Snap → Bool
of_sid sid s = s.sid == sid

-- the one that is asked for
abbrev pub snap_at : Target → List Snap → Option Snap
snap_at (target.Sid sid) snaps = find (of_sid sid) snaps
snap_at target.Latest snaps = latest snaps

-- ---- how a session holds a graph

-- for itself: the source that it was placed from, or none; else as a pin
abbrev pub private_source : Hold → Option (Option Name)
private_source (Private source) = Some source
private_source (Pin line) = None

-- as a pin: the name of its published graph; else for itself
abbrev pub pinned_line : Hold → Option Name
pinned_line (Private source) = None
pinned_line (Pin line) = Some line

-- ---- changes of lists

-- the list with its first item that passes the test changed, or taken out
abbrev pub change_first : {X : Type 0} → (X → Bool) → (X → X) → List X → List X
change_first test f [] = []
change_first test f (x ∷ xs) = if test x then f x ∷ xs else x ∷ change_first test f xs

abbrev pub drop_first : {X : Type 0} → (X → Bool) → List X → List X
drop_first test [] = []
drop_first test (x ∷ xs) = if test x then xs else x ∷ drop_first test xs

-- ---- reachability

-- the snapshots of the graphs that a session holds
abbrev pub snaps_of : List Held → List Snap
snaps_of held = map (λ h. h.snap) held

-- the snapshots that are in use: those of all published graphs, and all that sessions hold
abbrev pub roots_of : List Line → List Session → List Snap
roots_of lines sessions = flat_map (λ l. l.snaps) lines ++ flat_map (λ s. snaps_of s.held) sessions

abbrev pub roots : State → List Snap
roots m = roots_of m.lines m.sessions

-- the numbers of the columns in their slots
abbrev pub columns_of : List Snap → List ℕ
columns_of snaps = flat_map (λ s. s.columns) snaps

-- a rising list with numbers put into it, each once
abbrev pub put_all : List ℕ → List ℕ → List ℕ
put_all found columns = fold (insert_key nat_cmp) found columns

-- the rising list of the columns that are in use
abbrev pub reach : State → List ℕ
reach m = put_all [] (columns_of (roots m))

-- whether a snapshot has the column, and how many of those in use have it
abbrev pub has_column : ℕ → Snap → Bool
has_column c s = list_any (λ k. k == c) s.columns

abbrev pub count : State → ℕ → ℕ
count m c = count_by (has_column c) (roots m)
