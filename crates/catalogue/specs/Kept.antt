-- What the catalogue keeps.
use Rattle.std.specs.Prelude.{◌≡◌, ℕ, ◌+◌, ◌^◌, ◌<◌, ◌≤◌, ◌==◌, ◌-◌, ◌++◌, List, length, take, count_by, Contains, Option, Some, None, [], ◌∷◌}
use Rattle.graph_slots.specs.Slots.{slots}
use Rattle.catalogue_state.specs.declared.parts.Line.{Line}
use Rattle.catalogue_state.specs.declared.parts.Source.{Source}
use Rattle.catalogue_state.specs.declared.parts.Snap.{Snap}
use Rattle.catalogue_state.specs.declared.parts.Held.{Held}
use Rattle.catalogue_state.specs.declared.parts.Session.{Session}
use Rattle.catalogue_state.specs.State.{Name, State, of_who, from_line, session_of, line_of, held_of, roots}
use Rattle.catalogue_state.specs.Step.{kept_count}

-- one column number for each slot, all at least 1 and below the next, no two alike
pub record IsNumbered (next : ℕ) (s : Snap) : Type 0 where
  pub wide : length s.columns ≡ length (slots s.shot.schema)
  pub within : (c : ℕ) → Contains s.columns c → (1 ≤ c) × (c < next)
  pub differ : (c : ℕ) → count_by (λ k. k == c) s.columns ≤ 1

-- a published graph has at most as many snapshots as it keeps
pub record IsShort (l : Line) : Type 0 where
  pub few : length l.snaps ≤ kept_count l.keep
  pub keep : l.keep < 2 ^ 32

-- the limits of the lists, one session of a caller, one published graph of a name, each with a snapshot, the numbers of columns, and
-- that no source was fed yet
pub record IsKept (m : State) : Type 0 where
  pub few_sessions : length m.sessions ≤ 64
  pub one_each : (who : ℕ) → count_by (of_who who) m.sessions ≤ 1
  pub few_lines : length m.lines ≤ 256
  pub few_snaps : (l : Line) → Contains m.lines l → IsShort l
  pub full_lines : (l : Line) → Contains m.lines l → 1 ≤ length l.snaps
  pub one_line : (n : Name) → count_by (from_line n) m.lines ≤ 1
  pub few_held : (s : Session) → Contains m.sessions s → length s.held ≤ 256
  pub first : 1 ≤ m.next_column
  pub numbered : (b : Snap) → Contains (roots m) b → IsNumbered m.next_column b
  pub unfed : (s : Source) → Contains m.sources s → s.visible ≡ 0

-- a caller may come to hold this graph: its session has room and no graph of that name, and so many of its columns are new
pub record MayHold (m : State) (who : ℕ) (name : Name) (snap : Snap) (new : ℕ) : Type 0 where
  pub session : Session
  pub is : session_of m who ≡ Some session
  pub free : held_of session name ≡ None
  pub room : length session.held < 256
  pub few : new ≤ 2208
  pub numbered : IsNumbered (m.next_column + new) snap

-- ---- published graphs

-- this may be published under the name: its one snapshot is in use, the name is free, and there is room
pub record MayPublish (m : State) (name : Name) (l : Line) (b : Snap) : Type 0 where
  pub named : l.name ≡ name
  pub one : l.snaps ≡ b ∷ []
  pub keep : l.keep < 2 ^ 32
  pub root : Contains (roots m) b
  pub free : line_of m name ≡ None
  pub room : length m.lines < 256

-- the snapshots that a published graph no longer keeps when it gets one more
abbrev pub gone_of : Snap → Line → List Snap
gone_of snap l = take (length (l.snaps ++ snap ∷ []) - kept_count l.keep) (l.snaps ++ snap ∷ [])

-- those of the published graph that is found
abbrev pub gone_in : Snap → Option Line → List Snap
gone_in snap None = []
gone_in snap (Some l) = gone_of snap l

-- what there is, as a list
abbrev pub option_to_list : {X : Type 0} → Option X → List X
option_to_list None = []
option_to_list (Some x) = x ∷ []

-- the published graph of a name may get this snapshot more, and so many of its columns are new
pub record MayAppend (m : State) (name : Name) (snap : Snap) (new : ℕ) : Type 0 where
  pub published : Line
  pub is : line_of m name ≡ Some published
  pub few : new ≤ 2208
  pub numbered : IsNumbered (m.next_column + new) snap

-- a caller may come to hold this graph, whose snapshot is in use: its session has room and no graph of that name
pub record MayPin (m : State) (who : ℕ) (name : Name) (h : Held) : Type 0 where
  pub session : Session
  pub is : session_of m who ≡ Some session
  pub named : h.name ≡ name
  pub free : held_of session name ≡ None
  pub room : length session.held < 256
  pub root : Contains (roots m) h.snap

-- a caller holds a graph of that name, which may move to a snapshot that is in use
pub record MayMove (m : State) (who : ℕ) (name : Name) (b : Snap) : Type 0 where
  pub session : Session
  pub is : session_of m who ≡ Some session
  pub graph : Held
  pub has : held_of session name ≡ Some graph
  pub root : Contains (roots m) b
