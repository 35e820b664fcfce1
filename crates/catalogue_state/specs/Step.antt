-- One call of the catalogue.
use Rattle.std.specs.Prelude.{ℕ, ◌+◌, ◌-◌, ◌==◌, Bool, true, false, not, nat_lt, nat_le, List, [], ◌∷◌, ◌++◌, length, map, drop, Option, Some, None, is_some, if◌then◌else◌}
use Rattle.std.specs.List.{range_with_len}
use Rattle.graph_model.specs.Change.{after}
use Rattle.graph_slots.specs.Slots.{slots}
use Rattle.catalogue_state.specs.declared.ask.Ask.{Ask}
use Rattle.catalogue_state.specs.declared.ask.Ask.TheVariants.{OpenSession, CloseSession, Peek, Place, Derive, Publish, Unpublish, Get, Checkout, Append, Release, Columns, Lines}
use Rattle.catalogue_state.specs.declared.ask.Target.{Target}
use Rattle.catalogue_state.specs.declared.ask.Target.TheVariants as target
use Rattle.catalogue_state.specs.declared.ask.How.{How}
use Rattle.catalogue_state.specs.declared.ask.How.TheVariants.{Changes}
use Rattle.catalogue_state.specs.declared.reply.Reply.{Reply}
use Rattle.catalogue_state.specs.declared.reply.Reply.TheVariants.{Done, Front, Sid, Columns as ColumnList, Lines as LineList, Refused}
use Rattle.catalogue_state.specs.declared.reply.LineInfo.{LineInfo}
use Rattle.catalogue_state.specs.declared.reply.Refusal.{Refusal}
use Rattle.catalogue_state.specs.declared.reply.Refusal.TheVariants.{SessionsFull, NoSource, NameTaken, GraphsFull, NoName, NotPrivate, LineTaken, LinesFull, NoLine, NotOwner, NoSnapshot, Sourced, NotLatest, NotVisible, NotPinned, NotOpen, AlreadyOpen}
use Rattle.catalogue_state.specs.declared.parts.Source.{Source}
use Rattle.catalogue_state.specs.declared.parts.Snap.{Snap}
use Rattle.catalogue_state.specs.declared.parts.Line.{Line}
use Rattle.catalogue_state.specs.declared.parts.Hold.TheVariants.{Private, Pin}
use Rattle.catalogue_state.specs.declared.parts.Held.{Held}
use Rattle.catalogue_state.specs.declared.parts.Session.{Session}
use Rattle.catalogue_state.specs.State.{Name, State, of_who, named, from_line, session_of, source_of, line_of, held_of, latest, snap_at, private_source, pinned_line, change_first, drop_first, reach}
use Rattle.catalogue_state.specs.Derived.{derived_graph, kept_by, why_not, numbers_by, new_count}

-- a reply, and the state after it
abbrev pub Answer : Type 0
Answer = Reply × State

-- ---- tests, each with its refusal, which leaves the state

-- the refusal, and the state as it was
abbrev pub refuse : State → Refusal → Answer
refuse m r = (Refused r, m)

-- refused where the test holds, else what follows
unfoldable pub unless : State → Bool → Refusal → Answer → Answer
unless m true r k = refuse m r
unless m false r k = k

-- refused where there is none, else what follows with it
unfoldable pub given : {X : Type 0} → State → Option X → Refusal → (X → Answer) → Answer
given m None r k = refuse m r
given m (Some x) r k = k x

-- refused where there is a reason, else what follows
unfoldable pub unless_refused : State → Option Refusal → Answer → Answer
unless_refused m (Some r) k = refuse m r
unless_refused m None k = k

-- the session holds 256 graphs
abbrev pub is_full : Session → Bool
is_full s = nat_le 256 (length s.held)

-- ---- changes of the state

-- a session that holds one graph more, and one that gives up the graph of a name
abbrev pub hold_more : Held → Session → Session
hold_more h s = record s { held = s.held ++ h ∷ [] }

abbrev pub let_go : Name → Session → Session
let_go n s = record s { held = drop_first (named n) s.held }

-- the state with the caller's session changed
abbrev pub with_session : State → ℕ → (Session → Session) → State
with_session m who f = record m { sessions = change_first (of_who who) f m.sessions }

-- one more session, which holds nothing
abbrev pub with_one_more : State → ℕ → State
with_one_more m who = record m { sessions = m.sessions ++ record { who = who; held = [] } ∷ [] }

-- the caller's session goes, with all that it holds
abbrev pub without_session : State → ℕ → State
without_session m who = record m { sessions = drop_first (of_who who) m.sessions }

-- the snapshot of a source's graph with its first changes applied: all its columns are new
abbrev pub placed : State → Source → ℕ → Snap
placed m source front =
    let g = after source.data.opening source.data.changes front in
    record { sid = m.next_sid; front = front; shot = g; columns = range_with_len m.next_column (length (slots g.schema)) }

-- a snapshot derived from another: the slots that it keeps have the numbers of the other, and its new ones new numbers
abbrev pub derived : State → Snap → How → Snap
derived m base how =
    record { sid = m.next_sid; front = 0; shot = derived_graph how base.shot; columns = numbers_by base.columns m.next_column (kept_by how base.shot) }

-- how many of its columns are new
abbrev pub new_columns : Snap → How → ℕ
new_columns base how = new_count (kept_by how base.shot)

-- a graph that a session holds for itself
abbrev pub private_graph : Name → Option Name → Snap → Held
private_graph name source snap = record { name = name; hold = Private source; snap = snap }

-- the caller holds one more graph, whose snapshot has the next id and so many new columns
abbrev pub drawn : State → ℕ → Held → ℕ → State
drawn m who h new =
    record (with_session m who (hold_more h)) { next_sid = m.next_sid + 1; next_column = m.next_column + new }

-- ---- published graphs

-- a pin of a published graph
abbrev pub pin : Name → Name → Snap → Held
pin name line snap = record { name = name; hold = Pin line; snap = snap }

-- the graph of a name is held as a pin, and another snapshot is held under a name
abbrev pub to_pin : Name → Held → Held
to_pin line h = record h { hold = Pin line }

abbrev pub to_snap : Snap → Held → Held
to_snap snap h = record h { snap = snap }

abbrev pub pin_as : Name → Name → Session → Session
pin_as name line s = record s { held = change_first (named name) (to_pin line) s.held }

abbrev pub move_to : Name → Snap → Session → Session
move_to name snap s = record s { held = change_first (named name) (to_snap snap) s.held }

-- a graph as it is first published: its only snapshot is the one that its owner holds
abbrev pub new_line : ℕ → Name → ℕ → ℕ → Option Name → Snap → Line
new_line who line keep threshold source snap =
    record { name = line; owner = who; source = source; keep = keep; threshold = threshold; snaps = snap ∷ [] }

-- the caller's graph is published, and held as a pin
abbrev pub published : State → ℕ → Name → Line → State
published m who name l = record (with_session m who (pin_as name l.name)) { lines = m.lines ++ l ∷ [] }

-- the published graph of a name goes; pins of it stay
abbrev pub without_line : State → Name → State
without_line m n = record m { lines = drop_first (from_line n) m.lines }

-- a published graph keeps so many snapshots, and its latest one always
abbrev pub kept_count : ℕ → ℕ
kept_count keep = if keep == 0 then 1 else keep

-- the last of them, as many as are kept
abbrev pub last_of : ℕ → List Snap → List Snap
last_of keep snaps = drop (length snaps - kept_count keep) snaps

-- the published graph with one more snapshot
abbrev pub with_latest : Snap → Line → Line
with_latest snap l = record l { snaps = last_of l.keep (l.snaps ++ snap ∷ []) }

-- the published graph of a name has one more snapshot, which has the next id and so many new columns
abbrev pub appended : State → Name → Snap → ℕ → State
appended m n snap new =
    record m { lines = change_first (from_line n) (with_latest snap) m.lines; next_sid = m.next_sid + 1; next_column = m.next_column + new }

-- the id that is asked for
abbrev pub sid_asked : Target → ℕ
sid_asked (target.Sid sid) = sid
sid_asked target.Latest = 0

-- what is told of a published graph
abbrev pub snap_info : Snap → ℕ × ℕ
snap_info s = (s.sid, s.front)

abbrev pub line_info : Line → LineInfo
line_info l = record { name = l.name; owner = l.owner; source = l.source; keep = l.keep; threshold = l.threshold; snaps = map snap_info l.snaps }

-- ---- one case for each call, with its refusals in order

abbrev pub step : State → ℕ → Ask → Answer
step m who OpenSession =
    unless m (is_some (session_of m who)) AlreadyOpen (
    unless m (nat_le 64 (length m.sessions)) SessionsFull
    (Done, with_one_more m who))
step m who CloseSession =
    given m (session_of m who) NotOpen (λ s.
    (Done, without_session m who))
step m who (Peek source) =
    given m (source_of m source) (NoSource source) (λ from.
    (Front from.visible, m))
step m who (Place name source front) =
    given m (session_of m who) NotOpen (λ s.
    given m (source_of m source) (NoSource source) (λ from.
    unless m (is_some (held_of s name)) (NameTaken name) (
    unless m (nat_lt from.visible front) (NotVisible from.visible) (
    unless m (is_full s) GraphsFull (
    let snap = placed m from front in
    (Sid snap.sid, drawn m who (private_graph name (Some source) snap) (length snap.columns)))))))
step m who (Derive name base how) =
    given m (session_of m who) NotOpen (λ s.
    given m (held_of s base) (NoName base) (λ b.
    unless m (is_some (held_of s name)) (NameTaken name) (
    unless m (is_full s) GraphsFull (
    unless_refused m (why_not how b.snap.shot) (
    let snap = derived m b.snap how in
    (Sid snap.sid, drawn m who (private_graph name None snap) (new_columns b.snap how)))))))
step m who (Publish name line keep threshold) =
    given m (session_of m who) NotOpen (λ s.
    given m (held_of s name) (NoName name) (λ h.
    given m (private_source h.hold) (NotPrivate name) (λ source.
    unless m (is_some (line_of m line)) (LineTaken line) (
    unless m (nat_le 256 (length m.lines)) LinesFull
    (Sid h.snap.sid, published m who name (new_line who line keep threshold source h.snap))))))
step m who (Unpublish line) =
    given m (session_of m who) NotOpen (λ s.
    given m (line_of m line) (NoLine line) (λ l.
    unless m (not (l.owner == who)) (NotOwner line)
    (Done, without_line m line)))
-- a published graph has a snapshot (IsKept), so the test of Get, of Checkout and of Append for the latest one refuses nothing
step m who (Get line name) =
    given m (session_of m who) NotOpen (λ s.
    given m (line_of m line) (NoLine line) (λ l.
    unless m (is_some (held_of s name)) (NameTaken name) (
    unless m (is_full s) GraphsFull (
    given m (latest l.snaps) (NoLine line) (λ snap.
    (Sid snap.sid, with_session m who (hold_more (pin name line snap))))))))
step m who (Checkout name target) =
    given m (session_of m who) NotOpen (λ s.
    given m (held_of s name) (NoName name) (λ h.
    given m (pinned_line h.hold) (NotPinned name) (λ line.
    given m (line_of m line) (NoLine line) (λ l.
    given m (snap_at target l.snaps) (NoSnapshot (sid_asked target)) (λ snap.
    (Sid snap.sid, with_session m who (move_to name snap)))))))
step m who (Append name changes) =
    given m (session_of m who) NotOpen (λ s.
    given m (held_of s name) (NoName name) (λ h.
    given m (pinned_line h.hold) (NotPinned name) (λ line.
    given m (line_of m line) (NoLine line) (λ l.
    unless m (is_some l.source) (Sourced line) (
    given m (latest l.snaps) (NoLine line) (λ last.
    unless m (not (last.sid == h.snap.sid)) (NotLatest last.sid) (
    unless_refused m (why_not (Changes changes) h.snap.shot) (
    let snap = derived m h.snap (Changes changes) in
    (Sid snap.sid, appended m line snap (new_columns h.snap (Changes changes)))))))))))
step m who (Release name) =
    given m (session_of m who) NotOpen (λ s.
    given m (held_of s name) (NoName name) (λ h.
    (Done, with_session m who (let_go name))))
step m who Columns = (ColumnList (reach m), m)
step m who Lines = (LineList (map line_info m.lines), m)
