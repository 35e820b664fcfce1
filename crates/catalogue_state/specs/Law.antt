-- What the laws of histories speak of.
use Rattle.std.specs.Prelude.{◌≡◌, ℕ, ◌++◌, List, [], ◌∷◌, Option, Some, None, Contains, map, flat_map, ⊤}
use Rattle.graph_model.specs.Change.{after}
use Rattle.catalogue_state.specs.declared.parts.Source.{Source}
use Rattle.catalogue_state.specs.declared.parts.Snap.{Snap}
use Rattle.catalogue_state.specs.declared.parts.Line.{Line}
use Rattle.catalogue_state.specs.declared.parts.Hold.{Hold}
use Rattle.catalogue_state.specs.declared.parts.Hold.TheVariants.{Private, Pin}
use Rattle.catalogue_state.specs.declared.parts.Held.{Held}
use Rattle.catalogue_state.specs.declared.parts.Session.{Session}
use Rattle.catalogue_state.specs.State.{Name, State, source_of}

-- ---- snapshot ids and sources

-- the id of a snapshot with the source of the published graph that has it
abbrev pub line_sources : Line → List (ℕ × Option Name)
line_sources l = map (λ s. (s.sid, l.source)) l.snaps

-- the same of a private graph; a pin has its source from its published graph
abbrev pub hold_source : ℕ → Hold → List (ℕ × Option Name)
hold_source sid (Private source) = (sid, source) ∷ []
hold_source sid (Pin line) = []

abbrev pub held_source : Held → List (ℕ × Option Name)
held_source h = hold_source h.snap.sid h.hold

-- of all published graphs and all private graphs
abbrev pub sid_sources : State → List (ℕ × Option Name)
sid_sources m = flat_map line_sources m.lines ++ flat_map (λ s. flat_map held_source s.held) m.sessions

-- ---- fronts

-- a snapshot has the graph of this source after its first changes, as many as its front
abbrev pub IsPrefix : State → Option Name → Snap → Type 0
IsPrefix m None b = ⊤
IsPrefix m (Some n) b = (s : Source) × (source_of m n ≡ Some s) × (b.shot ≡ after s.data.opening s.data.changes b.front)

abbrev pub IsPrefixHeld : State → Hold → Snap → Type 0
IsPrefixHeld m (Private source) b = IsPrefix m source b
IsPrefixHeld m (Pin line) b = ⊤

-- so has each snapshot of a published graph with a source, and each graph that was placed from one
pub record HasPrefixes (m : State) : Type 0 where
  pub lines : (l : Line) (b : Snap) → Contains m.lines l → Contains l.snaps b → IsPrefix m l.source b
  pub held : (s : Session) (h : Held) → Contains m.sessions s → Contains s.held h → IsPrefixHeld m h.hold h.snap
