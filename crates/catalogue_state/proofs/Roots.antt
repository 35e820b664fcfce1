-- The snapshots in use, by the published graphs and the sessions that have them.
use Rattle.std.proofs.Common.{List, inl, inr}
use Rattle.std.specs.Prelude.{flat_map}
use Rattle.std.proofs.lemmas.List.Elements.{Contains-append_left, Contains-append_right, Contains-append_cases}
use Rattle.catalogue_state.specs.declared.parts.Snap.{Snap}
use Rattle.catalogue_state.specs.declared.parts.Line.{Line}
use Rattle.catalogue_state.specs.declared.parts.Held.{Held}
use Rattle.catalogue_state.specs.declared.parts.Session.{Session}
use Rattle.catalogue_state.specs.State.{snaps_of, roots_of}
use Rattle.catalogue_state.proofs.Lists.{Each, each_flat, in_flat, each_map, in_map}

abbrev pub InLines : (Snap → Type 0) → List Line → Type 0
InLines P lines = Each (λ l. Each P l.snaps) lines

abbrev pub InSessions : (Snap → Type 0) → List Session → Type 0
InSessions P sessions = Each (λ s. Each (λ h. P h.snap) s.held) sessions

module _ (P : Snap → Type 0) (lines : List Line) (sessions : List Session) where
  abbrev of_lines : List Snap
  of_lines = flat_map (λ (l : Line). l.snaps) lines

  abbrev of_sessions : List Snap
  of_sessions = flat_map (λ (s : Session). snaps_of s.held) sessions

  -- what holds of the snapshots of both holds of those in use, and back
  pub each_root : InLines P lines → InSessions P sessions → Each P (roots_of lines sessions)
  each_root ls ss x h =
      elim (Contains-append_cases of_lines of_sessions x h) [
        | inl k ↦ each_flat P (λ (l : Line). l.snaps) lines ls x k
        | inr k ↦ each_flat P (λ (s : Session). snaps_of s.held) sessions (λ s j. each_map P (λ (h : Held). h.snap) s.held (ss s j)) x k
      ]

  pub in_lines : Each P (roots_of lines sessions) → InLines P lines
  in_lines all l j x k = all x (Contains-append_left of_lines of_sessions x (in_flat (λ (l : Line). l.snaps) l lines x j k))

  pub in_sessions : Each P (roots_of lines sessions) → InSessions P sessions
  in_sessions all s j h k =
      all h.snap (Contains-append_right of_lines of_sessions h.snap (in_flat (λ (s : Session). snaps_of s.held) s sessions h.snap j (in_map (λ (h : Held). h.snap) s.held h k)))
