-- What the catalogue keeps, kept by each change of the state.
use Rattle.std.proofs.Common.{◌≡◌, ℕ, ◌+◌, ◌^◌, ◌<◌, ◌≤◌, ◌++◌, List, [], ◌∷◌, Some, None, Bool, true, false, cond, sym, ap, subst, arith, eqb, length, length-append, refl, find, ◌-◌}
use Rattle.std.specs.Prelude.{count_by, Contains}
use Rattle.std.proofs.lemmas.Bool.{eqb-true}
use Rattle.std.proofs.lemmas.Bool.Decides.{nat_tests}
use Rattle.std.proofs.lemmas.List.{length-drop}
use Rattle.std.proofs.lemmas.Slice.Eq.{bytes_eq-Decides}
use Rattle.catalogue_state.specs.declared.parts.SourceData.{SourceData}
use Rattle.catalogue_state.specs.declared.parts.Source.{Source}
use Rattle.catalogue_state.specs.declared.parts.Snap.{Snap}
use Rattle.catalogue_state.specs.declared.parts.Line.{Line}
use Rattle.catalogue_state.specs.declared.parts.Held.{Held}
use Rattle.catalogue_state.specs.declared.parts.Session.{Session}
use Rattle.catalogue_state.specs.State.{Name, State, of_who, named, from_line, session_of, line_of, roots, change_first, drop_first}
use Rattle.catalogue_state.specs.Step.{hold_more, let_go, with_session, with_one_more, drawn, published, pin_as, to_pin, to_snap, move_to, without_line, kept_count, with_latest, appended}
use Rattle.catalogue_state.specs.Bound.{opened, unfed}
use Rattle.catalogue.specs.Kept.{IsNumbered, IsShort, IsKept, MayHold, MayAppend}
use Rattle.catalogue_state.proofs.Lists.{Each, in_drop, each_none, each_cons, each_changed, each_found, each_dropped, each_push, each_map, length-change_first, length-drop_first}
use Rattle.catalogue_state.proofs.Counts.{count_changed, count_dropped, one_more_each}
use Rattle.catalogue_state.proofs.Roots.{InLines, InSessions, each_root, in_lines, in_sessions}

abbrev IsFew : Session → Type 0
IsFew s = length s.held ≤ 256

abbrev IsFull : Line → Type 0
IsFull l = 1 ≤ length l.snaps

-- a published graph keeps one snapshot at least
one_kept_at : (keep : ℕ) (b : Bool) → eqb keep 0 ≡ b → 1 ≤ cond {A = ℕ} b 1 keep
one_kept_at keep true e = omega arith
one_kept_at keep false e = grind (arith, nat_tests)

pub one_kept : (keep : ℕ) → 1 ≤ kept_count keep
one_kept keep = one_kept_at keep (eqb keep 0) refl

-- before any call
pub opened_kept : (sources : List SourceData) → IsKept (opened sources)
opened_kept sources = record {
  few_sessions = omega arith;
  one_each = λ who. omega arith;
  few_lines = omega arith;
  few_snaps = each_none IsShort;
  full_lines = each_none IsFull;
  one_line = λ n. omega arith;
  few_held = each_none IsFew;
  first = omega arith;
  numbered = each_none (IsNumbered 1);
  unfed = each_map (λ (s : Source). s.visible ≡ 0) unfed sources (λ d h. refl);
}

module _ (m : State) (who : ℕ) (kept : IsKept m) where
  abbrev Numbered : Snap → Type 0
  Numbered b = IsNumbered m.next_column b

  lines : InLines Numbered m.lines
  lines = in_lines Numbered m.lines m.sessions kept.numbered

  sessions : InSessions Numbered m.sessions
  sessions = in_sessions Numbered m.lines m.sessions kept.numbered

  -- one more session
  pub one_more_kept : length m.sessions < 64 → session_of m who ≡ None → IsKept (with_one_more m who)
  one_more_kept few none = record {
    few_sessions = omega (arith, few, length-append m.sessions (record { who = who; held = [] } ∷ []));
    one_each = λ w. one_more_each (of_who w) m.sessions (record { who = who; held = [] }) (kept.one_each w) (λ same. subst (λ k. find (of_who k) m.sessions ≡ None) (eqb-true who w same) none);
    few_lines = kept.few_lines;
    few_snaps = kept.few_snaps;
    full_lines = kept.full_lines;
    one_line = kept.one_line;
    few_held = each_push IsFew m.sessions (record { who = who; held = [] }) kept.few_held (omega arith);
    first = kept.first;
    numbered = each_root Numbered m.lines (m.sessions ++ record { who = who; held = [] } ∷ []) lines
        (each_push (λ s. Each (λ h. Numbered h.snap) s.held) m.sessions (record { who = who; held = [] }) sessions (each_none (λ (h : Held). Numbered h.snap)));
    unfed = kept.unfed;
  }

  -- a session goes
  pub closed_kept : IsKept (record m { sessions = drop_first (of_who who) m.sessions })
  closed_kept = record {
    few_sessions = omega (arith, kept.few_sessions, length-drop_first (of_who who) m.sessions);
    one_each = λ w. omega (arith, kept.one_each w, count_dropped (of_who w) (of_who who) m.sessions);
    few_lines = kept.few_lines;
    few_snaps = kept.few_snaps;
    full_lines = kept.full_lines;
    one_line = kept.one_line;
    few_held = each_dropped IsFew (of_who who) m.sessions kept.few_held;
    first = kept.first;
    numbered = each_root Numbered m.lines (drop_first (of_who who) m.sessions) lines (each_dropped (λ s. Each (λ h. Numbered h.snap) s.held) (of_who who) m.sessions sessions);
    unfed = kept.unfed;
  }

  -- a graph goes
  pub released_kept : (name : Name) → IsKept (with_session m who (let_go name))
  released_kept name = record {
    few_sessions = subst (λ n. n ≤ 64) (sym (length-change_first (of_who who) (let_go name) m.sessions)) kept.few_sessions;
    one_each = λ w. subst (λ n. n ≤ 1) (sym (count_changed (of_who w) (of_who who) (let_go name) (λ s. refl) m.sessions)) (kept.one_each w);
    few_lines = kept.few_lines;
    few_snaps = kept.few_snaps;
    full_lines = kept.full_lines;
    one_line = kept.one_line;
    few_held = each_changed IsFew (of_who who) (let_go name) (λ s few. omega (arith, few, length-drop_first (named name) s.held)) m.sessions kept.few_held;
    first = kept.first;
    numbered = each_root Numbered m.lines (change_first (of_who who) (let_go name) m.sessions) lines
        (each_changed (λ s. Each (λ h. Numbered h.snap) s.held) (of_who who) (let_go name) (λ s all. each_dropped (λ (h : Held). Numbered h.snap) (named name) s.held all) m.sessions sessions);
    unfed = kept.unfed;
  }

  -- a graph comes
  module _ (h : Held) (new : ℕ) (may : MayHold m who h.name h.snap new) where
    abbrev Later : Snap → Type 0
    Later b = IsNumbered (m.next_column + new) b

    later : (b : Snap) → Numbered b → Later b
    later b is = record {
      wide = is.wide;
      within = λ c i. let w = is.within c i in (w.0, omega (arith, w.1));
      differ = is.differ;
    }

    pub drawn_kept : IsKept (drawn m who h new)
    drawn_kept = record {
      few_sessions = subst (λ n. n ≤ 64) (sym (length-change_first (of_who who) (hold_more h) m.sessions)) kept.few_sessions;
      one_each = λ w. subst (λ n. n ≤ 1) (sym (count_changed (of_who w) (of_who who) (hold_more h) (λ s. refl) m.sessions)) (kept.one_each w);
      few_lines = kept.few_lines;
      few_snaps = kept.few_snaps;
      full_lines = kept.full_lines;
      one_line = kept.one_line;
      few_held = each_found IsFew (of_who who) (hold_more h) may.session m.sessions may.is (omega (arith, may.room, length-append may.session.held (h ∷ []))) kept.few_held;
      first = omega (arith, kept.first);
      numbered = each_root Later m.lines (change_first (of_who who) (hold_more h) m.sessions) (λ l j b k. later b (lines l j b k))
          (each_changed (λ s. Each (λ x. Later x.snap) s.held) (of_who who) (hold_more h) (λ s all. each_push (λ x. Later x.snap) s.held h all may.numbered) m.sessions (λ s j x k. later x.snap (sessions s j x k)));
      unfed = kept.unfed;
    }

-- ---- published graphs

module _ (m : State) (who : ℕ) (kept : IsKept m) where
  abbrev Known : Snap → Type 0
  Known b = IsNumbered m.next_column b

  known_lines : InLines Known m.lines
  known_lines = in_lines Known m.lines m.sessions kept.numbered

  known_sessions : InSessions Known m.sessions
  known_sessions = in_sessions Known m.lines m.sessions kept.numbered

  -- the caller's session changes, with no more graphs than before and no snapshot but what was in use
  module _ (f : Session → Session) (same : (s : Session) → (f s).who ≡ s.who) (few : Each IsFew (change_first (of_who who) f m.sessions))
      (known : InSessions Known (change_first (of_who who) f m.sessions)) where
    pub session_kept : (lines : List Line) → length lines ≤ 256 → Each IsShort lines → Each IsFull lines
        → ((n : Name) → count_by (from_line n) lines ≤ 1) → InLines Known lines → IsKept (record (with_session m who f) { lines = lines })
    session_kept lines few_lines few_snaps full one ls = record {
      few_sessions = subst (λ n. n ≤ 64) (sym (length-change_first (of_who who) f m.sessions)) kept.few_sessions;
      one_each = λ w. subst (λ n. n ≤ 1) (sym (count_changed (of_who w) (of_who who) f (λ s. ap (λ n. eqb n w) (same s)) m.sessions)) (kept.one_each w);
      few_lines = few_lines;
      few_snaps = few_snaps;
      full_lines = full;
      one_line = one;
      few_held = few;
      first = kept.first;
      numbered = each_root Known lines (change_first (of_who who) f m.sessions) ls known;
      unfed = kept.unfed;
    }

  -- a private graph is published
  pub published_kept : (name : Name) (l : Line) (b : Snap) → l.snaps ≡ b ∷ [] → l.keep < 2 ^ 32 → Contains (roots m) b → line_of m l.name ≡ None → length m.lines < 256 → IsKept (published m who name l)
  published_kept name l b is keep root free room =
      session_kept (pin_as name l.name) (λ s. refl)
      (each_changed IsFew (of_who who) (pin_as name l.name) (λ s few. subst (λ n. n ≤ 256) (sym (length-change_first (named name) (to_pin l.name) s.held)) few) m.sessions kept.few_held)
      (each_changed (λ s. Each (λ h. Known h.snap) s.held) (of_who who) (pin_as name l.name)
      (λ s all. each_changed (λ h. Known h.snap) (named name) (to_pin l.name) (λ h k. k) s.held all) m.sessions known_sessions)
      (m.lines ++ l ∷ [])
      (omega (arith, room, length-append m.lines (l ∷ [])))
      (each_push IsShort m.lines l kept.few_snaps (record { few = omega (arith, ap length is, one_kept l.keep); keep = keep }))
      (each_push IsFull m.lines l kept.full_lines (omega (arith, ap length is)))
      (λ n. one_more_each (from_line n) m.lines l (kept.one_line n) (λ same. subst (λ x. find (from_line x) m.lines ≡ None) ((bytes_eq-Decides l.name n).0 same) free))
      (each_push (λ x. Each Known x.snaps) m.lines l known_lines (subst (Each Known) (sym is) (each_cons Known b [] (kept.numbered b root) (each_none Known))))

  -- a published graph goes
  pub unpublished_kept : (n : Name) → IsKept (without_line m n)
  unpublished_kept n = record {
    few_sessions = kept.few_sessions;
    one_each = kept.one_each;
    few_lines = omega (arith, kept.few_lines, length-drop_first (from_line n) m.lines);
    few_snaps = each_dropped IsShort (from_line n) m.lines kept.few_snaps;
    full_lines = each_dropped IsFull (from_line n) m.lines kept.full_lines;
    one_line = λ k. omega (arith, kept.one_line k, count_dropped (from_line k) (from_line n) m.lines);
    few_held = kept.few_held;
    first = kept.first;
    numbered = each_root Known (drop_first (from_line n) m.lines) m.sessions (each_dropped (λ l. Each Known l.snaps) (from_line n) m.lines known_lines) known_sessions;
    unfed = kept.unfed;
  }

  -- a snapshot in use is held once more
  pub pinned_kept : (s : Session) (h : Held) → session_of m who ≡ Some s → length s.held < 256 → Contains (roots m) h.snap → IsKept (with_session m who (hold_more h))
  pinned_kept s h is room root =
      session_kept (hold_more h) (λ t. refl)
      (each_found IsFew (of_who who) (hold_more h) s m.sessions is (omega (arith, room, length-append s.held (h ∷ []))) kept.few_held)
      (each_changed (λ t. Each (λ x. Known x.snap) t.held) (of_who who) (hold_more h) (λ t all. each_push (λ x. Known x.snap) t.held h all (kept.numbered h.snap root)) m.sessions known_sessions)
      m.lines kept.few_lines kept.few_snaps kept.full_lines kept.one_line known_lines

  -- a pin moves to a snapshot in use
  pub moved_kept : (name : Name) (b : Snap) → Contains (roots m) b → IsKept (with_session m who (move_to name b))
  moved_kept name b root =
      session_kept (move_to name b) (λ t. refl)
      (each_changed IsFew (of_who who) (move_to name b) (λ s few. subst (λ n. n ≤ 256) (sym (length-change_first (named name) (to_snap b) s.held)) few) m.sessions kept.few_held)
      (each_changed (λ t. Each (λ x. Known x.snap) t.held) (of_who who) (move_to name b)
      (λ t all. each_changed (λ x. Known x.snap) (named name) (to_snap b) (λ x k. kept.numbered b root) t.held all) m.sessions known_sessions)
      m.lines kept.few_lines kept.few_snaps kept.full_lines kept.one_line known_lines

-- ---- a published graph gets a snapshot more

short_latest : (snap : Snap) (l : Line) → IsShort l → IsShort (with_latest snap l)
short_latest snap l is = record {
  few = omega (arith, length-drop (length (l.snaps ++ snap ∷ []) - kept_count l.keep) (l.snaps ++ snap ∷ []));
  keep = is.keep;
}

full_latest : (snap : Snap) (l : Line) → IsFull l → IsFull (with_latest snap l)
full_latest snap l is = omega (arith, length-drop (length (l.snaps ++ snap ∷ []) - kept_count l.keep) (l.snaps ++ snap ∷ []), length-append l.snaps (snap ∷ []), one_kept l.keep)

each_latest : (P : Snap → Type 0) (snap : Snap) (l : Line) → P snap → Each P l.snaps → Each P (with_latest snap l).snaps
each_latest P snap l new old b h = each_push P l.snaps snap old new b (in_drop _ (l.snaps ++ snap ∷ []) b h)

module _ (m : State) (kept : IsKept m) (n : Name) (snap : Snap) (new : ℕ) (may : MayAppend m n snap new) where
  abbrev After : Snap → Type 0
  After b = IsNumbered (m.next_column + new) b

  after_all : (b : Snap) → IsNumbered m.next_column b → After b
  after_all b is = record {
    wide = is.wide;
    within = λ c i. let w = is.within c i in (w.0, omega (arith, w.1));
    differ = is.differ;
  }

  after_lines : InLines After m.lines
  after_lines l j b k = after_all b (in_lines (IsNumbered m.next_column) m.lines m.sessions kept.numbered l j b k)

  after_sessions : InSessions After m.sessions
  after_sessions s j h k = after_all h.snap (in_sessions (IsNumbered m.next_column) m.lines m.sessions kept.numbered s j h k)

  pub appended_kept : IsKept (appended m n snap new)
  appended_kept = record {
    few_sessions = kept.few_sessions;
    one_each = kept.one_each;
    few_lines = subst (λ k. k ≤ 256) (sym (length-change_first (from_line n) (with_latest snap) m.lines)) kept.few_lines;
    few_snaps = each_changed IsShort (from_line n) (with_latest snap) (short_latest snap) m.lines kept.few_snaps;
    full_lines = each_changed IsFull (from_line n) (with_latest snap) (full_latest snap) m.lines kept.full_lines;
    one_line = λ k. subst (λ i. i ≤ 1) (sym (count_changed (from_line k) (from_line n) (with_latest snap) (λ l. refl) m.lines)) (kept.one_line k);
    few_held = kept.few_held;
    first = omega (arith, kept.first);
    numbered = each_root After (change_first (from_line n) (with_latest snap) m.lines) m.sessions
        (each_changed (λ l. Each After l.snaps) (from_line n) (with_latest snap) (λ l all. each_latest After snap l may.numbered all) m.lines after_lines) after_sessions;
    unfed = kept.unfed;
  }
