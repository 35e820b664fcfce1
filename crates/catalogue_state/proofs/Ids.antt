-- Snapshot ids: what is listed with them is drawn at most once by a call, with the next id.
use Rattle.std.proofs.Common.{◌≡◌, ℕ, ◌<◌, ◌≤◌, ◌⊎◌, inl, inr, List, [], ◌∷◌, ◌++◌, Option, Some, None, false, refl, sym, ap, subst, ◌∙◌, arith, ◌-◌, length, drop}
use Rattle.std.specs.Prelude.{Contains, flat_map, is_some}
use Rattle.std.proofs.lemmas.Option.{none-some, same_Some}
use Rattle.std.proofs.lemmas.List.Concat.{flat_map_single}
use Rattle.std.proofs.lemmas.List.Elements.{Contains-append_left, Contains-append_right, Contains-append_cases}
use Rattle.turn_hall.specs.declared.entry.Entry.{Entry}
use Rattle.turn_hall.specs.Replay.{replay}
use Rattle.turn_hall.proofs.Histories.{replay-append, replay-keeps}
use Rattle.catalogue_state.specs.declared.ask.Ask.{Ask}
use Rattle.catalogue_state.specs.declared.ask.Ask.TheVariants.{OpenSession, CloseSession, Peek, Place, Derive, Publish, Unpublish, Get, Checkout, Append, Release, Columns, Lines}
use Rattle.catalogue_state.specs.declared.ask.How.TheVariants.{Changes}
use Rattle.catalogue_state.specs.declared.reply.Reply.{Reply}
use Rattle.catalogue_state.specs.declared.reply.Refusal.{Refusal}
use Rattle.catalogue_state.specs.declared.parts.Snap.{Snap}
use Rattle.catalogue_state.specs.declared.parts.Line.{Line}
use Rattle.catalogue_state.specs.declared.parts.Hold.{Hold}
use Rattle.catalogue_state.specs.declared.parts.Hold.TheVariants.{Private, Pin}
use Rattle.catalogue_state.specs.declared.parts.Held.{Held}
use Rattle.catalogue_state.specs.declared.parts.Session.{Session}
use Rattle.catalogue_state.specs.State.{Name, State, of_who, named, from_line, latest, snap_at, private_source, pinned_line, change_first, snaps_of, roots, line_of}
use Rattle.catalogue_state.specs.Step.{Answer, step, hold_more, let_go, private_graph, drawn, placed, derived, pin, to_pin, to_snap, pin_as, move_to, new_line, kept_count, with_latest, appended}
use Rattle.catalogue_state.specs.Bound.{opening}
use Rattle.catalogue_state.specs.Law.{line_sources, held_source, sid_sources}
use Rattle.catalogue_state.proofs.Keeping.{unless_keeps, unless_then_keeps, given_keeps, unless_refused_keeps}
use Rattle.catalogue_state.proofs.Lists.{Each, of_find, here, cases, in_drop, in_map, each_map, in_none, each_none, each_cons, each_changed, each_found, each_dropped, each_push, each_flat, in_flat}
use Rattle.catalogue_state.proofs.Latest.{of_latest, of_target}

no_source : (o : Option Name) → is_some o ≡ false → o ≡ None
no_source None e = refl
no_source (Some n) e = absurd (cc)

-- what a call lists is what was listed, and at most one new item, which has the next id
pub record Draws {Y : Type 0} (items : State → List Y) (sid : Y → ℕ) (m n : State) : Type 0 where
  pub new : Option Y
  pub next : (y : Y) → new ≡ Some y → (sid y ≡ m.next_sid) × (m.next_sid < n.next_sid)
  pub rises : m.next_sid ≤ n.next_sid
  pub each : Each (λ y. Contains (items m) y ⊎ (new ≡ Some y)) (items n)

-- each item has an id that was drawn, and no two have the same
pub record IsSound {Y : Type 0} (items : State → List Y) (sid : Y → ℕ) (m : State) : Type 0 where
  pub below : (y : Y) → Contains (items m) y → sid y < m.next_sid
  pub one : (x y : Y) → Contains (items m) x → Contains (items m) y → sid x ≡ sid y → x ≡ y

module _ {Y : Type 0} (items : State → List Y) (sid : Y → ℕ) where
  module _ (m n : State) (d : Draws items sid m n) (sound : IsSound items sid m) where
    below_of : (y : Y) → Contains (items m) y ⊎ (d.new ≡ Some y) → sid y < n.next_sid
    below_of y (inl h) = omega (arith, sound.below y h, d.rises)
    below_of y (inr e) = omega (arith, (d.next y e).0, (d.next y e).1)

    same_of : (x y : Y) → Contains (items m) x ⊎ (d.new ≡ Some x) → Contains (items m) y ⊎ (d.new ≡ Some y) → sid x ≡ sid y → x ≡ y
    same_of x y (inl h) (inl k) q = sound.one x y h k q
    same_of x y (inl h) (inr e) q = absurd (omega (arith, sound.below x h, (d.next y e).0, q))
    same_of x y (inr e) (inl k) q = absurd (omega (arith, sound.below y k, (d.next x e).0, q))
    same_of x y (inr e) (inr f) q = same_Some x y (sym e ∙ f)

    sound_next : IsSound items sid n
    sound_next = record { below = λ y h. below_of y (d.each y h); one = λ x y h k q. same_of x y (d.each x h) (d.each y k) q }

  old_of : (m n : State) (d : Draws items sid m n) (y : Y) → sid y < m.next_sid → Contains (items m) y ⊎ (d.new ≡ Some y) → Contains (items m) y
  old_of m n d y lt (inl h) = h
  old_of m n d y lt (inr e) = absurd (omega (arith, (d.next y e).0, lt))

  module _ (draws : (m : State) (who : ℕ) (ask : Ask) → Draws items sid m (step m who ask).1) where
    -- an item of a later state whose id was drawn before is one of the earlier state
    old_replay : (m : State) (es : List (Entry Ask Reply)) (y : Y) → sid y < m.next_sid → Contains (items (replay step m es)) y → Contains (items m) y
    old_replay m [] y lt h = h
    old_replay m (e ∷ es) y lt h =
        let d = draws m e.who e.note in
        let n = (step m e.who e.note).1 in
        old_of m n d y lt (d.each y (old_replay n es y (omega (arith, d.rises, lt)) h))

    pub one_item : (m : State) (es more : List (Entry Ask Reply)) (x y : Y) → IsSound items sid m
        → Contains (items (replay step m es)) x → Contains (items (replay step m (es ++ more))) y → sid x ≡ sid y → x ≡ y
    one_item m es more x y first h k q =
        let s = replay-keeps step (IsSound items sid) (λ s who ask sound. sound_next s (step s who ask).1 (draws s who ask) sound) m es first in
        let later = subst (λ n. Contains (items n) y) (replay-append step m es more) k in
        s.one x y h (old_replay (replay step m es) more y (omega (arith, s.below x h, q)) later) q

-- ---- items of published graphs and of held graphs

module _ {Y : Type 0} (sid : Y → ℕ) (of_line : Line → List Y) (of_held : Held → List Y) where
  abbrev pub items : State → List Y
  items m = flat_map of_line m.lines ++ flat_map (λ s. flat_map of_held s.held) m.sessions

  abbrev of_session : Session → List Y
  of_session s = flat_map of_held s.held

  abbrev InSession : (Y → Type 0) → Session → Type 0
  InSession P s = Each (λ h. Each P (of_held h)) s.held

  module _ (P : Y → Type 0) (lines : List Line) (sessions : List Session) where
    each_item : Each (λ l. Each P (of_line l)) lines → Each (InSession P) sessions → Each P (flat_map of_line lines ++ flat_map of_session sessions)
    each_item ls ss y h =
        elim (Contains-append_cases (flat_map of_line lines) (flat_map of_session sessions) y h) [
          | inl k ↦ each_flat P of_line lines ls y k
          | inr k ↦ each_flat P of_session sessions (λ s j. each_flat P of_held s.held (ss s j)) y k
        ]

    in_lines : Each P (flat_map of_line lines ++ flat_map of_session sessions) → Each (λ l. Each P (of_line l)) lines
    in_lines all l j y k = all y (Contains-append_left (flat_map of_line lines) (flat_map of_session sessions) y (in_flat of_line l lines y j k))

    in_sessions : Each P (flat_map of_line lines ++ flat_map of_session sessions) → Each (InSession P) sessions
    in_sessions all s j h k y i =
        all y (Contains-append_right (flat_map of_line lines) (flat_map of_session sessions) y (in_flat of_session s sessions y j (in_flat of_held h s.held y k i)))

  -- a private graph has one item, with the id of its snapshot; it has the same where it is published, and a pin has no items but
  -- those of its published graph; a snapshot more of a published graph without a source has the item of a private graph
  pub record IsListing : Type 0 where
    pub single : (name : Name) (source : Option Name) (snap : Snap) → (y : Y) × (of_held (private_graph name source snap) ≡ y ∷ []) × (sid y ≡ snap.sid)
    pub published : (who : ℕ) (line : Name) (keep threshold : ℕ) (name : Name) (source : Option Name) (snap : Snap) → of_line (new_line who line keep threshold source snap) ≡ of_held (private_graph name source snap)
    pub pins : (name line : Name) (snap : Snap) (l : Line) → Contains l.snaps snap → Each (Contains (of_line l)) (of_held (pin name line snap))
    pub kept_pins : (line : Name) (h : Held) → Each (Contains (of_held h)) (of_held (to_pin line h))
    pub appends : (name : Name) (snap : Snap) (l : Line) → l.source ≡ None → Each (λ y. Contains (of_line l) y ⊎ Contains (of_held (private_graph name None snap)) y) (of_line (with_latest snap l))

  module _ (listing : IsListing) where
    module _ (m : State) where
      abbrev Old : Y → Type 0
      Old y = Contains (items m) y

      abbrev Now : Option Y → Y → Type 0
      Now new y = Old y ⊎ (new ≡ Some y)

      lines : (new : Option Y) → Each (λ l. Each (Now new) (of_line l)) m.lines
      lines new l j y k = inl (in_lines Old m.lines m.sessions (λ x h. h) l j y k)

      sessions : (new : Option Y) → Each (InSession (Now new)) m.sessions
      sessions new s j h k y i = inl (in_sessions Old m.lines m.sessions (λ x h. h) s j h k y i)

      abbrev D : Answer → Type 0
      D a = Draws items sid m a.1

      -- where nothing is drawn
      abbrev InLine : Line → Type 0
      InLine l = Each (Now None) (of_line l)

      none_drawn : (n : State) → n.next_sid ≡ m.next_sid → Each InLine n.lines → Each (InSession (Now None)) n.sessions → Draws items sid m n
      none_drawn n same ls ss = record {
        new = None;
        next = λ y e. absurd (none-some y e);
        rises = omega (arith, same);
        each = each_item (Now None) n.lines n.sessions ls ss;
      }

      kept : (r : Refusal) → Draws items sid m m
      kept r = none_drawn m refl (lines None) (sessions None)

      -- the items of a graph that is held for itself are those of the published graph that is made of it
      line_of_private_at : (who : ℕ) (line : Name) (keep threshold : ℕ) (name : Name) (hold : Hold) (snap : Snap) (source : Option Name) → private_source hold ≡ Some source
          → Each (Now None) (of_held (record { name = name; hold = hold; snap = snap })) → InLine (new_line who line keep threshold source snap)
      line_of_private_at who line keep threshold name (Private own) snap source is all =
          subst (λ o. InLine (new_line who line keep threshold o snap)) (same_Some own source is)
          (subst (Each (Now None)) (sym (listing.published who line keep threshold name own snap)) all)
      line_of_private_at who line keep threshold name (Pin own) snap source is all = absurd (none-some source is)

      -- the items of a pin are those of the published graph that has its snapshot
      of_pin : (name line : Name) (snap : Snap) (l : Line) → Contains m.lines l → Contains l.snaps snap → Each (Now None) (of_held (pin name line snap))
      of_pin name line snap l h k y i = lines None l h y (listing.pins name line snap l k y i)

      moved_pin_at : (name : Name) (hold : Hold) (line : Name) (snap : Snap) (l : Line) → pinned_line hold ≡ Some line → Contains m.lines l → Contains l.snaps snap
          → Each (Now None) (of_held (record { name = name; hold = hold; snap = snap }))
      moved_pin_at name (Private own) line snap l is h k = absurd (none-some line is)
      moved_pin_at name (Pin own) line snap l is h k = of_pin name own snap l h k

      to_pins : (line : Name) (h : Held) → Each (Now None) (of_held h) → Each (Now None) (of_held (to_pin line h))
      to_pins line h all y i = all y (listing.kept_pins line h y i)

      -- where a private graph is drawn
      one_drawn : (who : ℕ) (name : Name) (source : Option Name) (snap : Snap) (new : ℕ) → snap.sid ≡ m.next_sid → Draws items sid m (drawn m who (private_graph name source snap) new)
      one_drawn who name source snap new at =
          let y = (listing.single name source snap).0 in
          let is = (listing.single name source snap).1 in
          let id = (listing.single name source snap).2 in
          let h = private_graph name source snap in
          let one : Each (Now (Some y)) (of_held h) = subst (Each (Now (Some y))) (sym is) (each_cons (Now (Some y)) y [] (inr refl) (each_none (Now (Some y)))) in
          record {
            new = Some y;
            next = λ x e. (ap sid (sym (same_Some y x e)) ∙ id ∙ at, omega arith);
            rises = omega arith;
            each = each_item (Now (Some y)) m.lines (change_first (of_who who) (hold_more h) m.sessions) (lines (Some y))
                (each_changed (InSession (Now (Some y))) (of_who who) (hold_more h) (λ s all. each_push (λ x. Each (Now (Some y)) (of_held x)) s.held h all one) m.sessions (sessions (Some y)));
          }

      -- where a published graph gets a snapshot more
      one_appended : (line : Name) (l : Line) (snap : Snap) (new : ℕ) → line_of m line ≡ Some l → l.source ≡ None → snap.sid ≡ m.next_sid → Draws items sid m (appended m line snap new)
      one_appended line l snap new has none at =
          let y = (listing.single line None snap).0 in
          let is = (listing.single line None snap).1 in
          let id = (listing.single line None snap).2 in
          let one : Each (Now (Some y)) (of_held (private_graph line None snap)) = subst (Each (Now (Some y))) (sym is) (each_cons (Now (Some y)) y [] (inr refl) (each_none (Now (Some y)))) in
          let old = lines (Some y) in
          let more : Each (Now (Some y)) (of_line (with_latest snap l))
          = λ z k. elim (listing.appends line snap l none z k) [ inl i ↦ old l (of_find (from_line line) m.lines l has) z i | inr i ↦ one z i ] in
          record {
            new = Some y;
            next = λ x e. (ap sid (sym (same_Some y x e)) ∙ id ∙ at, omega arith);
            rises = omega arith;
            each = each_item (Now (Some y)) (change_first (from_line line) (with_latest snap) m.lines) m.sessions
                (each_found (λ x. Each (Now (Some y)) (of_line x)) (from_line line) (with_latest snap) l m.lines has more old) (sessions (Some y));
          }

      pub step_draws : (who : ℕ) (ask : Ask) → Draws items sid m (step m who ask).1
      step_draws who OpenSession =
          unless_keeps D m kept _ _ _ (unless_keeps D m kept _ _ _
          (none_drawn _ refl (lines None) (each_push (InSession (Now None)) m.sessions _ (sessions None) (each_none (λ h. Each (Now None) (of_held h))))))
      step_draws who CloseSession = given_keeps D m kept _ _ _ (λ s is. none_drawn _ refl (lines None) (each_dropped (InSession (Now None)) (of_who who) m.sessions (sessions None)))
      step_draws who (Peek source) = given_keeps D m kept _ _ _ (λ s is. none_drawn _ refl (lines None) (sessions None))
      step_draws who (Place name source front) =
          given_keeps D m kept _ _ _ (λ s is. given_keeps D m kept _ _ _ (λ from js.
          unless_keeps D m kept _ _ _ (unless_keeps D m kept _ _ _ (unless_keeps D m kept _ _ _
          (one_drawn who name (Some source) (placed m from front) _ refl)))))
      step_draws who (Derive name base how) =
          given_keeps D m kept _ _ _ (λ s is. given_keeps D m kept _ _ _ (λ b js.
          unless_keeps D m kept _ _ _ (unless_keeps D m kept _ _ _ (unless_refused_keeps D m kept _ _ (λ ks.
          one_drawn who name None (derived m b.snap how) _ refl)))))
      step_draws who (Publish name line keep threshold) =
          given_keeps D m kept _ _ _ (λ s is. given_keeps D m kept _ _ _ (λ h js. given_keeps D m kept _ _ _ (λ source ks.
          unless_keeps D m kept _ _ _ (unless_keeps D m kept _ _ _ (none_drawn _ refl
          (each_push InLine m.lines _ (lines None) (line_of_private_at who line keep threshold h.name h.hold h.snap source ks (sessions None s (of_find (of_who who) m.sessions s is) h (of_find (named name) s.held h js))))
          (each_changed (InSession (Now None)) (of_who who) (pin_as name line) (λ t all. each_changed (λ x. Each (Now None) (of_held x)) (named name) (to_pin line) (to_pins line) t.held all) m.sessions (sessions None)))))))
      step_draws who (Unpublish line) =
          given_keeps D m kept _ _ _ (λ s is. given_keeps D m kept _ _ _ (λ l js. unless_keeps D m kept _ _ _ (none_drawn _ refl (each_dropped InLine (from_line line) m.lines (lines None)) (sessions None))))
      step_draws who (Get line name) =
          given_keeps D m kept _ _ _ (λ s is. given_keeps D m kept _ _ _ (λ l js. unless_keeps D m kept _ _ _ (unless_keeps D m kept _ _ _ (
          given_keeps D m kept _ _ _ (λ snap ks. none_drawn _ refl (lines None)
          (each_changed (InSession (Now None)) (of_who who) (hold_more (pin name line snap))
          (λ t all. each_push (λ x. Each (Now None) (of_held x)) t.held (pin name line snap) all (of_pin name line snap l (of_find (from_line line) m.lines l js) (of_latest l.snaps snap ks))) m.sessions (sessions None)))))))
      step_draws who (Checkout name target) =
          given_keeps D m kept _ _ _ (λ s is. given_keeps D m kept _ _ _ (λ h js. given_keeps D m kept _ _ _ (λ line ks.
          given_keeps D m kept _ _ _ (λ l ls. given_keeps D m kept _ _ _ (λ snap ns. none_drawn _ refl (lines None)
          (each_found (InSession (Now None)) (of_who who) (move_to name snap) s m.sessions is
          (each_found (λ x. Each (Now None) (of_held x)) (named name) (to_snap snap) h s.held js (moved_pin_at h.name h.hold line snap l ks (of_find (from_line line) m.lines l ls) (of_target target l.snaps snap ns)) (sessions None s (of_find (of_who who) m.sessions s is))) (sessions None)))))))
      step_draws who (Append name changes) =
          given_keeps D m kept _ _ _ (λ s is. given_keeps D m kept _ _ _ (λ h js. given_keeps D m kept _ _ _ (λ line ks.
          given_keeps D m kept _ _ _ (λ l ls. unless_then_keeps D m kept _ _ _ (λ none. given_keeps D m kept _ _ _ (λ last ns.
          unless_keeps D m kept _ _ _ (unless_refused_keeps D m kept _ _ (λ os.
          one_appended line l (derived m h.snap (Changes changes)) _ ls (no_source l.source none) refl))))))))
      step_draws who (Release name) =
          given_keeps D m kept _ _ _ (λ s is. given_keeps D m kept _ _ _ (λ h js.
          none_drawn _ refl (lines None)
          (each_changed (InSession (Now None)) (of_who who) (let_go name) (λ t all. each_dropped (λ x. Each (Now None) (of_held x)) (named name) t.held all) m.sessions (sessions None))))
      step_draws who Columns = none_drawn _ refl (lines None) (sessions None)
      step_draws who Lines = none_drawn _ refl (lines None) (sessions None)

    -- before any call nothing is listed
    opening_sound : (m : State) → opening m ≡ m → IsSound items sid m
    opening_sound m first =
        let none : (y : Y) → Contains (items m) y → ⊥ = λ y h. in_none y (subst (λ (s : State). Contains (items s) y) (sym first) h) in
        record { below = λ y h. absurd (none y h); one = λ x y h k q. absurd (none x h) }

    pub one_drawn_item : (m : State) (es more : List (Entry Ask Reply)) (x y : Y) → opening m ≡ m
        → Contains (items (replay step m es)) x → Contains (items (replay step m (es ++ more))) y → sid x ≡ sid y → x ≡ y
    one_drawn_item m es more x y first h k q = one_item items sid step_draws m es more x y (opening_sound m first) h k q

-- ---- snapshots

abbrev snap_sid : Snap → ℕ
snap_sid b = b.sid

abbrev snaps_of_line : Line → List Snap
snaps_of_line l = l.snaps

abbrev snap_of_held : Held → List Snap
snap_of_held h = h.snap ∷ []

held_snaps : (sessions : List Session) → flat_map (λ s. flat_map snap_of_held s.held) sessions ≡ flat_map (λ s. snaps_of s.held) sessions
held_snaps [] = refl
held_snaps (s ∷ sessions) =
    ap (λ l. l ++ flat_map (λ (s : Session). flat_map snap_of_held s.held) sessions) (flat_map_single (λ (h : Held). h.snap) s.held) ∙ ap (λ l. snaps_of s.held ++ l) (held_snaps sessions)

snaps_are_roots : (m : State) → roots m ≡ items snap_sid snaps_of_line snap_of_held m
snaps_are_roots m = ap (λ l. flat_map snaps_of_line m.lines ++ l) (sym (held_snaps m.sessions))

appended_snap : (snap : Snap) (snaps : List Snap) (n : ℕ) (y : Snap) → Contains (drop n (snaps ++ snap ∷ [])) y → Contains snaps y ⊎ Contains (snap ∷ []) y
appended_snap snap snaps n y h = Contains-append_cases snaps (snap ∷ []) y (in_drop n (snaps ++ snap ∷ []) y h)

snaps_listed : IsListing snap_sid snaps_of_line snap_of_held
snaps_listed = record {
  single = λ name source snap. (snap, refl, refl);
  published = λ who line keep threshold name source snap. refl;
  pins = λ name line snap l h. each_cons (Contains l.snaps) snap [] h (each_none (Contains l.snaps));
  kept_pins = λ line h y i. i;
  appends = λ name snap l none y k. appended_snap snap l.snaps (length (l.snaps ++ snap ∷ []) - kept_count l.keep) y k;
}

pub one_snap : (m : State) (es more : List (Entry Ask Reply)) (a b : Snap) → opening m ≡ m
    → Contains (roots (replay step m es)) a → Contains (roots (replay step m (es ++ more))) b → a.sid ≡ b.sid → a ≡ b
one_snap m es more a b first h k q =
    one_drawn_item snap_sid snaps_of_line snap_of_held snaps_listed m es more a b first
    (subst (λ l. Contains l a) (snaps_are_roots (replay step m es)) h) (subst (λ l. Contains l b) (snaps_are_roots (replay step m (es ++ more))) k) q

-- ---- sources

abbrev source_sid : ℕ × Option Name → ℕ
source_sid p = p.0

module _ (name : Name) (snap : Snap) (l : Line) (none : l.source ≡ None) where
  abbrev OldOrNew : ℕ × Option Name → Type 0
  OldOrNew y = Contains (line_sources l) y ⊎ Contains (held_source (private_graph name None snap)) y

  abbrev with_source : Snap → ℕ × Option Name
  with_source s = (s.sid, l.source)

  abbrev new_one : List (ℕ × Option Name)
  new_one = (snap.sid, None) ∷ []

  of_new : (s : Snap) → snap ≡ s → Contains new_one (s.sid, l.source)
  of_new s q =
      subst (λ (z : Snap). Contains new_one (z.sid, l.source)) q (subst (λ (o : Option Name). Contains new_one (snap.sid, o)) (sym none) (here (snap.sid, None) []))

  appended_sources : Each OldOrNew (line_sources (with_latest snap l))
  appended_sources =
      let n = length (l.snaps ++ snap ∷ []) - kept_count l.keep in
      each_map OldOrNew with_source (drop n (l.snaps ++ snap ∷ [])) (λ s h.
      elim (Contains-append_cases l.snaps (snap ∷ []) s (in_drop n (l.snaps ++ snap ∷ []) s h)) [
        | inl k ↦ inl (in_map with_source l.snaps s k)
        | inr k ↦ elim (cases s snap [] k) [ inl q ↦ inr (of_new s q) | inr j ↦ absurd (in_none s j) ]
      ])

sources_listed : IsListing source_sid line_sources held_source
sources_listed = record {
  single = λ name source snap. ((snap.sid, source), refl, refl);
  published = λ who line keep threshold name source snap. refl;
  pins = λ name line snap l h. each_none (Contains (line_sources l));
  kept_pins = λ line h. each_none (Contains (held_source h));
  appends = appended_sources;
}

pub one_source : (m : State) (es more : List (Entry Ask Reply)) (sid : ℕ) (x y : Option Name) → opening m ≡ m
    → Contains (sid_sources (replay step m es)) (sid, x) → Contains (sid_sources (replay step m (es ++ more))) (sid, y) → x ≡ y
one_source m es more sid x y first h k =
    ap (λ (p : ℕ × Option Name). p.1) (one_drawn_item source_sid line_sources held_source sources_listed m es more (sid, x) (sid, y) first h k refl)
