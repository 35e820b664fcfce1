-- The snapshots in use, with one more or one less.
use Rattle.std.proofs.Common.{◌≡◌, ℕ, zero, suc, ◌+◌, ◌*◌, ◌^◌, ◌<◌, ◌≤◌, ◌⊎◌, inl, inr, List, [], ◌∷◌, ◌++◌, Option, Some, None, Bool, true, false, refl, sym, ap, subst, ◌∙◌, cond, arith, length, get_or, drop, append_assoc, length-append, eqb}
use Rattle.std.specs.Prelude.{Contains, find, flat_map, option_and_then}
use Rattle.std.proofs.lemmas.Option.{none-some, same_Some}
use Rattle.std.proofs.lemmas.List.Elements.{Contains-append_left, Contains-append_right, Contains-append_cases}
use Rattle.catalogue_state.specs.declared.parts.Snap.{Snap}
use Rattle.catalogue_state.specs.declared.parts.Line.{Line}
use Rattle.catalogue_state.specs.declared.parts.Held.{Held}
use Rattle.catalogue_state.specs.declared.parts.Session.{Session}
use Rattle.catalogue_state.specs.State.{Name, State, of_who, named, held_of, change_first, drop_first, snaps_of, roots_of, roots}
use Rattle.catalogue_state.specs.Step.{hold_more, let_go}
use Rattle.catalogue.specs.Kept.{IsShort, IsKept}
use Rattle.catalogue.specs.Registry.{Rows, uses, IsRegistry}
use Rattle.catalogue_state.proofs.Lists.{Each, here, there, cases}
use Rattle.catalogue.proofs.Uses.{uses_cons, uses_append, registry_same}

-- a list of snapshots with one more, at some place
pub record IsWith (rs : List Snap) (s : Snap) (more : List Snap) : Type 0 where
  pub front : List Snap
  pub back : List Snap
  pub before : rs ≡ front ++ back
  pub after : more ≡ front ++ s ∷ back

module _ (rs : List Snap) (s : Snap) (more : List Snap) (w : IsWith rs s more) where
  uses_with : (c : ℕ) → uses c more ≡ uses c (s ∷ rs)
  uses_with c =
      omega (arith, ap (uses c) w.before, ap (uses c) w.after, uses_append c w.front w.back, uses_append c w.front (s ∷ w.back), uses_cons c s w.back, uses_cons c s rs)

  old_at : (t : Snap) → (s ≡ t) ⊎ Contains rs t → Contains more t
  old_at t (inl q) = subst (λ l. Contains l t) (sym w.after) (subst (Contains (w.front ++ s ∷ w.back)) q (Contains-append_right w.front (s ∷ w.back) s (here s w.back)))
  old_at t (inr h) =
      subst (λ l. Contains l t) (sym w.after) (elim (Contains-append_cases w.front w.back t (subst (λ l. Contains l t) w.before h)) [
        | inl k ↦ Contains-append_left w.front (s ∷ w.back) t k
        | inr k ↦ Contains-append_right w.front (s ∷ w.back) t (there t s w.back k)
      ])

  new_in : (t : Snap) → Contains more t → Contains (s ∷ rs) t
  new_in t h =
      elim (Contains-append_cases w.front (s ∷ w.back) t (subst (λ l. Contains l t) w.after h)) [
        | inl k ↦ there t s rs (subst (λ l. Contains l t) (sym w.before) (Contains-append_left w.front w.back t k))
        | inr k ↦ elim (cases t s w.back k) [
          | inl q ↦ subst (Contains (s ∷ rs)) q (here s rs)
          | inr j ↦ there t s rs (subst (λ l. Contains l t) (sym w.before) (Contains-append_right w.front w.back t j))
        ]
      ]

  -- the registry is the same wherever the one stands
  pub registry_in : (rows : Rows) → IsRegistry rows (s ∷ rs) → IsRegistry rows more
  registry_in rows = registry_same rows (s ∷ rs) more (λ c. sym (uses_with c)) new_in

  pub registry_out : (rows : Rows) → IsRegistry rows more → IsRegistry rows (s ∷ rs)
  registry_out rows = registry_same rows more (s ∷ rs) uses_with (λ t h. old_at t (cases t s rs h))

pub with_front : (l : List Snap) (rs : List Snap) (s : Snap) (more : List Snap) → IsWith rs s more → IsWith (l ++ rs) s (l ++ more)
with_front l rs s more w = record {
  front = l ++ w.front;
  back = w.back;
  before = ap (λ x. l ++ x) w.before ∙ sym (append_assoc l w.front w.back);
  after = ap (λ x. l ++ x) w.after ∙ sym (append_assoc l w.front (s ∷ w.back));
}

pub with_back : (l : List Snap) (rs : List Snap) (s : Snap) (more : List Snap) → IsWith rs s more → IsWith (rs ++ l) s (more ++ l)
with_back l rs s more w = record {
  front = w.front;
  back = w.back ++ l;
  before = ap (λ x. x ++ l) w.before ∙ append_assoc w.front w.back l;
  after = ap (λ x. x ++ l) w.after ∙ append_assoc w.front (s ∷ w.back) l;
}

pub with_first : (s : Snap) (rs : List Snap) → IsWith rs s (s ∷ rs)
with_first s rs = record { front = []; back = rs; before = refl; after = refl }

module _ {X : Type 0} (f : X → List Snap) (p : X → Bool) (g : X → X) (s : Snap) where
  more_at : (y x : X) (xs : List X) (b : Bool) → p x ≡ b → find p (x ∷ xs) ≡ Some y → IsWith (f y) s (f (g y))
      → (find p xs ≡ Some y → IsWith (flat_map f xs) s (flat_map f (change_first p g xs)))
      → IsWith (f x ++ flat_map f xs) s (flat_map f (cond b (g x ∷ xs) (x ∷ change_first p g xs)))
  more_at y x xs true e is w ih =
      let q : x ≡ y = same_Some x y (rw e at is) in
      with_back (flat_map f xs) (f x) s (f (g x)) (subst (λ z. IsWith (f z) s (f (g z))) (sym q) w)
  more_at y x xs false e is w ih = with_front (f x) (flat_map f xs) s (flat_map f (change_first p g xs)) (ih (rw e at is))

  pub with_more : (y : X) (xs : List X) → find p xs ≡ Some y → IsWith (f y) s (f (g y)) → IsWith (flat_map f xs) s (flat_map f (change_first p g xs))
  with_more y [] is w = absurd (none-some y is)
  with_more y (x ∷ xs) is w = more_at y x xs (p x) refl is w (λ i. with_more y xs i w)

  less_at : (y x : X) (xs : List X) (b : Bool) → p x ≡ b → find p (x ∷ xs) ≡ Some y → IsWith (f (g y)) s (f y)
      → (find p xs ≡ Some y → IsWith (flat_map f (change_first p g xs)) s (flat_map f xs))
      → IsWith (flat_map f (cond b (g x ∷ xs) (x ∷ change_first p g xs))) s (f x ++ flat_map f xs)
  less_at y x xs true e is w ih =
      let q : x ≡ y = same_Some x y (rw e at is) in
      with_back (flat_map f xs) (f (g x)) s (f x) (subst (λ z. IsWith (f (g z)) s (f z)) (sym q) w)
  less_at y x xs false e is w ih = with_front (f x) (flat_map f (change_first p g xs)) s (flat_map f xs) (ih (rw e at is))

  pub with_less : (y : X) (xs : List X) → find p xs ≡ Some y → IsWith (f (g y)) s (f y) → IsWith (flat_map f (change_first p g xs)) s (flat_map f xs)
  with_less y [] is w = absurd (none-some y is)
  with_less y (x ∷ xs) is w = less_at y x xs (p x) refl is w (λ i. with_less y xs i w)

-- a graph more, and one less
held_more : (h : Held) (held : List Held) → IsWith (snaps_of held) h.snap (snaps_of (held ++ h ∷ []))
held_more h [] = with_first h.snap []
held_more h (x ∷ held) = with_front (x.snap ∷ []) (snaps_of held) h.snap (snaps_of (held ++ h ∷ [])) (held_more h held)

held_less_at : (p : Held → Bool) (h x : Held) (held : List Held) (b : Bool) → p x ≡ b → find p (x ∷ held) ≡ Some h
    → (find p held ≡ Some h → IsWith (snaps_of (drop_first p held)) h.snap (snaps_of held))
    → IsWith (snaps_of (cond b held (x ∷ drop_first p held))) h.snap (x.snap ∷ snaps_of held)
held_less_at p h x held true e is ih =
    let q : x ≡ h = same_Some x h (rw e at is) in
    subst (λ (z : Held). IsWith (snaps_of held) z.snap (x.snap ∷ snaps_of held)) q (with_first x.snap (snaps_of held))
held_less_at p h x held false e is ih = with_front (x.snap ∷ []) (snaps_of (drop_first p held)) h.snap (snaps_of held) (ih (rw e at is))

held_less : (p : Held → Bool) (h : Held) (held : List Held) → find p held ≡ Some h → IsWith (snaps_of (drop_first p held)) h.snap (snaps_of held)
held_less p h [] is = absurd (none-some h is)
held_less p h (x ∷ held) is = held_less_at p h x held (p x) refl is (held_less p h held)

abbrev pub of_line : Line → List Snap
of_line l = l.snaps

abbrev pub of_session : Session → List Snap
of_session s = snaps_of s.held

-- the caller's session gets one more, or gives one up
pub roots_more : (lines : List Line) (sessions : List Session) (who : ℕ) (h : Held) (y : Session) → find (of_who who) sessions ≡ Some y
    → IsWith (roots_of lines sessions) h.snap (roots_of lines (change_first (of_who who) (hold_more h) sessions))
roots_more lines sessions who h y is =
    with_front (flat_map of_line lines) (flat_map of_session sessions) h.snap (flat_map of_session (change_first (of_who who) (hold_more h) sessions))
    (with_more of_session (of_who who) (hold_more h) h.snap y sessions is (held_more h y.held))

roots_less : (lines : List Line) (sessions : List Session) (who : ℕ) (name : Name) (h : Held) (y : Session) → find (of_who who) sessions ≡ Some y → held_of y name ≡ Some h
    → IsWith (roots_of lines (change_first (of_who who) (let_go name) sessions)) h.snap (roots_of lines sessions)
roots_less lines sessions who name h y is has =
    with_front (flat_map of_line lines) (flat_map of_session (change_first (of_who who) (let_go name) sessions)) h.snap (flat_map of_session sessions)
    (with_less of_session (of_who who) (let_go name) h.snap y sessions is (held_less (named name) h y.held has))

-- ---- a graph that goes stands apart

module _ (rows : Rows) (lines : List Line) (sessions : List Session) (who : ℕ) (name : Name) (h : Held) (f : IsRegistry rows (roots_of lines sessions)) where
  apart_at : (o : Option Session) → find (of_who who) sessions ≡ o → option_and_then (λ (s : Session). held_of s name) o ≡ Some h
      → IsRegistry rows (h.snap ∷ roots_of lines (change_first (of_who who) (let_go name) sessions))
  apart_at None e has = absurd (none-some h has)
  apart_at (Some y) e has =
      registry_out (roots_of lines (change_first (of_who who) (let_go name) sessions)) h.snap (roots_of lines sessions) (roots_less lines sessions who name h y e has) rows f

  pub graph_apart : option_and_then (λ (s : Session). held_of s name) (find (of_who who) sessions) ≡ Some h
      → IsRegistry rows (h.snap ∷ roots_of lines (change_first (of_who who) (let_go name) sessions))
  graph_apart = apart_at (find (of_who who) sessions) refl

-- ---- where nothing is found, nothing goes

module _ {X : Type 0} (p : X → Bool) where
  none_dropped_at : (x : X) (xs : List X) (b : Bool) → p x ≡ b → find p (x ∷ xs) ≡ None → (find p xs ≡ None → drop_first p xs ≡ xs) → cond b xs (x ∷ drop_first p xs) ≡ x ∷ xs
  none_dropped_at x xs true e none ih = absurd (none-some x (sym (rw e at none)))
  none_dropped_at x xs false e none ih = ap (λ l. x ∷ l) (ih (rw e at none))

  pub none_dropped : (xs : List X) → find p xs ≡ None → drop_first p xs ≡ xs
  none_dropped [] none = refl
  none_dropped (x ∷ xs) none = none_dropped_at x xs (p x) refl none (none_dropped xs)

  same_changed_at : (g : X → X) (x : X) (xs : List X) (b : Bool) → p x ≡ b → ((y : X) → find p (x ∷ xs) ≡ Some y → g y ≡ y)
      → (((y : X) → find p xs ≡ Some y → g y ≡ y) → change_first p g xs ≡ xs) → cond b (g x ∷ xs) (x ∷ change_first p g xs) ≡ x ∷ xs
  same_changed_at g x xs true e same ih = ap (λ y. y ∷ xs) (same x (rw e refl))
  same_changed_at g x xs false e same ih = ap (λ l. x ∷ l) (ih (λ y is. same y (rw e is)))

  pub same_changed : (g : X → X) (xs : List X) → ((y : X) → find p xs ≡ Some y → g y ≡ y) → change_first p g xs ≡ xs
  same_changed g [] same = refl
  same_changed g (x ∷ xs) same = same_changed_at g x xs (p x) refl same (same_changed g xs)

pub none_let_go : (sessions : List Session) (who : ℕ) (name : Name) → option_and_then (λ (s : Session). held_of s name) (find (of_who who) sessions) ≡ None
    → change_first (of_who who) (let_go name) sessions ≡ sessions
none_let_go sessions who name none =
    same_changed (of_who who) (let_go name) sessions (λ y is.
    let free : held_of y name ≡ None = sym (ap (option_and_then (λ (s : Session). held_of s name)) is) ∙ none in
    ap (λ (l : List Held). record y { held = l }) (none_dropped (named name) y.held free))

-- ---- a session that goes stands apart

module _ {X : Type 0} (f : X → List Snap) (p : X → Bool) where
  gone_uses_at : (c : ℕ) (y x : X) (xs : List X) (b : Bool) → p x ≡ b → find p (x ∷ xs) ≡ Some y
      → (find p xs ≡ Some y → uses c (flat_map f xs) ≡ uses c (f y) + uses c (flat_map f (drop_first p xs)))
      → uses c (f x ++ flat_map f xs) ≡ uses c (f y) + uses c (flat_map f (cond b xs (x ∷ drop_first p xs)))
  gone_uses_at c y x xs true e is ih =
      let q : x ≡ y = same_Some x y (rw e at is) in
      omega (arith, uses_append c (f x) (flat_map f xs), ap (λ z. uses c (f z)) q)
  gone_uses_at c y x xs false e is ih =
      omega (arith, uses_append c (f x) (flat_map f xs), uses_append c (f x) (flat_map f (drop_first p xs)), ih (rw e at is))

  pub gone_uses : (c : ℕ) (y : X) (xs : List X) → find p xs ≡ Some y → uses c (flat_map f xs) ≡ uses c (f y) + uses c (flat_map f (drop_first p xs))
  gone_uses c y [] is = absurd (none-some y is)
  gone_uses c y (x ∷ xs) is = gone_uses_at c y x xs (p x) refl is (gone_uses c y xs)

  gone_at : (t : Snap) (y x : X) (xs : List X) (b : Bool) → p x ≡ b → find p (x ∷ xs) ≡ Some y
      → (find p xs ≡ Some y → (Contains (f y) t → Contains (flat_map f xs) t) × (Contains (flat_map f (drop_first p xs)) t → Contains (flat_map f xs) t))
      → (Contains (f y) t → Contains (f x ++ flat_map f xs) t) × (Contains (flat_map f (cond b xs (x ∷ drop_first p xs))) t → Contains (f x ++ flat_map f xs) t)
  gone_at t y x xs true e is ih =
      let q : x ≡ y = same_Some x y (rw e at is) in
      (λ h. Contains-append_left (f x) (flat_map f xs) t (subst (λ z. Contains (f z) t) (sym q) h), λ h. Contains-append_right (f x) (flat_map f xs) t h)
  gone_at t y x xs false e is ih =
      let both = ih (rw e at is) in (
        λ h. Contains-append_right (f x) (flat_map f xs) t (both.0 h),
        λ h. elim (Contains-append_cases (f x) (flat_map f (drop_first p xs)) t h) [
          | inl k ↦ Contains-append_left (f x) (flat_map f xs) t k
          | inr k ↦ Contains-append_right (f x) (flat_map f xs) t (both.1 k)
        ],
      )

  pub gone_in : (t : Snap) (y : X) (xs : List X) → find p xs ≡ Some y → (Contains (f y) t → Contains (flat_map f xs) t) × (Contains (flat_map f (drop_first p xs)) t → Contains (flat_map f xs) t)
  gone_in t y [] is = absurd (none-some y is)
  gone_in t y (x ∷ xs) is = gone_at t y x xs (p x) refl is (gone_in t y xs)

pub session_apart : (rows : Rows) (lines : List Line) (who : ℕ) (y : Session) (ss : List Session) → find (of_who who) ss ≡ Some y
    → IsRegistry rows (roots_of lines ss) → IsRegistry rows (snaps_of y.held ++ roots_of lines (drop_first (of_who who) ss))
session_apart rows lines who y ss is f =
    let p = of_who who in
    let of_lines = flat_map of_line lines in
    let of_old = flat_map of_session ss in
    let of_new = flat_map of_session (drop_first p ss) in
    registry_same rows (of_lines ++ of_old) (snaps_of y.held ++ (of_lines ++ of_new))
    (λ c. omega (arith, uses_append c of_lines of_old, uses_append c (snaps_of y.held) (of_lines ++ of_new), uses_append c of_lines of_new, gone_uses of_session p c y ss is))
    (λ t h. elim (Contains-append_cases (snaps_of y.held) (of_lines ++ of_new) t h) [
      | inl k ↦ Contains-append_right of_lines of_old t ((gone_in of_session p t y ss is).0 k)
      | inr k ↦ elim (Contains-append_cases of_lines of_new t k) [
        | inl j ↦ Contains-append_left of_lines of_old t j
        | inr j ↦ Contains-append_right of_lines of_old t ((gone_in of_session p t y ss is).1 j)
      ]
    ]) f

-- ---- how many there are

flat_few : {X : Type 0} (f : X → List Snap) (n : ℕ) (xs : List X) → Each (λ x. length (f x) ≤ n) xs → length (flat_map f xs) ≤ length xs * n
flat_few f n [] all = omega arith
flat_few f n (x ∷ xs) all = grind (arith, length-append (f x) (flat_map f xs), all x (here x xs), flat_few f n xs (λ y h. all y (there y x xs h)))

snaps_length : (held : List Held) → length (snaps_of held) ≡ length held
snaps_length [] = refl
snaps_length (h ∷ held) = ap suc (snaps_length held)

few_at : (keep : ℕ) (b : Bool) → keep < 2 ^ 32 → cond {A = ℕ} b 1 keep ≤ 2 ^ 32
few_at keep true lt = omega arith
few_at keep false lt = omega (arith, lt)

few_of : (l : Line) → IsShort l → length l.snaps ≤ 2 ^ 32
few_of l is = omega (arith, is.few, few_at l.keep (eqb l.keep 0) is.keep)

pub few_roots : (m : State) → IsKept m → length (roots m) < 2 ^ 48
few_roots m kept =
    let a = flat_few of_line (2 ^ 32) m.lines (λ l h. few_of l (kept.few_snaps l h)) in
    let b = flat_few of_session 256 m.sessions (λ x h. subst (λ n. n ≤ 256) (sym (snaps_length x.held)) (kept.few_held x h)) in
    omega (arith, a, b, kept.few_lines, kept.few_sessions, length-append (flat_map of_line m.lines) (flat_map of_session m.sessions))

-- the next of the graphs that go
next_at : (held : List Held) (k : ℕ) (d : Held) → k < length held → snaps_of (drop k held) ≡ (get_or held k d).snap ∷ snaps_of (drop (suc k) held)
next_at [] k d lt = absurd (omega (arith, lt))
next_at (h ∷ held) zero d lt = refl
next_at (h ∷ held) (suc k) d lt = next_at held k d (omega (arith, lt))

pub next_snap : (held : List Held) (k : ℕ) (d : Held) → k < length held → snaps_of (drop k held) ≡ (get_or held k d).snap ∷ snaps_of (drop (k + 1) held)
next_snap held k d lt = let e : suc k ≡ k + 1 = omega arith in next_at held k d lt ∙ ap (λ n. (get_or held k d).snap ∷ snaps_of (drop n held)) e

pub all_gone : (held : List Held) (k : ℕ) → length held ≤ k → snaps_of (drop k held) ≡ []
all_gone [] zero le = refl
all_gone [] (suc k) le = refl
all_gone (h ∷ held) zero le = absurd (omega (arith, le))
all_gone (h ∷ held) (suc k) le = all_gone held k (omega (arith, le))

-- a session that holds nothing brings nothing
none_more : (sessions : List Session) (who : ℕ) → flat_map of_session (sessions ++ record { who = who; held = [] } ∷ []) ≡ flat_map of_session sessions
none_more [] who = refl
none_more (s ∷ sessions) who = ap (λ l. of_session s ++ l) (none_more sessions who)

pub same_roots : (lines : List Line) (sessions : List Session) (who : ℕ) → roots_of lines (sessions ++ record { who = who; held = [] } ∷ []) ≡ roots_of lines sessions
same_roots lines sessions who = ap (λ l. flat_map of_line lines ++ l) (none_more sessions who)
