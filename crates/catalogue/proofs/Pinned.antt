-- The snapshots in use, where a graph is published, held as a pin, moved or taken back.
use Rattle.std.proofs.Common.{◌≡◌, ℕ, ◌+◌, ◌^◌, ◌<◌, ◌≤◌, inl, inr, List, [], ◌∷◌, ◌++◌, Some, Bool, true, false, refl, sym, ap, subst, ◌∙◌, cond, arith, append_assoc}
use Rattle.std.specs.Prelude.{Contains, All, find, flat_map}
use Rattle.std.proofs.lemmas.Option.{none-some, same_Some}
use Rattle.std.proofs.lemmas.List.{append-nil}
use Rattle.std.proofs.lemmas.List.Elements.{Contains-append_left, Contains-append_right, Contains-append_cases}
use Rattle.column_reclaim.specs.Registry.{IsListed, times, raised}
use Rattle.catalogue_state.specs.declared.parts.Snap.{Snap}
use Rattle.catalogue_state.specs.declared.parts.Line.{Line}
use Rattle.catalogue_state.specs.declared.parts.Held.{Held}
use Rattle.catalogue_state.specs.declared.parts.Session.{Session}
use Rattle.catalogue_state.specs.State.{Name, State, of_who, named, from_line, held_of, change_first, drop_first, snaps_of, roots_of, roots}
use Rattle.catalogue_state.specs.Step.{to_pin, to_snap, pin_as, move_to}
use Rattle.catalogue.specs.Kept.{IsKept}
use Rattle.catalogue.specs.Registry.{Rows, uses, IsRegistry, Comes}
use Rattle.catalogue_state.proofs.Lists.{here, there, cases}
use Rattle.catalogue.proofs.Uses.{uses_cons, uses_append, registry_same, kept_listed, kept_room, registry_come}
use Rattle.catalogue.proofs.Apart.{IsWith, with_front, with_back, with_first, few_roots, gone_uses, gone_in, of_line, of_session}
use Rattle.catalogue.proofs.Coming.{all_kept}

-- ---- a snapshot in use is used once more

module _ (m : State) (rows : Rows) (f : IsRegistry rows (roots m)) (kept : IsKept m) (b : Snap) (root : Contains (roots m) b) where
  comes : Comes (roots m) m.next_column b b.columns []
  comes = all_kept (roots m) m.next_column b b root refl refl

  differ : (c : ℕ) → times c b.columns ≤ 1
  differ c = (kept.numbered b root).differ c

  pub shared_listed : All (IsListed rows) b.columns
  shared_listed = kept_listed rows m.next_column b (roots m) b.columns [] f kept.numbered differ comes

  pub shared_room : All (λ r. r.count + times r.id b.columns < 2 ^ 64) rows
  shared_room = kept_room rows m.next_column b (roots m) b.columns [] f kept.numbered differ comes (2 ^ 64) (omega (arith, few_roots m kept))

  pub registry_shared : IsRegistry (raised b.columns rows) (b ∷ roots m)
  registry_shared =
      subst (λ (l : Rows). IsRegistry l (b ∷ roots m)) (append-nil (raised b.columns rows))
      (registry_come rows m.next_column b (roots m) b.columns [] f kept.numbered differ comes)

-- ---- a graph is published

line_more : (l : Line) (b : Snap) → l.snaps ≡ b ∷ [] → (lines : List Line) → IsWith (flat_map of_line lines) b (flat_map of_line (lines ++ l ∷ []))
line_more l b is [] = subst (λ s. IsWith [] b (s ++ [])) (sym is) (with_first b [])
line_more l b is (x ∷ lines) = with_front x.snaps (flat_map of_line lines) b (flat_map of_line (lines ++ l ∷ [])) (line_more l b is lines)

pinned_snaps_at : (name line : Name) (h : Held) (held : List Held) (b : Bool) → snaps_of (change_first (named name) (to_pin line) held) ≡ snaps_of held
    → snaps_of (cond b (to_pin line h ∷ held) (h ∷ change_first (named name) (to_pin line) held)) ≡ h.snap ∷ snaps_of held
pinned_snaps_at name line h held true ih = refl
pinned_snaps_at name line h held false ih = ap (λ l. h.snap ∷ l) ih

pinned_snaps : (name line : Name) (held : List Held) → snaps_of (change_first (named name) (to_pin line) held) ≡ snaps_of held
pinned_snaps name line [] = refl
pinned_snaps name line (h ∷ held) = pinned_snaps_at name line h held (named name h) (pinned_snaps name line held)

pinned_sessions_at : (who : ℕ) (name line : Name) (s : Session) (ss : List Session) (b : Bool)
    → flat_map of_session (change_first (of_who who) (pin_as name line) ss) ≡ flat_map of_session ss
    → flat_map of_session (cond b (pin_as name line s ∷ ss) (s ∷ change_first (of_who who) (pin_as name line) ss)) ≡ of_session s ++ flat_map of_session ss
pinned_sessions_at who name line s ss true ih = ap (λ l. l ++ flat_map of_session ss) (pinned_snaps name line s.held)
pinned_sessions_at who name line s ss false ih = ap (λ l. of_session s ++ l) ih

-- a graph that is held as a pin from now on has the same snapshot
pinned_sessions : (who : ℕ) (name line : Name) (ss : List Session) → flat_map of_session (change_first (of_who who) (pin_as name line) ss) ≡ flat_map of_session ss
pinned_sessions who name line [] = refl
pinned_sessions who name line (s ∷ ss) = pinned_sessions_at who name line s ss (of_who who s) (pinned_sessions who name line ss)

pub published_roots : (lines : List Line) (sessions : List Session) (who : ℕ) (name line : Name) (l : Line) (b : Snap) → l.snaps ≡ b ∷ []
    → IsWith (roots_of lines sessions) b (roots_of (lines ++ l ∷ []) (change_first (of_who who) (pin_as name line) sessions))
published_roots lines sessions who name line l b is =
    subst (λ k. IsWith (roots_of lines sessions) b (flat_map of_line (lines ++ l ∷ []) ++ k)) (sym (pinned_sessions who name line sessions))
    (with_back (flat_map of_session sessions) (flat_map of_line lines) b (flat_map of_line (lines ++ l ∷ [])) (line_more l b is lines))

-- ---- a published graph that goes stands apart

pub line_apart : (rows : Rows) (sessions : List Session) (name : Name) (l : Line) (lines : List Line) → find (from_line name) lines ≡ Some l
    → IsRegistry rows (roots_of lines sessions) → IsRegistry rows (l.snaps ++ roots_of (drop_first (from_line name) lines) sessions)
line_apart rows sessions name l lines is f =
    let p = from_line name in
    let of_old = flat_map of_line lines in
    let of_new = flat_map of_line (drop_first p lines) in
    let of_all = flat_map of_session sessions in
    registry_same rows (of_old ++ of_all) (l.snaps ++ (of_new ++ of_all))
    (λ c. omega (arith, uses_append c of_old of_all, uses_append c l.snaps (of_new ++ of_all), uses_append c of_new of_all, gone_uses of_line p c l lines is))
    (λ t h. elim (Contains-append_cases l.snaps (of_new ++ of_all) t h) [
      | inl k ↦ Contains-append_left of_old of_all t ((gone_in of_line p t l lines is).0 k)
      | inr k ↦ elim (Contains-append_cases of_new of_all t k) [
        | inl j ↦ Contains-append_left of_old of_all t ((gone_in of_line p t l lines is).1 j)
        | inr j ↦ Contains-append_right of_old of_all t j
      ]
    ]) f

-- ---- a pin moves

-- a list of snapshots with another one at some place
pub record IsMoved (rs : List Snap) (s : Snap) (moved : List Snap) (t : Snap) : Type 0 where
  pub front : List Snap
  pub back : List Snap
  pub before : rs ≡ front ++ s ∷ back
  pub after : moved ≡ front ++ t ∷ back

moved_front : (l rs : List Snap) (s : Snap) (moved : List Snap) (t : Snap) → IsMoved rs s moved t → IsMoved (l ++ rs) s (l ++ moved) t
moved_front l rs s moved t w = record {
  front = l ++ w.front;
  back = w.back;
  before = ap (λ x. l ++ x) w.before ∙ sym (append_assoc l w.front (s ∷ w.back));
  after = ap (λ x. l ++ x) w.after ∙ sym (append_assoc l w.front (t ∷ w.back));
}

moved_back : (l rs : List Snap) (s : Snap) (moved : List Snap) (t : Snap) → IsMoved rs s moved t → IsMoved (rs ++ l) s (moved ++ l) t
moved_back l rs s moved t w = record {
  front = w.front;
  back = w.back ++ l;
  before = ap (λ x. x ++ l) w.before ∙ append_assoc w.front (s ∷ w.back) l;
  after = ap (λ x. x ++ l) w.after ∙ append_assoc w.front (t ∷ w.back) l;
}

held_moved_at : (name : Name) (t : Snap) (h x : Held) (held : List Held) (b : Bool) → named name x ≡ b → find (named name) (x ∷ held) ≡ Some h
    → (find (named name) held ≡ Some h → IsMoved (snaps_of held) h.snap (snaps_of (change_first (named name) (to_snap t) held)) t)
    → IsMoved (x.snap ∷ snaps_of held) h.snap (snaps_of (cond b (to_snap t x ∷ held) (x ∷ change_first (named name) (to_snap t) held))) t
held_moved_at name t h x held true e is ih =
    let q : x ≡ h = same_Some x h (rw e at is) in
    record { front = []; back = snaps_of held; before = ap (λ (z : Held). z.snap ∷ snaps_of held) q; after = refl }
held_moved_at name t h x held false e is ih =
    moved_front (x.snap ∷ []) (snaps_of held) h.snap (snaps_of (change_first (named name) (to_snap t) held)) t (ih (rw e at is))

held_moved : (name : Name) (t : Snap) (h : Held) (held : List Held) → find (named name) held ≡ Some h
    → IsMoved (snaps_of held) h.snap (snaps_of (change_first (named name) (to_snap t) held)) t
held_moved name t h [] is = absurd (none-some h is)
held_moved name t h (x ∷ held) is = held_moved_at name t h x held (named name x) refl is (held_moved name t h held)

module _ (who : ℕ) (name : Name) (t : Snap) (y : Session) (h : Held) (has : held_of y name ≡ Some h) where
  session_moved_at : (x : Session) (ss : List Session) (b : Bool) → of_who who x ≡ b → find (of_who who) (x ∷ ss) ≡ Some y
      → (find (of_who who) ss ≡ Some y → IsMoved (flat_map of_session ss) h.snap (flat_map of_session (change_first (of_who who) (move_to name t) ss)) t)
      → IsMoved (of_session x ++ flat_map of_session ss) h.snap (flat_map of_session (cond b (move_to name t x ∷ ss) (x ∷ change_first (of_who who) (move_to name t) ss))) t
  session_moved_at x ss true e is ih =
      let q : y ≡ x = sym (same_Some x y (rw e at is)) in
      moved_back (flat_map of_session ss) (of_session x) h.snap (of_session (move_to name t x)) t
      (held_moved name t h x.held (subst (λ (z : Session). held_of z name ≡ Some h) q has))
  session_moved_at x ss false e is ih =
      moved_front (of_session x) (flat_map of_session ss) h.snap (flat_map of_session (change_first (of_who who) (move_to name t) ss)) t (ih (rw e at is))

  session_moved : (ss : List Session) → find (of_who who) ss ≡ Some y → IsMoved (flat_map of_session ss) h.snap (flat_map of_session (change_first (of_who who) (move_to name t) ss)) t
  session_moved [] is = absurd (none-some y is)
  session_moved (x ∷ ss) is = session_moved_at x ss (of_who who x) refl is (session_moved ss)

  pub moved_roots : (lines : List Line) (ss : List Session) → find (of_who who) ss ≡ Some y
      → IsMoved (roots_of lines ss) h.snap (roots_of lines (change_first (of_who who) (move_to name t) ss)) t
  moved_roots lines ss is =
      moved_front (flat_map of_line lines) (flat_map of_session ss) h.snap (flat_map of_session (change_first (of_who who) (move_to name t) ss)) t (session_moved ss is)

-- with the new snapshot counted, the old one stands apart
module _ (rs : List Snap) (s : Snap) (moved : List Snap) (t : Snap) (w : IsMoved rs s moved t) where
  same_uses : (c : ℕ) → uses c (t ∷ rs) ≡ uses c (s ∷ moved)
  same_uses c =
      omega (
        arith,
        ap (uses c) w.before,
        ap (uses c) w.after,
        uses_append c w.front (s ∷ w.back),
        uses_append c w.front (t ∷ w.back),
        uses_cons c s w.back,
        uses_cons c t w.back,
        uses_cons c t rs,
        uses_cons c s moved,
      )

  old_one : Contains rs s
  old_one = subst (λ l. Contains l s) (sym w.before) (Contains-append_right w.front (s ∷ w.back) s (here s w.back))

  old_back : (x : Snap) → Contains w.back x → Contains rs x
  old_back x k = subst (λ l. Contains l x) (sym w.before) (Contains-append_right w.front (s ∷ w.back) x (there x s w.back k))

  old_front : (x : Snap) → Contains w.front x → Contains rs x
  old_front x k = subst (λ l. Contains l x) (sym w.before) (Contains-append_left w.front (s ∷ w.back) x k)

  of_moved : (x : Snap) → Contains moved x → Contains (t ∷ rs) x
  of_moved x h =
      elim (Contains-append_cases w.front (t ∷ w.back) x (subst (λ l. Contains l x) w.after h)) [
        | inl k ↦ there x t rs (old_front x k)
        | inr k ↦ elim (cases x t w.back k) [
          | inl q ↦ subst (Contains (t ∷ rs)) q (here t rs)
          | inr j ↦ there x t rs (old_back x j)
        ]
      ]

  pub moved_apart : (rows : Rows) → IsRegistry rows (t ∷ rs) → IsRegistry rows (s ∷ moved)
  moved_apart rows =
      registry_same rows (t ∷ rs) (s ∷ moved) same_uses
      (λ x h. elim (cases x s moved h) [ inl q ↦ subst (Contains (t ∷ rs)) q (there s t rs old_one) | inr k ↦ of_moved x k ])
