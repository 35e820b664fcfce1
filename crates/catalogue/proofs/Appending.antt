-- The snapshots in use, where a published graph gets a snapshot more and its oldest goes.
use Rattle.std.proofs.Common.{◌≡◌, ℕ, ◌+◌, ◌-◌, ◌⊎◌, inl, inr, List, [], ◌∷◌, ◌++◌, Some, Bool, true, false, refl, sym, ap, subst, cond, arith, length}
use Rattle.std.specs.Prelude.{Contains, find, flat_map}
use Rattle.std.proofs.lemmas.Option.{none-some, same_Some}
use Rattle.std.proofs.lemmas.List.{take-append-drop}
use Rattle.std.proofs.lemmas.List.Elements.{Contains-append_left, Contains-append_right, Contains-append_cases}
use Rattle.catalogue_state.specs.declared.parts.Snap.{Snap}
use Rattle.catalogue_state.specs.declared.parts.Line.{Line}
use Rattle.catalogue_state.specs.declared.parts.Session.{Session}
use Rattle.catalogue_state.specs.State.{Name, from_line, change_first, roots_of}
use Rattle.catalogue_state.specs.Step.{kept_count, with_latest}
use Rattle.catalogue_state.proofs.Lists.{here, there, cases, in_none, in_drop}
use Rattle.catalogue.specs.Registry.{Rows, uses, IsRegistry}
use Rattle.catalogue.specs.Kept.{gone_of}
use Rattle.catalogue.proofs.Uses.{uses_cons, uses_append, registry_same}
use Rattle.catalogue.proofs.Apart.{of_line, of_session}

-- the snapshots that go and those that stay are those before and the new one
module _ (snap : Snap) (l : Line) where
  abbrev all : List Snap
  all = l.snaps ++ snap ∷ []

  abbrev count : ℕ
  count = length all - kept_count l.keep

  split : gone_of snap l ++ (with_latest snap l).snaps ≡ all
  split = take-append-drop count all

  split_uses : (c : ℕ) → uses c (gone_of snap l) + uses c (with_latest snap l).snaps ≡ uses c l.snaps + uses c (snap ∷ [])
  split_uses c = omega (arith, uses_append c (gone_of snap l) (with_latest snap l).snaps, ap (uses c) split, uses_append c l.snaps (snap ∷ []))

  one_at : (t : Snap) → (snap ≡ t) ⊎ Contains [] t → (snap ≡ t) ⊎ Contains l.snaps t
  one_at t (inl q) = inl q
  one_at t (inr k) = absurd (in_none t k)

  of_all : (t : Snap) → Contains all t → (snap ≡ t) ⊎ Contains l.snaps t
  of_all t h =
      elim (Contains-append_cases l.snaps (snap ∷ []) t h) [
        | inl k ↦ inr k
        | inr k ↦ one_at t (cases t snap [] k)
      ]

  gone_in : (t : Snap) → Contains (gone_of snap l) t → (snap ≡ t) ⊎ Contains l.snaps t
  gone_in t h = of_all t (subst (λ x. Contains x t) split (Contains-append_left (gone_of snap l) (with_latest snap l).snaps t h))

  kept_in : (t : Snap) → Contains (with_latest snap l).snaps t → (snap ≡ t) ⊎ Contains l.snaps t
  kept_in t h = of_all t (in_drop count all t h)

-- ---- lists of lists after one of them changed

module _ {X : Type 0} (f : X → List Snap) (p : X → Bool) (g : X → X) where
  changed_uses_at : (c : ℕ) (y x : X) (xs : List X) (b : Bool) → p x ≡ b → find p (x ∷ xs) ≡ Some y
      → (find p xs ≡ Some y → uses c (flat_map f xs) + uses c (f (g y)) ≡ uses c (f y) + uses c (flat_map f (change_first p g xs)))
      → uses c (f x ++ flat_map f xs) + uses c (f (g y)) ≡ uses c (f y) + uses c (flat_map f (cond b (g x ∷ xs) (x ∷ change_first p g xs)))
  changed_uses_at c y x xs true e is ih =
      let q : x ≡ y = same_Some x y (rw e at is) in
      omega (arith, uses_append c (f x) (flat_map f xs), uses_append c (f (g x)) (flat_map f xs), ap (λ z. uses c (f z)) q, ap (λ z. uses c (f (g z))) q)
  changed_uses_at c y x xs false e is ih =
      omega (arith, uses_append c (f x) (flat_map f xs), uses_append c (f x) (flat_map f (change_first p g xs)), ih (rw e at is))

  changed_uses : (c : ℕ) (y : X) (xs : List X) → find p xs ≡ Some y
      → uses c (flat_map f xs) + uses c (f (g y)) ≡ uses c (f y) + uses c (flat_map f (change_first p g xs))
  changed_uses c y [] is = absurd (none-some y is)
  changed_uses c y (x ∷ xs) is = changed_uses_at c y x xs (p x) refl is (changed_uses c y xs)

  changed_in_at : (t : Snap) (y x : X) (xs : List X) (b : Bool) → p x ≡ b → find p (x ∷ xs) ≡ Some y
      → (find p xs ≡ Some y → (Contains (flat_map f (change_first p g xs)) t → Contains (f (g y)) t ⊎ Contains (flat_map f xs) t) × (Contains (f y) t → Contains (flat_map f xs) t))
      → (Contains (flat_map f (cond b (g x ∷ xs) (x ∷ change_first p g xs))) t → Contains (f (g y)) t ⊎ Contains (f x ++ flat_map f xs) t) × (Contains (f y) t → Contains (f x ++ flat_map f xs) t)
  changed_in_at t y x xs true e is ih =
      let q : x ≡ y = same_Some x y (rw e at is) in (
        λ h. elim (Contains-append_cases (f (g x)) (flat_map f xs) t h) [
          | inl k ↦ inl (subst (λ z. Contains (f (g z)) t) q k)
          | inr k ↦ inr (Contains-append_right (f x) (flat_map f xs) t k)
        ],
        λ h. Contains-append_left (f x) (flat_map f xs) t (subst (λ z. Contains (f z) t) (sym q) h),
      )
  changed_in_at t y x xs false e is ih =
      let both = ih (rw e at is) in (
        λ h. elim (Contains-append_cases (f x) (flat_map f (change_first p g xs)) t h) [
          | inl k ↦ inr (Contains-append_left (f x) (flat_map f xs) t k)
          | inr k ↦ elim (both.0 k) [ inl j ↦ inl j | inr j ↦ inr (Contains-append_right (f x) (flat_map f xs) t j) ]
        ],
        λ h. Contains-append_right (f x) (flat_map f xs) t (both.1 h),
      )

  changed_in : (t : Snap) (y : X) (xs : List X) → find p xs ≡ Some y
      → (Contains (flat_map f (change_first p g xs)) t → Contains (f (g y)) t ⊎ Contains (flat_map f xs) t) × (Contains (f y) t → Contains (flat_map f xs) t)
  changed_in t y [] is = absurd (none-some y is)
  changed_in t y (x ∷ xs) is = changed_in_at t y x xs (p x) refl is (changed_in t y xs)

-- with the new snapshot counted, those that go stand apart
module _ (rows : Rows) (sessions : List Session) (name : Name) (snap : Snap) (l : Line) (lines : List Line) (is : find (from_line name) lines ≡ Some l) where
  abbrev old : List Snap
  old = flat_map of_line lines

  abbrev new : List Snap
  new = flat_map of_line (change_first (from_line name) (with_latest snap) lines)

  abbrev others : List Snap
  others = flat_map of_session sessions

  of_old : (t : Snap) → (snap ≡ t) ⊎ Contains l.snaps t → Contains (snap ∷ (old ++ others)) t
  of_old t (inl q) = subst (Contains (snap ∷ (old ++ others))) q (here snap (old ++ others))
  of_old t (inr h) = there t snap (old ++ others) (Contains-append_left old others t ((changed_in of_line (from_line name) (with_latest snap) t l lines is).1 h))

  of_new : (t : Snap) → Contains new t → Contains (snap ∷ (old ++ others)) t
  of_new t h =
      elim ((changed_in of_line (from_line name) (with_latest snap) t l lines is).0 h) [
        | inl k ↦ of_old t (kept_in snap l t k)
        | inr k ↦ there t snap (old ++ others) (Contains-append_left old others t k)
      ]

  pub appended_apart : IsRegistry rows (snap ∷ roots_of lines sessions) → IsRegistry rows (gone_of snap l ++ roots_of (change_first (from_line name) (with_latest snap) lines) sessions)
  appended_apart =
      registry_same rows (snap ∷ (old ++ others)) (gone_of snap l ++ (new ++ others))
      (λ c. omega (
        arith,
        uses_cons c snap (old ++ others),
        uses_cons c snap [],
        uses_append c old others,
        uses_append c (gone_of snap l) (new ++ others),
        uses_append c new others,
        changed_uses of_line (from_line name) (with_latest snap) c l lines is,
        split_uses snap l c,
      ))
      (λ t h. elim (Contains-append_cases (gone_of snap l) (new ++ others) t h) [
        | inl k ↦ of_old t (gone_in snap l t k)
        | inr k ↦ elim (Contains-append_cases new others t k) [
          | inl j ↦ of_new t j
          | inr j ↦ there t snap (old ++ others) (Contains-append_right old others t j)
        ]
      ])
