-- Snapshots of a published graph.
use Rattle.std.proofs.Common.{◌≡◌, ℕ, zero, suc, ◌+◌, ◌-◌, ◌<◌, ◌≤◌, List, [], ◌∷◌, Some, refl, ap, ◌∙◌, subst, arith, length, get_or, drop}
use Rattle.std.specs.Prelude.{find, Contains, slice_get}
use Rattle.std.proofs.lemmas.Option.{none-some, same_Some}
use Rattle.catalogue_state.specs.declared.ask.Target.{Target}
use Rattle.catalogue_state.specs.declared.ask.Target.TheVariants.{Sid, Latest}
use Rattle.catalogue_state.specs.declared.parts.Snap.{Snap}
use Rattle.catalogue_state.specs.declared.parts.Line.{Line}
use Rattle.catalogue_state.specs.State.{Name, State, from_line, line_of, roots, latest, snap_at, of_sid}
use Rattle.catalogue_state.proofs.Lists.{here, there, of_find}
use Rattle.catalogue_state.proofs.Roots.{in_lines}

of_get : {X : Type 0} (x : X) (xs : List X) (k : ℕ) → slice_get xs k ≡ Some x → Contains xs x
of_get x [] k h = absurd (none-some x h)
of_get x (y ∷ xs) zero h = subst (Contains (y ∷ xs)) (same_Some y x h) (here y xs)
of_get x (y ∷ xs) (suc k) h = there x y xs (of_get x xs k h)

-- the latest snapshot is one of them, and so is the one that is asked for
pub of_latest : (snaps : List Snap) (s : Snap) → latest snaps ≡ Some s → Contains snaps s
of_latest snaps s h = of_get s snaps (length snaps - 1) h

pub of_target : (t : Target) (snaps : List Snap) (s : Snap) → snap_at t snaps ≡ Some s → Contains snaps s
of_target (Sid sid) snaps s h = of_find (of_sid sid) snaps s h
of_target Latest snaps s h = of_latest snaps s h

-- they are in use
line_snap_root : (m : State) (n : Name) (l : Line) (b : Snap) → line_of m n ≡ Some l → Contains l.snaps b → Contains (roots m) b
line_snap_root m n l b is h = in_lines (Contains (roots m)) m.lines m.sessions (λ x k. k) l (of_find (from_line n) m.lines l is) b h

pub latest_root : (m : State) (n : Name) (l : Line) (b : Snap) → line_of m n ≡ Some l → latest l.snaps ≡ Some b → Contains (roots m) b
latest_root m n l b is last = line_snap_root m n l b is (of_latest l.snaps b last)

pub target_root : (m : State) (n : Name) (l : Line) (t : Target) (b : Snap) → line_of m n ≡ Some l → snap_at t l.snaps ≡ Some b → Contains (roots m) b
target_root m n l t b is at = line_snap_root m n l b is (of_target t l.snaps b at)

-- ---- the rest of a list

module _ {X : Type 0} where
  next_at : (xs : List X) (k : ℕ) (d : X) → k < length xs → drop k xs ≡ get_or xs k d ∷ drop (suc k) xs
  next_at [] k d lt = absurd (omega (arith, lt))
  next_at (x ∷ xs) zero d lt = refl
  next_at (x ∷ xs) (suc k) d lt = next_at xs k d (omega (arith, lt))

  pub next_of : (xs : List X) (k : ℕ) (d : X) → k < length xs → drop k xs ≡ get_or xs k d ∷ drop (k + 1) xs
  next_of xs k d lt = let e : suc k ≡ k + 1 = omega arith in next_at xs k d lt ∙ ap (λ n. get_or xs k d ∷ drop n xs) e

  pub none_left : (xs : List X) (k : ℕ) → length xs ≤ k → drop k xs ≡ []
  none_left [] zero le = refl
  none_left [] (suc k) le = refl
  none_left (x ∷ xs) zero le = absurd (omega (arith, le))
  none_left (x ∷ xs) (suc k) le = none_left xs k (omega (arith, le))
