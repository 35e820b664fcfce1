-- The numbers of the registry are the columns in use.
use Rattle.std.proofs.Common.{◌≡◌, ℕ, suc, ◌<◌, ◌⊎◌, inl, inr, List, [], ◌∷◌, Some, Bool, true, false, refl, sym, subst, ◌∙◌, cond, arith}
use Rattle.std.specs.Prelude.{Contains, All, is_some, ◌==◌}
use Rattle.std.proofs.lemmas.Bool.{false≢true, eqb-true, eq-eqb}
use Rattle.std.proofs.lemmas.List.Elements.{All-head, All-tail}
use Rattle.column_reclaim.specs.declared.row.RegistryRow.{RegistryRow}
use Rattle.column_reclaim.specs.Registry.{Rises as RowsRise, IsListed, ids_of, row_of}
use Rattle.column_reclaim.proofs.Finds.{counted_listed, listed_counted}
use Rattle.graph_slots.specs.declared.part.Part.{Part}
use Rattle.catalogue_state.specs.State.{State, columns_of, roots, reach}
use Rattle.catalogue.specs.Registry.{Rows, IsRegistry}
use Rattle.catalogue_state.proofs.Lists.{Each, here, there, cases, in_none}
use Rattle.catalogue_state.proofs.Rising.{Rises, rises_put, reach_is_used}

-- ---- two rising lists with the same members are one

heads : (x y : ℕ) (xs ys : List ℕ) → Rises (x ∷ xs) → Rises (y ∷ ys) → (y ≡ x) ⊎ Contains ys x → (x ≡ y) ⊎ Contains xs y → x ≡ y
heads x y xs ys up vp (inl q) k = sym q
heads x y xs ys up vp (inr h) (inl q) = q
heads x y xs ys up vp (inr h) (inr k) = absurd (omega (arith, vp.0 x h, up.0 y k))

rest_at : (x c : ℕ) (ys : List ℕ) → x < c → (x ≡ c) ⊎ Contains ys c → Contains ys c
rest_at x c ys lt (inl q) = absurd (omega (arith, lt, q))
rest_at x c ys lt (inr h) = h

same_rising : (xs ys : List ℕ) → Rises xs → Rises ys → ((c : ℕ) → Contains xs c → Contains ys c) → ((c : ℕ) → Contains ys c → Contains xs c) → xs ≡ ys
same_rising [] [] up vp to from = refl
same_rising [] (y ∷ ys) up vp to from = absurd (in_none y (from y (here y ys)))
same_rising (x ∷ xs) [] up vp to from = absurd (in_none x (to x (here x xs)))
same_rising (x ∷ xs) (y ∷ ys) up vp to from =
    let q : x ≡ y = heads x y xs ys up vp (cases x y ys (to x (here x xs))) (cases y x xs (from y (here y ys))) in
    let rest : xs ≡ ys
    = same_rising xs ys up.1 vp.1
    (λ c h. rest_at y c ys (omega (arith, up.0 c h, q)) (cases c y ys (to c (there c x xs h))))
    (λ c h. rest_at x c xs (omega (arith, vp.0 c h, q)) (cases c x xs (from c (there c y ys h)))) in
    rw (q, rest) refl

-- ---- the numbers of rows

id_listed_at : (c : ℕ) (r : RegistryRow Part) (rows : Rows) (b : Bool) → (r.id == c) ≡ b → is_some (cond b (Some r) (row_of rows c)) ≡ true → (IsListed rows c → Contains (ids_of rows) c) → Contains (r.id ∷ ids_of rows) c
id_listed_at c r rows true e h ih = subst (Contains (r.id ∷ ids_of rows)) (eqb-true r.id c e) (here r.id (ids_of rows))
id_listed_at c r rows false e h ih = there c r.id (ids_of rows) (ih h)

id_listed : (c : ℕ) (rows : Rows) → IsListed rows c → Contains (ids_of rows) c
id_listed c [] h = absurd (false≢true h)
id_listed c (r ∷ rows) h = id_listed_at c r rows (r.id == c) refl h (id_listed c rows)

listed_id_at : (c : ℕ) (r : RegistryRow Part) (rows : Rows) (b : Bool) → (r.id == c) ≡ b → (r.id ≡ c) ⊎ Contains (ids_of rows) c → (Contains (ids_of rows) c → IsListed rows c) → is_some (cond b (Some r) (row_of rows c)) ≡ true
listed_id_at c r rows true e h ih = refl
listed_id_at c r rows false e (inl q) ih = absurd (false≢true (sym e ∙ eq-eqb r.id c q))
listed_id_at c r rows false e (inr h) ih = ih h

listed_id : (c : ℕ) (rows : Rows) → Contains (ids_of rows) c → IsListed rows c
listed_id c [] h = absurd (in_none c h)
listed_id c (r ∷ rows) h = listed_id_at c r rows (r.id == c) refl (cases c r.id (ids_of rows) h) (listed_id c rows)

above_ids : (x : ℕ) (rows : Rows) → All (λ r. x < r.id) rows → Each (λ y. x < y) (ids_of rows)
above_ids x [] all y h = absurd (in_none y h)
above_ids x (r ∷ rows) all y h =
    elim (cases y r.id (ids_of rows) h) [
      | inl q ↦ subst (λ n. x < n) q (All-head (λ s. x < s.id) r rows all)
      | inr k ↦ above_ids x rows (All-tail (λ s. x < s.id) r rows all) y k
    ]

ids_rise : (rows : Rows) → RowsRise rows → Rises (ids_of rows)
ids_rise [] up = tt
ids_rise (r ∷ rows) up =
    (above_ids r.id rows (λ k d lt. up 0 (suc k) d (omega arith) (omega (arith, lt))), ids_rise rows (λ i j d lt within. up (suc i) (suc j) d (omega (arith, lt)) (omega (arith, within))))

-- the registry's numbers are the columns in use
pub keys_are_reach : (m : State) (rows : Rows) → IsRegistry rows (roots m) → ids_of rows ≡ reach m
keys_are_reach m rows f =
    same_rising (ids_of rows) (reach m) (ids_rise rows f.rises) (rises_put [] (columns_of (roots m)) tt)
    (λ c h. (reach_is_used m c).1 (subst (λ n. 0 < n) (f.counts c) (listed_counted c rows f.counted (listed_id c rows h))))
    (λ c h. id_listed c rows (counted_listed c rows (subst (λ n. 0 < n) (sym (f.counts c)) ((reach_is_used m c).0 h))))
