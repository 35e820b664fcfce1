-- A row of places: an empty one is taken out and comes back with a value, and room for an array is a row of empty places.
use Rattle.scatter_buf.proofs.Steps.{◌≡◌, refl, ℕ, zero, suc, ◌+◌, List, [], ◌∷◌, map, length, set, replicate, Ura, full_share, ty_array, Val, ent, sep, emp, wand, id⊢, mono_r, apply∗, Lft, fat, froom, Logic, sem, ‵, raw, ◌⊛◌, some, given, ◌$◌, ◌∵◌, !, qed, by, move, keep, use1, use2, split, pick, learn, rewrite, fsplit, fjoin, frame, assume, done, place, elements_shared, Option, Some, None, slice_get, same_Some, El, R, el_x, elτ, el_own, sz, Good, el_out}
use Rattle.scatter_buf.specs.Memory.{place_at, places_at, place_lent, places_lent}

module _ (E : El) {M : Type 1} {𝓤 : Ura M} (𝓛 : Logic 𝓤) (b : ℕ) where
  open 𝓛 use {H}

  -- the i-th place leaves its row empty, and comes back with x
  pub empty_place : (x : el_x E) (cs : List (Option (el_x E))) (i o : ℕ) → slice_get cs i ≡ Some None
      → ent 𝓤 (sem 𝓛 (places_at (R E) b o cs)) (sep 𝓤 (sem 𝓛 (place_at (R E) b (place (sz E) o i) None))
      (wand 𝓤 (sem 𝓛 (place_at (R E) b (place (sz E) o i) (Some x))) (sem 𝓛 (places_at (R E) b o (set cs i (Some x))))))
  empty_place x [] i o e = cc
  empty_place x (c ∷ cs) zero o e = qed 𝓛 (‵ (places_at (R E) b o (c ∷ cs)) ∷ []) ∵ fsplit ! $
      rewrite ! 0 (λ d. ‵ (place_at (R E) b o d)) (same_Some c None e) refl $ frame ! $
      assume ! (‵ (place_at (R E) b o (Some x))) $ fjoin ! $ done !
  empty_place x (c ∷ cs) (suc i) o e =
      let next = o + sz E in let Full = sem 𝓛 (place_at (R E) b (place (sz E) next i) (Some x)) in let Back = sem 𝓛 (places_at (R E) b next (set cs i (Some x))) in
      qed 𝓛 (‵ (places_at (R E) b o (c ∷ cs)) ∷ []) ∵ fsplit ! $ move ! (1 ∷ []) $
      use1 𝓛 (‵ (place_at (R E) b (place (sz E) next i) None) ⊛ raw (wand 𝓤 Full Back)) (empty_place x cs i next e) $ split ! $ frame ! $
      assume ! (‵ (place_at (R E) b (place (sz E) next i) (Some x))) $
      use2 𝓛 (‵ (places_at (R E) b next (set cs i (Some x)))) (apply∗ 𝓤 Full Back) $ move ! (1 ∷ 0 ∷ []) $ fjoin ! $ done !

  pub of_room : (n o : ℕ) → ent 𝓤 (H.room (ty_array (elτ E) n) b o) (sem 𝓛 (places_at (R E) b o (replicate n None)))
  of_room zero o = qed 𝓛 (‵ (froom (ty_array (elτ E) zero) b o) ∷ []) ∵ keep ! [] $ done !
  of_room (suc n) o = qed 𝓛 (‵ (froom (ty_array (elτ E) (suc n)) b o) ∷ []) ∵
      use1 𝓛 (‵ (froom (elτ E) b o) ⊛ ‵ (froom (ty_array (elτ E) n) b (o + sz E))) (𝓛.laws.room_uncons (elτ E) n b o) $ split ! $
      use1 𝓛 (‵ (place_at (R E) b o None)) (𝓛.laws.room-raw (elτ E) b o) $ frame ! $ by ! (of_room n (o + sz E))

  -- a place is room, whatever it holds
  forgets : (c : Option (el_x E)) (o : ℕ) → ent 𝓤 (sem 𝓛 (place_at (R E) b o c)) (H.room (elτ E) b o)
  forgets None o = 𝓛.laws.raw-room (elτ E) b o
  forgets (Some x) o = qed 𝓛 (‵ (place_at (R E) b o (Some x)) ∷ []) ∵
      use1 𝓛 (some (λ (v : Val). given (Good E v) (‵ (fat full_share (elτ E) b o v) ⊛ ‵ (el_own E x (v ∷ []))))) (el_out E 𝓛 full_share x b o) $
      pick ! (λ v. learn ! (λ good. split ! $ keep ! (0 ∷ []) $ by ! (𝓛.laws.at_room (elτ E) b o v)))

  pub to_room : (cs : List (Option (el_x E))) (o : ℕ) → ent 𝓤 (sem 𝓛 (places_at (R E) b o cs)) (H.room (ty_array (elτ E) (length cs)) b o)
  to_room [] o = 𝓛.laws.room_nil (elτ E) b o
  to_room (c ∷ cs) o = qed 𝓛 (‵ (places_at (R E) b o (c ∷ cs)) ∷ []) ∵ fsplit ! $ use1 𝓛 (‵ (froom (elτ E) b o)) (forgets c o) $ move ! (1 ∷ []) $
      use1 𝓛 (‵ (froom (ty_array (elτ E) (length cs)) b (o + sz E))) (to_room cs (o + sz E)) $ move ! (1 ∷ []) $ by ! (𝓛.laws.room_cons (elτ E) (length cs) b o)

  -- where each place holds a value, a `&` to the places shows a slice
  pub to_slice : (κ : Lft) (xs : List (el_x E)) (o : ℕ) → ent 𝓤 (sem 𝓛 (places_lent (R E) b o (map Some xs) κ)) (sem 𝓛 (elements_shared (R E) xs b o κ))
  to_slice κ [] o = id⊢ 𝓤 (emp 𝓤)
  to_slice κ (x ∷ xs) o = mono_r 𝓤 (sem 𝓛 (place_lent (R E) b o (Some x) κ)) (to_slice κ xs (o + sz E))
