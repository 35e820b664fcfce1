-- `as_slice` looks at the pointer, and shows the values behind it.
use Rattle.scatter_buf.proofs.Steps.{◌≡◌, refl, sym, ap, ◌∙◌, ℕ, suc, ◌+◌, ◌*◌, ◌<◌, ◌^◌, arith, List, [], ◌∷◌, map, length, length-map, Ura, ent, id⊢, fhide, Fn, w64, named, ty_ptr, inst_fn, Val, vptr, vint, WpFn, Model, Logic, Running, tables, ‵, ◌⊛◌, at_ret, ◌$◌, ◌∵◌, !, qed, move, keep, use1, drop, split, join, rewrite, fsplit, fjoin, feq_i, feq_l, flt_l, flt_i, suffices, done, agg, look, stop, fld, load, of_opd, and_then, no_more, first, blocks, exec, returns, enter, alloc_all, pass_all, free_all, look_at, get, through, sets, sets_last, env, yes, owns, cell_at, hidden_shr, hide, unhide, uint_vals, uint_Tells, shr_vals, shr_Tells, Contract, usize, RefOf, plain_Copied, Ptr, RawPtr, coded_ptr, ptr_own, rawptr_pure, ptr_val, in_a_block, elements_shared, slice_val, RawPtr-laws, plain, types_at, nothing, looks, shuts, Clauses, Ended, says, Stays, stay_dropped, walk_of, ends_at, Goes-dropped, Option, Some, proved, after, El, R, el_x, sz, times_below, Al}
use Rattle.scatter_buf.specs.Memory.{places_lent, lent}
use Rattle.scatter_buf.proofs.Given.{Entry, starts, args, PlacesRow, Fields}
use Rattle.scatter_buf.proofs.Row.{to_slice}
use Rattle.scatter_buf.specs.contracts.places.Places.as_slice as F
use Rattle.scatter_buf.specs.contracts.places.Places.as_slice.Key.{name as #self}
use Rattle.scatter_buf.proofs.places.Places.as_slice.Statement.{statement}
use Rattle.scatter_buf.proofs.places.Places.as_slice.Code as code

module _ (E : El) (Z : Al) where
  abbrev function : Fn
  function = inst_fn (args E Z) code.function

  abbrev ended : Ended
  ended = F.ended E.row Z.row Z.g Z.d Z.drops

  abbrev stayed : Stays ended.signature.params ended.kept
  stayed = (stay_dropped (RefOf (0 ∷ []) tt (plain (λ _. PlacesRow E Z)) (λ _. tt)) yes, (stay_dropped (plain (λ _. usize)) yes, tt))

  module _ {M : Type 1} {𝓤 : Ura M} (𝓛 : Logic 𝓤) (𝓜 : Model 𝓤 𝓛.H) (𝓡 : Running 𝓤 𝓛.H 𝓜) where
    open 𝓛 use {H}

    abbrev c : Clauses 𝓤 ended
    c = F.clauses E.row Z.row Z.g Z.d Z.drops 𝓛 𝓜.mem 𝓡.returns

    abbrev W : Contract 𝓤
    W = walk_of 𝓛 ended stayed c

    walk : (z : W.Ghost) → z.0.3.1.0 < 2 ^ 64 → ent 𝓤 (W.pre z) (WpFn 𝓤 H (tables 𝓤 H 𝓜 𝓡 𝓡.env).C (tables 𝓤 H 𝓜 𝓡 𝓡.env).Λ function (vptr z.0.3.0.ref_ptr.0 z.0.3.0.ref_ptr.1 ∷ vint w64 z.0.3.1.0 ∷ []) (W.post z))
    walk z word =
        let κ = z.0.0.0 in let q = z.0.1.0 in
        let rb = z.0.3.0.ref_ptr.0 in let ro = z.0.3.0.ref_ptr.1 in let h = z.0.3.0.now in let n = z.0.3.1.0 in
        let 𝓣 = tables 𝓤 H 𝓜 𝓡 𝓡.env in
        let Asked : Type 0 = (n ≡ length h.values) × ((xs : List (el_x E)) × (h.values ≡ map Some xs)) in
        let params = owns (types_at ended.signature.params z.0.0) z.0.3 z.0.4 in
        qed 𝓛 (Entry 𝓤 E Z z.0.0 z.0.1 params Asked) ∵ starts ! E Z z.0.0 z.0.1 params Asked (λ inside asked.
        let xs = asked.1.0 in let s = sz E in let long : length h.values ≡ length xs = ap length asked.1.1 ∙ length-map xs Some in
        fsplit ! $ fsplit ! $ drop ! $
        use1 𝓛 (‵ (hidden_shr (Fields E Z) κ (h.start, (tt, tt)) rb ro) ⊛ ‵ (fhide (lent (R E) h.start h.values κ))) (id⊢ 𝓤 _) $ split ! $
        unhide ! $ fsplit ! $ fsplit ! $ keep ! (3 ∷ 0 ∷ 5 ∷ 6 ∷ []) $ unhide ! $
        in_a_block ! h.start (λ p. lent (R E) p h.values κ) (id⊢ 𝓤 _) (λ b o e. fsplit ! $ flt_l ! (λ few.
        rewrite ! 0 (λ (cs : List (Option (el_x E))). ‵ (places_lent (R E) b o cs κ)) asked.1.1 refl $
        use1 𝓛 (‵ (elements_shared (R E) xs b o κ)) (to_slice E 𝓛 b κ xs o) $ hide ! $ move ! (1 ∷ []) $ hide ! $ move ! (0 ∷ 2 ∷ []) $
        -- [a `&` to the pointer; the token; what shows the values; the other tokens]
        enter ! 𝓣.C 𝓣.Λ function (vptr rb ro ∷ vint w64 n ∷ []) _ $ alloc_all ! (λ l. pass_all ! refl ((tt, tt), ((tt, record { fits = word }), tt)) $
        looks ! tt RawPtr (plain_Copied 𝓛 Ptr coded_ptr (ty_ptr ∷ []) ptr_own rawptr_pure ptr_val RawPtr-laws.tells).opens h.start rb (ro + 0) (λ q' us. move ! (1 ∷ []) $ feq_l ! (λ is.
        let value : us ≡ vptr b o ∷ [] = is ∙ ap (λ (p : Ptr). ptr_val p ∷ []) e in
        rewrite ! 0 (λ (ws : List Val). ‵ (cell_at q' RawPtr.mir ws rb (ro + 0))) value refl $ first ! $ blocks ! $
        sets ! (of_opd ! (load ! (through ! refl (fld ! refl (stop !))) (look ! 0 refl))) refl (tt, tt) $
        feq_i ! (List Val) (vptr b o ∷ []) (ptr_val h.start ∷ []) (sym (ap (λ (p : Ptr). ptr_val p ∷ []) e)) $ move ! (1 ∷ 0 ∷ []) $ shuts ! tt RawPtr q' h.start (vptr b o ∷ []) rb (ro + 0) $
        sets_last ! (agg ! (and_then ! (get ! refl) (and_then ! (get ! refl) (no_more !)))) refl (tt, (tt, (record { fits = word }, tt))) $
        exec ! 𝓣.C 𝓣.Λ (env function.locals l) (after 1 function.body) (at_ret _ (W.post z)) $ sets ! (of_opd ! (get ! refl)) refl (tt, (tt, (record { fits = word }, tt))) $
        returns ! (look_at ! 0 refl) $ free_all ! refl $
        -- [the token; a `&` to the pointer; what shows the values; the other tokens]
        suffices ! _ (ends_at 𝓛 ended stayed c z (slice_val (b, o) n) (record { ref_ptr = (b, o); now = xs }) (tt, (tt, tt)) (tt, (tt, tt))) $ says ! asked.1.1 $
        move ! (0 ∷ 3 ∷ []) $ join ! $ move ! (2 ∷ []) $ flt_i ! (length xs * s) (2 ^ 63) (times_below (length xs) (suc (length h.values)) s (2 ^ 63) (omega arith) few) $
        flt_i ! (length xs) (2 ^ 64) (omega arith) $ fjoin ! $ feq_i ! (List Val) (slice_val (b, o) n ∷ []) (slice_val (b, o) (length xs) ∷ []) (ap (λ (k : ℕ). slice_val (b, o) k ∷ []) (asked.0 ∙ long)) $
        fjoin ! $ fjoin ! $ nothing ! $ nothing ! $ fjoin ! $ nothing ! $ fjoin ! $ keep ! (2 ∷ 0 ∷ 1 ∷ []) $ done !))))))

pub as_slice_spec : {M : Type 1} → statement M
as_slice_spec 𝓤 𝓛 𝓜 𝓡 wired X Y LX LY g d dd met md =
    let E : El = record { row = X; laws = LX } in let Z : Al = record { row = Y; laws = LY; g = g; d = d; drops = dd } in
    proved 𝓛 (ended E Z) (stayed E Z) (c E Z 𝓛 𝓜 𝓡) 𝓜 𝓡
    (Goes-dropped 𝓛 3 (RefOf (0 ∷ []) tt (plain (λ _. PlacesRow E Z)) (λ _. tt)) yes (λ κs x f. refl), (Goes-dropped 𝓛 3 (plain (λ _. usize)) yes (λ κs x f. refl), tt))
    (#self (args E Z)) (function E Z) (code.unfolded 𝓤 𝓛.H 𝓜 𝓡 wired (X, (Y, tt)) d dd)
    (λ κs. (shr_vals, (uint_vals w64, tt))) (λ κs. (shr_Tells (named 0) κs.0 (PlacesRow E Z), (uint_Tells w64, tt)))
    (λ κs qs bounds a g are. walk E Z 𝓛 𝓜 𝓡 ((κs, qs, bounds, a, (shr_vals a.0, (uint_vals w64 a.1.0, tt))), g) are.1.0.1)
