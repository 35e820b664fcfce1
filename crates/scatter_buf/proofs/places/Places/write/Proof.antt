-- `write` takes an empty place out of the row, writes the value, and puts the place back.
use Rattle.scatter_buf.proofs.Steps.{◌≡◌, refl, sym, ap, subst, ◌∙◌, ℕ, suc, ◌+◌, ◌*◌, ◌<◌, ◌^◌, arith, List, [], ◌∷◌, length, set, length-set, Ura, full_share, ent, wand, id⊢, apply∗, Fn, w64, ty_array, raw_ty, inst_fn, Val, vptr, vint, vunit, WpFn, Model, Logic, sem, Running, tables, ‵, raw, ◌⊛◌, at_ret, ◌$◌, ◌∵◌, !, qed, move, keep, use1, use2, split, join, rewrite, fsplit, fsplit3, fjoin, fjoin3, feq_i, flt_l, flt_i, suffices, done, whole, sub, look_in, init, stop, fld, load, size_lit, unit_lit, of_opd, bin, assigns_last, first, blocks, exec, returns, enter, alloc_all, pass_all, free_all, look_at, get, through, sets, env, yes, no, owns, shows, cell_at, place, place_is, usize, param_laws, Ptr, block_ptr, in_a_block, plain, types_at, nothing, opens, closes, peeks, Clauses, Ended, Vals, says, Stays, stay_dropped, stay_ref, walk_of, ends_at, Goes-dropped, Goes-ref, Some, None, slice_get, proved_at, as_written, after, slice_get_within, one, El, R, elτ, sz, Good, el_in, times_below, one_below, Al}
use Rattle.scatter_buf.specs.Memory.{place_at, places_at, owned}
use Rattle.scatter_buf.proofs.Given.{Entry, starts, args, PlacesRow, lowered, places_val}
use Rattle.scatter_buf.proofs.Row.{empty_place}
use Rattle.scatter_buf.specs.contracts.places.Places.write as F
use Rattle.scatter_buf.specs.contracts.places.Places.write.Key.{name as #self}
use Rattle.scatter_buf.proofs.places.Places.write.Statement.{statement}
use Rattle.scatter_buf.proofs.places.Places.write.Code as code

module _ (E : El) (Z : Al) where
  abbrev function : Fn
  function = inst_fn (args E Z) code.function

  abbrev ended : Ended
  ended = F.ended E.row Z.row Z.g Z.d Z.drops

  abbrev stayed : Stays ended.signature.params ended.kept
  stayed = (stay_ref (0 ∷ []) tt (plain (λ _. PlacesRow E Z)), (stay_dropped (plain (λ _. usize)) yes, (stay_dropped (plain (λ _. R E)) no, tt)))

  module _ {M : Type 1} {𝓤 : Ura M} (𝓛 : Logic 𝓤) (𝓜 : Model 𝓤 𝓛.H) (𝓡 : Running 𝓤 𝓛.H 𝓜) where
    open 𝓛 use {H}

    abbrev c : Clauses 𝓤 ended
    c = F.clauses E.row Z.row Z.g Z.d Z.drops 𝓛 𝓜.mem 𝓡.returns

    abbrev Bound : Type 0
    Bound = (walk_of 𝓛 ended stayed c).Ghost

    abbrev Walk : Bound → Type 1
    Walk y = ent 𝓤 ((walk_of 𝓛 ended stayed c).pre y) (WpFn 𝓤 H (tables 𝓤 H 𝓜 𝓡 𝓡.env).C (tables 𝓤 H 𝓜 𝓡 𝓡.env).Λ function ((walk_of 𝓛 ended stayed c).args y) ((walk_of 𝓛 ended stayed c).post y))

    abbrev at : (z : Bound) → Vals ended.signature z.0.0 → Bound
    at z vss = ((z.0.0, z.0.1, z.0.2, z.0.3, vss), z.1)

    abbrev spelled : Bound → Val → Bound
    spelled z v = at z (vptr z.0.3.0.ref_ptr.0 z.0.3.0.ref_ptr.1 ∷ [], (vint w64 z.0.3.1.0 ∷ [], (v ∷ [], tt)))

    walk : (z : Bound) → z.0.3.1.0 < 2 ^ 64 → (v : Val) → Good E v → Walk (spelled z v)
    walk z word v good =
        let κ = z.0.0.0 in let q = z.0.1.0 in
        let rb = z.0.3.0.ref_ptr.0 in let ro = z.0.3.0.ref_ptr.1 in let h = z.0.3.0.now in let i = z.0.3.1.0 in let x = z.0.3.1.1.0 in
        let 𝓣 = tables 𝓤 H 𝓜 𝓡 𝓡.env in let Post = (walk_of 𝓛 ended stayed c).post (spelled z v) in
        let Asked : Type 0 = slice_get h.values i ≡ Some None in let s = sz E in let token = Z.g.dealloc_token h.heap in
        let cs = h.values in let ds = set cs i (Some x) in let new : (PlacesRow E Z).Denot = record h { values = ds } in
        let params = owns (types_at ended.signature.params z.0.0) z.0.3 (spelled z v).0.4 in
        qed 𝓛 (Entry 𝓤 E Z z.0.0 z.0.1 params Asked) ∵ starts ! E Z z.0.0 z.0.1 params Asked (λ inside asked.
        let within : i < length cs = slice_get_within cs i None asked in
        fsplit3 ! $ fsplit3 ! $ move ! (4 ∷ []) $ fsplit ! $ keep ! (3 ∷ 4 ∷ 6 ∷ 0 ∷ 7 ∷ []) $
        enter ! 𝓣.C 𝓣.Λ function (vptr rb ro ∷ vint w64 i ∷ v ∷ []) _ $ alloc_all ! (λ l. pass_all ! refl ((tt, tt), ((tt, record { fits = word }), (good, tt))) $
        opens ! tt (PlacesRow E Z) {h = h} rb ro (λ us. move ! (1 ∷ []) $ peeks ! (PlacesRow E Z) _ (shows 𝓛 (PlacesRow E Z)) h us (λ is. fsplit ! $ move ! (1 ∷ []) $
        in_a_block ! h.start (λ p. owned (R E) token p cs) (id⊢ 𝓤 _) (λ b o e. fsplit ! $ flt_l ! (λ few. fsplit ! $
        -- [the places; the right to free; the fields; their cell; the open borrow, in three entries; what x owns; ..]
        let Room = λ (k : ℕ). ‵ (place_at (R E) b k None) in let Full = λ (k : ℕ). ‵ (place_at (R E) b k (Some x)) in
        let Cell = λ (ws : List Val). ‵ (cell_at full_share (PlacesRow E Z).mir ws rb ro) in
        let value : us ≡ places_val (block_ptr b o) ∷ [] = (lowered E Z).val_is h us is ∙ ap (λ (p : Ptr). places_val p ∷ []) e in
        let size : s < 2 ^ 64 = omega (arith, one_below (suc (length cs)) s (2 ^ 63) (omega arith) few) in
        let far : i * s < 2 ^ 64 = omega (arith, times_below i (suc (length cs)) s (2 ^ 63) (omega arith) few) in
        let Back = wand 𝓤 (sem 𝓛 (place_at (R E) b (place s o i) (Some x))) (sem 𝓛 (places_at (R E) b o ds)) in
        use1 𝓛 (‵ (place_at (R E) b (place s o i) None) ⊛ raw Back) (empty_place E 𝓛 b x cs i o asked) $ split ! $
        rewrite ! 0 Room (place_is s o i) refl $ as_written ! (elτ E) b (i * s + o) $ rewrite ! 4 Cell value refl $ first ! $ blocks ! $
        sets ! (of_opd ! (load ! (through ! refl (fld ! refl (stop !))) (look_in ! 4 (sub ! 0 refl (whole !))))) refl (tt, tt) $
        sets ! (bin ! (get ! refl) (size_lit ! (record { fits = size })) (record { fits = far })) refl (tt, record { fits = far }) $
        sets ! (bin ! (get ! refl) (get ! refl) tt) refl (tt, tt) $ sets ! (of_opd ! (get ! refl)) refl good $
        assigns_last ! (of_opd ! (get ! refl)) (through ! refl (stop !)) (init ! 0 refl good) $
        exec ! 𝓣.C 𝓣.Λ (env function.locals l) (after 1 function.body) (at_ret _ Post) $ sets ! (of_opd ! (unit_lit !)) refl (tt, tt) $
        move ! (0 ∷ 8 ∷ []) $ use2 𝓛 (Full (i * s + o)) (el_in E 𝓛 full_share x b (i * s + o) v) $ rewrite ! 0 Full (sym (place_is s o i)) refl $
        use2 𝓛 (‵ (places_at (R E) b o ds)) (apply∗ 𝓤 (sem 𝓛 (place_at (R E) b (place s o i) (Some x))) (sem 𝓛 (places_at (R E) b o ds))) $
        rewrite ! 1 (λ (n : ℕ). ‵ (token (raw_ty (ty_array (elτ E) n)) (block_ptr b o))) (sym (length-set cs i (Some x))) refl $ fjoin ! $
        flt_i ! (suc (length ds) * s) (2 ^ 63) (subst (λ (n : ℕ). suc n * s < 2 ^ 63) (sym (length-set cs i (Some x))) few) $ fjoin ! $
        rewrite ! 0 (λ (p : Ptr). ‵ (owned (R E) token p ds)) (sym e) refl $ rewrite ! 2 Cell (sym value) refl $ move ! (1 ∷ []) $ fjoin ! $
        move ! (1 ∷ 0 ∷ []) $ closes ! tt (PlacesRow E Z) new us rb ro $ returns ! (look_at ! 0 refl) $ free_all ! refl $
        suffices ! _ (ends_at 𝓛 ended stayed c (spelled z v) vunit tt (new, (tt, (tt, tt))) (tt, (tt, (tt, tt)))) $ says ! (refl, refl) $
        feq_i ! (List Val) (vptr rb ro ∷ []) (vptr rb ro ∷ []) refl $ fjoin3 ! $ nothing ! $ nothing ! $ fjoin ! $ nothing ! $ fjoin ! $ move ! (1 ∷ 0 ∷ []) $ fjoin ! $
        move ! (1 ∷ 2 ∷ []) $ join ! $ feq_i ! (List Val) (vunit ∷ []) (vunit ∷ []) refl $ keep ! (1 ∷ 2 ∷ 0 ∷ []) $ done !))))))

pub write_spec : {M : Type 1} → statement M
write_spec 𝓤 𝓛 𝓜 𝓡 wired X Y LX LY g d dd met md =
    let E : El = record { row = X; laws = LX } in let Z : Al = record { row = Y; laws = LY; g = g; d = d; drops = dd } in
    proved_at 𝓛 (ended E Z) (stayed E Z) (c E Z 𝓛 𝓜 𝓡) 𝓜 𝓡
    (Goes-ref 𝓛 3 0 tt (plain (λ _. PlacesRow E Z)), (Goes-dropped 𝓛 3 (plain (λ _. usize)) yes (λ κs x f. refl), (Goes-dropped 𝓛 3 (plain (λ _. R E)) no (λ κs x f. refl), tt)))
    (#self (args E Z)) (function E Z) (code.unfolded 𝓤 𝓛.H 𝓜 𝓡 wired (X, (Y, tt)) d dd) (λ z are.
    let x = one (record { row = X; laws = LX }) z.0.4.1.1.0 (((param_laws 0 X LX).lawful 𝓛).typed z.0.3.1.1.0 z.0.4.1.1.0 are.1.1.0) in
    subst (λ (vss : Vals (ended E Z).signature z.0.0). Walk E Z 𝓛 𝓜 𝓡 (at E Z 𝓛 𝓜 𝓡 z vss)) (sym (λ k. (are.0.0 k, (are.1.0.0 k, (x.1 k, tt))))) (walk E Z 𝓛 𝓜 𝓡 z are.1.0.1 x.0 x.2))
