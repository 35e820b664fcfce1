-- `release` makes room of the places, and hands the block back with the right to free it.
use Rattle.scatter_buf.proofs.Steps.{◌≡◌, refl, sym, subst, ℕ, suc, ◌*◌, ◌<◌, ◌^◌, arith, List, [], ◌∷◌, T, length, Ura, ent, id⊢, froom, flft, Incl-trans, Fn, w64, ty_unit, ty_array, inst_fn, Val, vptr, vint, vunit, has_ty, WT, align, capped, capped_fits, WpFn, Model, Logic, Running, tables, ‵, raw, later, given, prop, at_ret, ◌$◌, ◌∵◌, !, qed, move, keep, use1, join, group, learn, rewrite, regoal, fsplit, fsplit3, fjoin, feq_i, flt_l, suffices, await, done, whole, sub, stop, fld, size_lit, align_word, unit_lit, no_more, and_then, of_opd, bin, first, blocks, exec, returns, enter, alloc_all, pass_all, free_all, look_at, get, get_in, sets, lands_last, env, yes, no, owns, usize, RefOf, Ptr, block_ptr, in_a_block, plain, types_at, nothing, calls_at_last, Clauses, Ended, Vals, Contract, Triple, framed, Stays, stay_dropped, walk_of, ends_at, Goes-dropped, proved_at, as_raw, after, El, R, elτ, sz, times_below, one_below, Al, token, gives_key, Gives, at_gives, Gives-goes, Gives-Gives, Goes-blank}
use Rattle.scatter_buf.specs.Memory.{owned}
use Rattle.scatter_buf.proofs.Given.{Entry, starts, args, HeapRow, PlacesRow, lowered, places_val, block_ty, block_layout}
use Rattle.scatter_buf.proofs.Row.{to_room}
use Rattle.scatter_buf.specs.contracts.places.Places.release as F
use Rattle.scatter_buf.specs.contracts.places.Places.release.Key.{name as #self}
use Rattle.scatter_buf.proofs.places.Places.release.Statement.{statement}
use Rattle.scatter_buf.proofs.places.Places.release.Code as code

module _ (E : El) (Z : Al) where
  abbrev function : Fn
  function = inst_fn (args E Z) code.function

  abbrev ended : Ended
  ended = F.ended E.row Z.row Z.g Z.d Z.drops

  abbrev stayed : Stays ended.signature.params ended.kept
  stayed = (stay_dropped (plain (λ _. PlacesRow E Z)) no, (stay_dropped (RefOf (0 ∷ []) tt (plain (λ _. HeapRow E Z)) (λ _. tt)) yes, (stay_dropped (plain (λ _. usize)) yes, tt)))

  module _ {M : Type 1} {𝓤 : Ura M} (𝓛 : Logic 𝓤) (𝓜 : Model 𝓤 𝓛.H) (𝓡 : Running 𝓤 𝓛.H 𝓜) where
    open 𝓛 use {H}

    abbrev c : Clauses 𝓤 ended
    c = F.clauses E.row Z.row Z.g Z.d Z.drops 𝓛 𝓜.mem 𝓡.returns

    abbrev W : Contract 𝓤
    W = walk_of 𝓛 ended stayed c

    abbrev Walk : W.Ghost → Type 1
    Walk y = ent 𝓤 (W.pre y) (WpFn 𝓤 H (tables 𝓤 H 𝓜 𝓡 𝓡.env).C (tables 𝓤 H 𝓜 𝓡 𝓡.env).Λ function (W.args y) (W.post y))

    abbrev at : (z : W.Ghost) → Vals ended.signature z.0.0 → W.Ghost
    at z vss = ((z.0.0, z.0.1, z.0.2, z.0.3, vss), z.1)

    abbrev words : (z : W.Ghost) → Vals ended.signature z.0.0
    words z = (places_val z.0.3.0.start ∷ [], (vptr z.0.3.1.0.ref_ptr.0 z.0.3.1.0.ref_ptr.1 ∷ [], (vint w64 z.0.3.1.1.0 ∷ [], tt)))

    walk : Triple 𝓤 ((tables 𝓤 H 𝓜 𝓡 𝓡.env).C (gives_key Z)) (Gives Z 𝓛 𝓜.mem 𝓡.returns) → (z : W.Ghost) → z.0.3.1.1.0 < 2 ^ 64 → Walk (at z (words z))
    walk callee z word =
        let κ = z.0.0.0 in let q = z.0.1.0 in
        let h = z.0.3.0 in let rb = z.0.3.1.0.ref_ptr.0 in let ro = z.0.3.1.0.ref_ptr.1 in let a = z.0.3.1.0.now in let n = z.0.3.1.1.0 in
        let 𝓣 = tables 𝓤 H 𝓜 𝓡 𝓡.env in let y = at z (words z) in let cs = h.values in let s = sz E in
        let Asked : Type 0 = (n ≡ length cs) × (h.heap ≡ a) in
        let params = owns (types_at ended.signature.params z.0.0) z.0.3 (words z) in
        qed 𝓛 (Entry 𝓤 E Z z.0.0 z.0.1 params Asked) ∵ starts ! E Z z.0.0 z.0.1 params Asked (λ inside asked.
        fsplit3 ! $ fsplit ! $ move ! (2 ∷ []) $ fsplit ! $ move ! (3 ∷ []) $
        in_a_block ! h.start (λ p. owned (R E) (Z.g.dealloc_token h.heap) p cs) (id⊢ 𝓤 _) (λ b o e. fsplit ! $ flt_l ! (λ few. fsplit ! $ keep ! (0 ∷ 1 ∷ 3 ∷ 6 ∷ 7 ∷ []) $
        -- [the places; the right to free them; a `&` to the allocator; its token; the other tokens]
        let size : s < 2 ^ 64 = omega (arith, one_below (suc (length cs)) s (2 ^ 63) (omega arith) few) in
        let bytes : n * s < 2 ^ 64 = omega (arith, times_below n (suc (length cs)) s (2 ^ 63) (omega arith) few) in let al = capped (align (elτ E)) in
        use1 𝓛 (‵ (froom (ty_array (elτ E) (length cs)) b o)) (to_room E 𝓛 b cs o) $ rewrite ! 0 (λ (k : ℕ). ‵ (froom (ty_array (elτ E) k) b o)) (sym asked.0) refl $ as_raw ! (ty_array (elτ E) n) b o $
        rewrite ! 1 (λ (k : ℕ). ‵ (token Z h.heap (block_ty E k) (block_ptr b o))) (sym asked.0) refl $ rewrite ! 1 (λ (d : Z.row.Denot). ‵ (token Z d (block_ty E n) (block_ptr b o))) asked.1 refl $
        regoal ! (λ (p : Ptr). prop (WpFn 𝓤 H 𝓣.C 𝓣.Λ function (places_val p ∷ vptr rb ro ∷ vint w64 n ∷ []) (W.post y))) e refl $
        enter ! 𝓣.C 𝓣.Λ function (places_val (block_ptr b o) ∷ vptr rb ro ∷ vint w64 n ∷ []) _ $ alloc_all ! (λ l. pass_all ! refl ((tt, (tt, (tt, tt))), ((tt, tt), ((tt, record { fits = word }), tt))) $
        sets ! (of_opd ! (get_in ! (fld ! refl (stop !)) (sub ! 0 refl (whole !)))) refl (tt, tt) $ first ! $ blocks ! $ sets ! (of_opd ! (get ! refl)) refl (tt, tt) $
        sets ! (bin ! (get ! refl) (size_lit ! (record { fits = size })) (record { fits = bytes })) refl (tt, record { fits = bytes }) $
        let layout = block_layout E n bytes in let g = at_gives Z 𝓛 𝓜.mem 𝓡.returns κ q (rb, ro) a b o (n * s) al (block_ty E n) in
        group ! 4 $ use1 𝓛 (raw ((Gives Z 𝓛 𝓜.mem 𝓡.returns).pre g))
        (Gives-goes Z 𝓛 𝓜.mem 𝓡.returns κ q (rb, ro) a (Incl-trans z.0.2.0 inside) b o (n * s) al (block_ty E n) (layout.0) (layout.1) bytes (capped_fits (align (elτ E)))) $
        calls_at_last ! (framed 𝓤 H 𝓜 𝓣) (Gives Z 𝓛 𝓜.mem 𝓡.returns) callee g (and_then ! (get ! refl) (and_then ! (get ! refl) (and_then ! (get ! refl) (and_then ! (align_word !) (no_more !))))) (λ v.
        use1 𝓛 (later (given (v ≡ vunit) (‵ (flft κ q)))) (Gives-Gives Z 𝓛 𝓜.mem 𝓡.returns κ q (rb, ro) a b o (n * s) al (block_ty E n) v) $ await ! tt $ learn ! (λ unit.
        lands_last ! refl (subst (λ (u : Val). T (has_ty ty_unit u) × WT u) (sym unit) (tt, tt)) $ exec ! 𝓣.C 𝓣.Λ (env function.locals l) (after 2 function.body) (at_ret _ (W.post y)) $
        sets ! (of_opd ! (unit_lit !)) refl (tt, tt) $ returns ! (look_at ! 0 refl) $ free_all ! refl $
        suffices ! _ (ends_at 𝓛 ended stayed c y vunit tt (tt, (tt, (tt, tt))) (tt, (tt, (tt, tt)))) $ join ! $
        feq_i ! (List Val) (vunit ∷ []) (vunit ∷ []) refl $ nothing ! $ nothing ! $ fjoin ! $ nothing ! $ fjoin ! $ nothing ! $ fjoin ! $ move ! (2 ∷ []) $ group ! 3 $ nothing ! $ move ! (1 ∷ 0 ∷ []) $ done !))))))

pub release_spec : {M : Type 1} → statement M
release_spec 𝓤 𝓛 𝓜 𝓡 wired X Y LX LY g d dd met md =
    let E : El = record { row = X; laws = LX } in let Z : Al = record { row = Y; laws = LY; g = g; d = d; drops = dd } in
    proved_at 𝓛 (ended E Z) (stayed E Z) (c E Z 𝓛 𝓜 𝓡) 𝓜 𝓡
    (Goes-blank 𝓛 3 (plain (λ _. PlacesRow E Z)) no (λ κs x f. tt), (Goes-dropped 𝓛 3 (RefOf (0 ∷ []) tt (plain (λ _. HeapRow E Z)) (λ _. tt)) yes (λ κs x f. refl), (Goes-dropped 𝓛 3 (plain (λ _. usize)) yes (λ κs x f. refl), tt)))
    (#self (args E Z)) (function E Z) (code.unfolded 𝓤 𝓛.H 𝓜 𝓡 wired (X, (Y, tt)) d dd) (λ z are.
    subst (λ (vss : Vals (ended E Z).signature z.0.0). Walk E Z 𝓛 𝓜 𝓡 (at E Z 𝓛 𝓜 𝓡 z vss)) (sym (λ k. ((lowered E Z).val_is z.0.3.0 z.0.4.0 are.0 k, (are.1.0.0 k, (are.1.1.0.0 k, tt)))))
    (walk E Z 𝓛 𝓜 𝓡 (met.deallocate dd) z are.1.1.0.1))
