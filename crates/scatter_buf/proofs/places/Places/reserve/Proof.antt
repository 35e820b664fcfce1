-- `reserve` asks the allocator for a block, and makes empty places of its room.
use Rattle.scatter_buf.proofs.Steps.{◌≡◌, refl, sym, subst, true, false, ℕ, suc, ◌*◌, ◌<◌, ◌≤◌, ◌^◌, arith, [], ◌∷◌, lit<, nltb→le, length, replicate, length-replicate, Ura, ent, via, guard_i, flft, Incl-trans, Fn, Body, w64, ty_array, inst_fn, Val, vptr, vint, vstruct, vnil, of_list, Fits, align, capped, capped_is, capped_small, capped_fits, Wp, Env, WpFn, after_seq, at_return, Model, Logic, Running, tables, After, any_q, ‵, raw, ◌⊛◌, ⋆, later, at_ret, ◌$◌, ◌∵◌, !, qed, by, move, keep, drop, use1, use2, split, join, rewrite, fsplit, fjoin, flt_i, suffices, await, done, whole, agg, live, vrt, in_variant, stop, fld, lit, size_word, size_lit, align_word, no_more, and_then, of_opd, bin, first, branches, skips, switches_on, exec, returns, returns_within, enter, alloc_all, pass_all, free_all, look_at, get, get_in, get_tag, sets, sets_last, lands_as, env, yes, Is, RattleType, owns, usize, RefOf, layout_of, uint_vals, uint_Tells, block_ptr, shr_vals, shr_Tells, pure_i, plain, types_at, nothing, owns_by, Struct, Struct-Makes, calls_at, Clauses, Ended, Contract, Triple, framed, says, Stays, stay_dropped, walk_of, ends_at, Goes-dropped, named, None, Ok, Err, IfOk, proved, as_written, first_Good, ok_of, err_of, after, head, arm_body, El, R, elτ, sz, times_below, Al, token, Answer-typed, takes_key, Takes, at_takes, Answered, Takes-goes, Takes-gives, answers}
use denote.Struct.Declared as Declared
use Rattle.std.specs.contracts.result.Result as RS
use Rattle.std.specs.contracts.alloc.AllocError as AE
use Rattle.scatter_buf.specs.Memory.{places_at}
use Rattle.scatter_buf.proofs.Given.{Alive, Entry, starts, args, HeapRow, PlacesRow, Fields, places_val, block_ty, block_layout}
use Rattle.scatter_buf.proofs.Row.{of_room}
use Rattle.scatter_buf.specs.contracts.places.Places.reserve as F
use Rattle.scatter_buf.specs.contracts.places.Places.reserve.Key.{name as #self}
use Rattle.scatter_buf.proofs.places.Places.reserve.Statement.{statement}
use Rattle.scatter_buf.proofs.places.Places.reserve.Code as code

module _ (E : El) (Z : Al) where
  abbrev function : Fn
  function = inst_fn (args E Z) code.function

  abbrev ended : Ended
  ended = F.ended E.row Z.row Z.g Z.d Z.drops

  abbrev stayed : Stays ended.signature.params ended.kept
  stayed = (stay_dropped (RefOf (0 ∷ []) tt (plain (λ _. HeapRow E Z)) (λ _. tt)) yes, (stay_dropped (plain (λ _. usize)) yes, tt))

  abbrev Out : RattleType
  Out = RS.the_row (PlacesRow E Z) AE.the_row

  module _ {M : Type 1} {𝓤 : Ura M} (𝓛 : Logic 𝓤) (𝓜 : Model 𝓤 𝓛.H) (𝓡 : Running 𝓤 𝓛.H 𝓜) where
    open 𝓛 use {H}

    abbrev c : Clauses 𝓤 ended
    c = F.clauses E.row Z.row Z.g Z.d Z.drops 𝓛 𝓜.mem 𝓡.returns

    abbrev W : Contract 𝓤
    W = walk_of 𝓛 ended stayed c

    ends : (z : W.Ghost) (r : Out.Denot) (v : Val) → IfOk r (λ d. (d.values ≡ replicate z.0.3.1.0 None) × (d.heap ≡ z.0.3.0.now))
        → ent 𝓤 (⋆ 𝓛 (‵ (Out.own_val r (v ∷ [])) ∷ Alive z.0.0 z.0.1 ∷ [])) (W.post z v)
    ends z r v ensured = qed 𝓛 (‵ (Out.own_val r (v ∷ [])) ∷ Alive z.0.0 z.0.1 ∷ []) ∵
        suffices ! _ (ends_at 𝓛 ended stayed c z v r (tt, (tt, tt)) (tt, (tt, tt))) $ says ! ensured $
        nothing ! $ nothing ! $ fjoin ! $ nothing ! $ fjoin ! $ move ! (2 ∷ 0 ∷ 1 ∷ []) $ done !

    abbrev refusal : Val
    refusal = live 1 (of_list (vstruct vnil ∷ []))

    refuses : (z : W.Ghost) → ent 𝓤 (⋆ 𝓛 (Alive z.0.0 z.0.1 ∷ [])) (W.post z refusal)
    refuses z = let Error : RattleType = Struct (Declared.shape AE.the_type) in
        qed 𝓛 (Alive z.0.0 z.0.1 ∷ []) ∵ owns_by ! Error (Is Error) (Struct-Makes 𝓛 (Declared.shape AE.the_type) tt) tt (vstruct vnil ∷ []) (tt, (refl, tt)) $
        use1 𝓛 (‵ (Out.own_val (Err (record {})) (refusal ∷ []))) (err_of 𝓛 (PlacesRow E Z) AE.the_row (record {}) (vstruct vnil)) $ by ! (ends z (Err (record {})) refusal tt)

    walk : Triple 𝓤 ((tables 𝓤 H 𝓜 𝓡 𝓡.env).C (takes_key Z)) (Takes Z 𝓛 𝓜.mem 𝓡.returns) → (z : W.Ghost) → z.0.3.1.0 < 2 ^ 64
        → ent 𝓤 (W.pre z) (WpFn 𝓤 H (tables 𝓤 H 𝓜 𝓡 𝓡.env).C (tables 𝓤 H 𝓜 𝓡 𝓡.env).Λ function (vptr z.0.3.0.ref_ptr.0 z.0.3.0.ref_ptr.1 ∷ vint w64 z.0.3.1.0 ∷ []) (W.post z))
    walk callee z word =
        let κ = z.0.0.0 in let q = z.0.1.0 in
        let rb = z.0.3.0.ref_ptr.0 in let ro = z.0.3.0.ref_ptr.1 in let a = z.0.3.0.now in let n = z.0.3.1.0 in
        let 𝓣 = tables 𝓤 H 𝓜 𝓡 𝓡.env in let s = sz E in let al = capped (align (elτ E)) in
        let params = owns (types_at ended.signature.params z.0.0) z.0.3 z.0.4 in
        qed 𝓛 (Entry 𝓤 E Z z.0.0 z.0.1 params (n < 2 ^ 32)) ∵ starts ! E Z z.0.0 z.0.1 params (n < 2 ^ 32) (λ inside asked.
        fsplit ! $ fsplit ! $ keep ! (1 ∷ 3 ∷ 4 ∷ []) $
        -- [a `&` to the allocator; its token; the other tokens]
        enter ! 𝓣.C 𝓣.Λ function (vptr rb ro ∷ vint w64 n ∷ []) _ $ alloc_all ! (λ l. pass_all ! refl ((tt, tt), ((tt, record { fits = word }), tt)) $
        let En : Env 𝓤 H = env function.locals l in let both : Body = head (after 4 function.body) in let limit : Val = vint w64 2147483647 in
        let Then : After 𝓤 H = any_q (after_seq 𝓤 H (Wp 𝓤 H 𝓣.C 𝓣.Λ En (after 5 function.body) (at_return 𝓤 H En (W.post z))) (at_return 𝓤 H En (W.post z))) in
        sets ! (bin ! (record { go = λ K k. via 𝓤 (K limit) k (guard_i 𝓤 (Fits w64 2147483647) (K limit) (record { fits = lit< tt })) }) (size_word !) tt) refl (tt, tt) $ first ! $ branches ! (get ! refl)
        (λ large. sets ! (agg ! (no_more !)) refl (tt, tt) $ sets ! (agg ! (and_then ! (lit ! tt) (and_then ! (get ! refl) (no_more !)))) refl (tt, (record { fits = lit< tt }, (tt, tt))) $
        returns_within ! (W.post z) refl (look_at ! 0 refl) $ free_all ! refl $ drop ! $ join ! $ by ! (refuses z))
        (λ fair. skips ! $ exec ! 𝓣.C 𝓣.Λ En (after 2 function.body) (at_ret En (W.post z)) $
        let most : capped s ≤ 2147483647 = nltb→le 2147483647 (capped s) fair in let whole_size : s < 2 ^ 63 = capped_small s (omega arith) in
        let value : s ≤ 2147483647 = subst (λ (k : ℕ). k ≤ 2147483647) (capped_is s (omega arith)) most in
        let few : suc n * s < 2 ^ 63 = times_below (suc n) (2 ^ 32) s (2 ^ 63) (omega arith) (omega arith) in
        let bytes : n * s < 2 ^ 64 = omega (arith, times_below n (suc n) s (2 ^ 63) (omega arith) few) in let layout = block_layout E n bytes in
        sets ! (bin ! (get ! refl) (size_lit ! (record { fits = omega arith })) (record { fits = bytes })) refl (tt, record { fits = bytes }) $
        let g = at_takes Z 𝓛 𝓜.mem 𝓡.returns κ q (rb, ro) a (n * s) al (block_ty E n) in
        use2 𝓛 (raw ((Takes Z 𝓛 𝓜.mem 𝓡.returns).pre g))
        (Takes-goes Z 𝓛 𝓜.mem 𝓡.returns κ q (rb, ro) a (Incl-trans z.0.2.0 inside) (n * s) al (block_ty E n) (layout.0) (layout.1) bytes (capped_fits (align (elτ E)))) $
        calls_at ! (framed 𝓤 H 𝓜 𝓣) (Takes Z 𝓛 𝓜.mem 𝓡.returns) callee g (and_then ! (get ! refl) (and_then ! (get ! refl) (and_then ! (align_word !) (no_more !)))) (λ v.
        use1 𝓛 (later (raw (Answered Z 𝓛 𝓜.mem 𝓡.returns a (block_ty E n) v) ⊛ ‵ (flft κ q))) (Takes-gives Z 𝓛 𝓜.mem 𝓡.returns κ q (rb, ro) a (n * s) al (block_ty E n) v) $ await ! tt $ split ! $
        answers Z ! 𝓜.mem 𝓡.returns a (block_ty E n) v
        (λ b o e.
        let cs = replicate n None in let long : length cs ≡ n = length-replicate n None in
        let d : (PlacesRow E Z).Denot = record { start = block_ptr b o; by = record {}; values = cs; heap = a } in let w : Val = places_val (block_ptr b o) in
        let ok = first_Good (layout_of (PlacesRow E Z)) w (tt, (tt, (tt, tt))) in
        lands_as ! e refl (Answer-typed true b o) $ first ! $ switches_on ! (get_tag ! (vrt ! refl (fld ! refl (stop !))) (whole !)) $ exec ! 𝓣.C 𝓣.Λ En (arm_body 0 both) Then $
        sets_last ! (of_opd ! (get_in ! (vrt ! refl (fld ! refl (stop !))) (in_variant ! 0 0 refl refl (whole !)))) refl (tt, tt) $ exec ! 𝓣.C 𝓣.Λ En (after 5 function.body) (at_ret En (W.post z)) $
        sets ! (of_opd ! (get ! refl)) refl (tt, tt) $ sets ! (agg ! (no_more !)) refl (tt, tt) $ sets ! (agg ! (and_then ! (get ! refl) (and_then ! (get ! refl) (no_more !)))) refl (tt, (tt, (tt, tt))) $
        sets ! (agg ! (and_then ! (lit ! tt) (and_then ! (get ! refl) (no_more !)))) refl ok $
        -- [the room; the right to free it; the token; the other tokens]
        as_written ! (ty_array (elτ E) n) b o $ use1 𝓛 (‵ (places_at (R E) b o cs)) (of_room E 𝓛 b n o) $
        rewrite ! 1 (λ (k : ℕ). ‵ (token Z a (block_ty E k) (block_ptr b o))) (sym long) refl $ fjoin ! $ flt_i ! (suc (length cs) * s) (2 ^ 63) (subst (λ (k : ℕ). suc k * s < 2 ^ 63) (sym long) few) $ fjoin ! $
        pure_i ! ((Fields E Z).own_val (block_ptr b o, (tt, tt)) (w ∷ [])) (λ vss. (tt, (tt, ((λ uss. (tt, tt)), tt)))) ((vptr b o ∷ [], (vstruct vnil ∷ [], tt)), (refl, (refl, ((tt, (refl, tt)), tt)))) $ fjoin ! $
        use1 𝓛 (‵ (Out.own_val (Ok d) (live 0 (of_list (w ∷ [])) ∷ []))) (ok_of 𝓛 (PlacesRow E Z) AE.the_row d w) $
        returns ! (look_at ! 0 refl) $ free_all ! refl $ move ! (1 ∷ 2 ∷ []) $ join ! $ move ! (1 ∷ []) $ by ! (ends z (Ok d) (live 0 (of_list (w ∷ []))) (refl, refl)))
        (λ e.
        lands_as ! e refl (Answer-typed false 0 0) $ first ! $ switches_on ! (get_tag ! (vrt ! refl (fld ! refl (stop !))) (whole !)) $ exec ! 𝓣.C 𝓣.Λ En (arm_body 1 both) Then $
        sets ! (agg ! (no_more !)) refl (tt, tt) $ sets ! (agg ! (and_then ! (lit ! tt) (and_then ! (get ! refl) (no_more !)))) refl (tt, (record { fits = lit< tt }, (tt, tt))) $
        returns_within ! (W.post z) refl (look_at ! 0 refl) $ free_all ! refl $ join ! $ by ! (refuses z))))))

pub reserve_spec : {M : Type 1} → statement M
reserve_spec 𝓤 𝓛 𝓜 𝓡 wired X Y LX LY g d dd met md =
    let E : El = record { row = X; laws = LX } in let Z : Al = record { row = Y; laws = LY; g = g; d = d; drops = dd } in
    proved 𝓛 (ended E Z) (stayed E Z) (c E Z 𝓛 𝓜 𝓡) 𝓜 𝓡
    (Goes-dropped 𝓛 3 (RefOf (0 ∷ []) tt (plain (λ _. HeapRow E Z)) (λ _. tt)) yes (λ κs x f. refl), (Goes-dropped 𝓛 3 (plain (λ _. usize)) yes (λ κs x f. refl), tt))
    (#self (args E Z)) (function E Z) (code.unfolded 𝓤 𝓛.H 𝓜 𝓡 wired (X, (Y, tt)) d dd)
    (λ κs. (shr_vals, (uint_vals w64, tt))) (λ κs. (shr_Tells (named 0) κs.0 (HeapRow E Z), (uint_Tells w64, tt)))
    (λ κs qs bounds a g are. walk E Z 𝓛 𝓜 𝓡 (met.allocate dd) ((κs, qs, bounds, a, (shr_vals a.0, (uint_vals w64 a.1.0, tt))), g) are.1.0.1)
