use Rattle.std.proofs.Common.{◌≡◌, ◌<◌, ℤ, ℕ, List, pos, nat_abs, length, get_or, subst, ap, sym, ◌∙◌, arith, w32, FitsSigned, rules}
use Rattle.std.proofs.lemmas.Int.{to_z-of_z, to_z_pos}
use Rattle.std.proofs.lemmas.List.{length-map, get_or-map}
use Rattle.std.proofs.lemmas.Option.{slice_get-get_or}
use mir.Val.{to_z, of_z}
use Rattle.graph_columns.specs.TableParts.{places_told, place_of_number, ArePlaces}
use Rattle.graph_snap.proofs.Known.{mapped_more}
use Rattle.graph_mutate.proofs.sorting.moved.Goals as goal

told_at : (ns : List ℤ) (i : ℕ) → ArePlaces ns → i < length ns → get_or ns i (pos 0) ≡ pos (get_or (places_told ns) i 0)
told_at ns i are h =
    let long : i < length (places_told ns) = omega (arith, h, length-map ns place_of_number) in
    ap (λ xs. get_or xs i (pos 0)) are.told ∙ get_or-map pos (places_told ns) i 0 (pos 0) long

pub bounds-new-place : goal.bounds-new-place
bounds-new-place c =
    let ns = c.args.places.now in
    let i = c.loop-place.place-index in
    let x = get_or ns i (pos 0) in
    let fits : FitsSigned w32 x = search rules in
    let e : nat_abs (to_z w32 (of_z w32 x)) ≡ get_or (places_told ns) i 0 = ap nat_abs (to_z-of_z w32 x fits ∙ told_at ns i c.requires.places c.loop-place-test.true) in
    let long : i < length (places_told ns) = omega (arith, c.loop-place-test.true, length-map ns place_of_number) in
    subst (λ k. k < length c.args.new.now) (sym e) (c.requires.within i 0 long)

pub overflow_cast-new : goal.overflow_cast-new
overflow_cast-new c =
    let ns = c.args.places.now in
    let i = c.loop-place.place-index in
    let x = get_or ns i (pos 0) in
    let fits : FitsSigned w32 x = search rules in
    let e : nat_abs (to_z w32 (of_z w32 x)) ≡ get_or (places_told ns) i 0 = ap nat_abs (to_z-of_z w32 x fits ∙ told_at ns i c.requires.places c.loop-place-test.true) in
    let long : i < length (places_told ns) = omega (arith, c.loop-place-test.true, length-map ns place_of_number) in
    let small : get_or c.args.new.now (nat_abs (to_z w32 (of_z w32 x))) 0 < 1048576 = subst (λ k. get_or c.args.new.now k 0 < 1048576) (sym e) (c.requires.few i 0 long) in
    search rules

pub loop-place-preserved : goal.loop-place-preserved
loop-place-preserved c =
    let ns = c.args.places.now in
    let i = c.loop-place.place-index in
    let x = get_or ns i (pos 0) in
    let fits : FitsSigned w32 x = search rules in
    let e : nat_abs (to_z w32 (of_z w32 x)) ≡ get_or (places_told ns) i 0 = ap nat_abs (to_z-of_z w32 x fits ∙ told_at ns i c.requires.places c.loop-place-test.true) in
    let long : i < length (places_told ns) = omega (arith, c.loop-place-test.true, length-map ns place_of_number) in
    let small : get_or c.args.new.now (nat_abs (to_z w32 (of_z w32 x))) 0 < 1048576 = subst (λ k. get_or c.args.new.now k 0 < 1048576) (sym e) (c.requires.few i 0 long) in
    let h = c.in_ok-push.ensures.ok in
    mapped_more (λ p. pos (get_or c.args.new.now p 0)) (places_told ns) i (get_or (places_told ns) i 0) (to_z w32 (get_or c.args.new.now (nat_abs (to_z w32 (of_z w32 x))) 0)) c.loop-place.made c.push.new.self
    (slice_get-get_or (places_told ns) i 0 long) (to_z_pos w32 (get_or c.args.new.now (nat_abs (to_z w32 (of_z w32 x))) 0) (omega (arith, small)) ∙ ap (λ k. pos (get_or c.args.new.now k 0)) e) c.loop-place.invariant h
