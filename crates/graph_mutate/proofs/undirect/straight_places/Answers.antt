use Rattle.std.proofs.Common.{◌<◌, All, length, pos, get_or, subst, ap, sym, ◌∙◌, arith, w32, FitsSigned, rules}
use Rattle.std.proofs.lemmas.Int.{to_z-of_z}
use mir.Val.{to_z, of_z}
use Rattle.graph_model.specs.Keys.{rows_at}
use Rattle.graph_mutate.specs.Taken.{taken}
use Rattle.graph_mutate.proofs.Gathering.{within_push}
use Rattle.graph_mutate.proofs.Loops.{edge_there, source_read, destination_read, loop_test, none_mixed, straight_taken, straight_passed, int_eq_yes, int_eq_no}
use Rattle.graph_mutate.proofs.undirect.straight_places.Goals.{then-sources-place+in_ok-push, else-sources-place}
use Rattle.graph_mutate.proofs.undirect.straight_places.Goals as goal

pub loop-place-preserved : goal.loop-place-preserved
loop-place-preserved c =
    let base = c.args.base.now in
    let t = c.args.table in
    let rows = rows_at base.edges t in
    let i = c.loop-place.place in
    let within : i < length rows = omega (arith, c.edge_count-place-end.ensures, c.loop-place-test.true) in
    let e = edge_there rows i within in
    let a = get_or c.source_places-sources.result.now i (pos 0) in
    let b = get_or c.destination_places-destinations.result.now i (pos 0) in
    let from = ap (λ xs. get_or xs i (pos 0)) c.source_places-sources.ensures ∙ source_read base t i (pos 0) e in
    let to = ap (λ xs. get_or xs i (pos 0)) c.destination_places-destinations.ensures ∙ destination_read base t i (pos 0) e in
    let test = loop_test base t i a b e c.sound.ensures (none_mixed base t c.requires.mixed) from to in
    let fits_a : FitsSigned w32 a = search rules in
    let fits_b : FitsSigned w32 b = search rules in
    elim c.if-sources-place.branch [
      | then-sources-place+in_ok-push w ↦ record {
        taken = ap (taken rows) w.places-is ∙ straight_taken e c.loop-place.places w.push.new.self (test ∙ int_eq_no a b (λ same. w.if-sources-place.true (ap (of_z w32) same))) c.loop-place.invariant.taken w.in_ok-push.ensures.ok;
        within = within_push (length rows) c.loop-place.places c.if-sources-place.places i e.within c.loop-place.invariant.within (w.places-is ∙ w.in_ok-push.ensures.ok);
      }
      | else-sources-place w ↦ record {
        taken = ap (taken rows) w.places-is ∙ straight_passed e c.loop-place.places (test ∙ int_eq_yes a b (sym (to_z-of_z w32 a fits_a) ∙ ap (to_z w32) w.if-sources-place.false ∙ to_z-of_z w32 b fits_b)) c.loop-place.invariant.taken;
        within = subst (All (λ p. p < length rows)) (sym w.places-is) c.loop-place.invariant.within;
      }
    ]
