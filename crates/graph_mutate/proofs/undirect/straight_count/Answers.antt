use Rattle.std.proofs.Common.{◌<◌, length, pos, get_or, ap, sym, ◌∙◌, arith, w32, FitsSigned, rules}
use Rattle.std.proofs.lemmas.Int.{to_z-of_z}
use mir.Val.{to_z, of_z}
use Rattle.graph_model.specs.Keys.{rows_at}
use Rattle.graph_mutate.proofs.Loops.{edge_there, source_read, destination_read, loop_test, none_mixed, straight_counted, straight_same, int_eq_yes, int_eq_no}
use Rattle.graph_mutate.proofs.undirect.straight_count.Goals.{then-from-place, else-from-place}
use Rattle.graph_mutate.proofs.undirect.straight_count.Goals as goal

pub loop-place-preserved : goal.loop-place-preserved
loop-place-preserved c =
    let base = c.args.base.now in
    let t = c.args.table in
    let i = c.loop-place.place in
    let within : i < length (rows_at base.edges t) = omega (arith, c.edge_count-place-end.ensures, c.loop-place-test.true) in
    let e = edge_there (rows_at base.edges t) i within in
    let a = get_or c.source_places-from.result.now i (pos 0) in
    let b = get_or c.destination_places-to.result.now i (pos 0) in
    let from = ap (λ xs. get_or xs i (pos 0)) c.source_places-from.ensures ∙ source_read base t i (pos 0) e in
    let to = ap (λ xs. get_or xs i (pos 0)) c.destination_places-to.ensures ∙ destination_read base t i (pos 0) e in
    let test = loop_test base t i a b e c.sound.ensures (none_mixed base t c.requires.mixed) from to in
    let fits_a : FitsSigned w32 a = search rules in
    let fits_b : FitsSigned w32 b = search rules in
    elim c.if-from-place.branch [
      | then-from-place w ↦ record {
        count = omega (arith, w.count-is, straight_counted e (test ∙ int_eq_no a b (λ same. w.if-from-place.true (ap (of_z w32) same))), c.loop-place.invariant.count);
        few = omega (arith, w.count-is, c.loop-place.invariant.few);
      }
      | else-from-place w ↦ record {
        count = omega (arith, w.count-is, straight_same e (test ∙ int_eq_yes a b (sym (to_z-of_z w32 a fits_a) ∙ ap (to_z w32) w.if-from-place.false ∙ to_z-of_z w32 b fits_b)), c.loop-place.invariant.count);
        few = omega (arith, w.count-is, c.loop-place.invariant.few);
      }
    ]
