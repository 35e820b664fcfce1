use Rattle.std.proofs.Common.{◌<◌, ◌&&◌, All, ℤ, not, length, pos, get_or, subst, ap, sym, ◌∙◌, arith, w32, FitsSigned, rules}
use Rattle.std.specs.HashSet.{contains}
use Rattle.std.specs.Ordering.{int_eq}
use Rattle.std.proofs.lemmas.Int.{to_z-of_z}
use Rattle.graph_model.specs.Keys.{rows_at}
use Rattle.graph_mutate.specs.Pairs.{same_pair}
use Rattle.graph_mutate.specs.Taken.{taken}
use Rattle.graph_mutate.proofs.Gathering.{within_push}
use Rattle.graph_mutate.proofs.Loops.{edge_there, source_read, destination_read}
use Rattle.graph_mutate.proofs.Stays.{Answered, simple_taken, simple_passed, seen_more}
use Rattle.graph_mutate.proofs.simplify.simple_places.Goals.{then-branch+in_ok-push, else-branch}
use Rattle.graph_mutate.proofs.simplify.simple_places.Goals as goal

pub loop-place-preserved : goal.loop-place-preserved
loop-place-preserved c =
    let base = c.args.base.now in
    let t = c.args.table in
    let rows = rows_at base.edges t in
    let i = c.loop-place.place in
    let within : i < length rows = omega (arith, c.edge_count-place-end.ensures, c.loop-place-test.true) in
    let e = edge_there rows i within in
    let a = get_or c.source_places-sources.result.now i (pos 0) in
    let b = get_or c.destination_places-destinations.result.now i (pos 0) in
    let from = ap (λ xs. get_or xs i (pos 0)) c.source_places-sources.ensures ∙ source_read base t i (pos 0) e in
    let to = ap (λ xs. get_or xs i (pos 0)) c.destination_places-destinations.ensures ∙ destination_read base t i (pos 0) e in
    let fits_a : FitsSigned w32 a = search rules in
    let fits_b : FitsSigned w32 b = search rules in
    let before = contains same_pair c.loop-place.seen (a, b) in
    let answer = rw (to_z-of_z w32 a fits_a, to_z-of_z w32 b fits_b) at c.in_ok-stays.ensures.answer in
    let told = answer ∙ ap (λ loops. not (loops && int_eq a b) && not before) c.has_loops-loops.ensures in
    let w : Answered base t i e a b before c.in_ok-stays.field-0 = record { is = c.sound.ensures; from = from; to = to; seen_is = c.loop-place.invariant.seen a b; answer_is = told } in
    let seen = λ (s d : ℤ). seen_more base t i e a b s d _ _ from to (c.loop-place.invariant.seen s d) (rw (to_z-of_z w32 a fits_a, to_z-of_z w32 b fits_b) at (c.in_ok-stays.ensures.seen s d)) in
    elim c.if-branch.branch [
      | then-branch+in_ok-push v ↦ record {
        seen = seen;
        taken = ap (taken rows) v.places-is ∙ simple_taken base t i e a b before c.in_ok-stays.field-0 c.loop-place.places v.push.new.self w v.if-branch.true c.loop-place.invariant.taken v.in_ok-push.ensures.ok;
        within = within_push (length rows) c.loop-place.places c.if-branch.places i e.within c.loop-place.invariant.within (v.places-is ∙ v.in_ok-push.ensures.ok);
      }
      | else-branch v ↦ record {
        seen = seen;
        taken = ap (taken rows) v.places-is ∙ simple_passed base t i e a b before c.in_ok-stays.field-0 c.loop-place.places w v.if-branch.false c.loop-place.invariant.taken;
        within = subst (All (λ p. p < length rows)) (sym v.places-is) c.loop-place.invariant.within;
      }
    ]
