use Rattle.std.proofs.Common.{pos, get_or, fold, take, ap, sym, ◌∙◌, w64, FitsSigned, rules}
use Rattle.std.specs.Int.{int_max}
use Rattle.std.proofs.lemmas.Int.{to_z-of_z}
use Rattle.std.proofs.lemmas.List.Sums.{fold_more}
use mir.Val.{to_z, of_z}
use Rattle.graph_mutate.proofs.undirect.greatest_of.Goals as goal

pub loop-other-preserved : goal.loop-other-preserved
loop-other-preserved c =
    let keys = c.args.keys.now in
    let i = c.loop-other.other-index in
    let key = get_or keys i (pos 0) in
    let a = to_z w64 (of_z w64 c.args.key) in
    let fits : FitsSigned w64 c.max-greatest.result = search rules in
    let fits_key : FitsSigned w64 key = search rules in
    to_z-of_z w64 c.max-greatest.result fits ∙ c.max-greatest.ensures.value
    ∙ ap (λ z. int_max z (to_z w64 (of_z w64 key))) c.loop-other.invariant
    ∙ ap (int_max (fold int_max a (take i keys))) (to_z-of_z w64 key fits_key)
    ∙ sym (fold_more int_max a keys i (pos 0) c.loop-other-test.true)
