use Rattle.std.proofs.Common.{◌∙◌, ◌++◌, ◌∷◌, [], ℕ, List, sym, ap, take, get_or, None}
use Rattle.std.proofs.lemmas.List.{take_more}
use Rattle.catalogue_state.specs.Derived.{numbers_kept}
use Rattle.catalogue.proofs.Numbering.{kept_append}
use Rattle.catalogue.proofs.arrivals.numbers_kept.Goals as goal

pub loop-slot-preserved : goal.loop-slot-preserved
loop-slot-preserved c =
    let all = c.args.kept.now in
    let old = c.args.old.now in
    let i = c.loop-slot.slot-index in
    let x = get_or all i None in
    let more = take_more all i None c.loop-slot-test.true in
    c.in_ok-push_kept.ensures ∙ ap (λ (l : List ℕ). l ++ numbers_kept old (x ∷ [])) c.loop-slot.invariant
    ∙ sym (kept_append old (take i all) (x ∷ [])) ∙ ap (numbers_kept old) (sym more)
