use Rattle.std.proofs.Common.{◌∙◌, ◌+◌, ◌++◌, ◌∷◌, [], List, ℕ, sym, ap, refl}
use Rattle.catalogue.proofs.Numbers.{range_more}
use Rattle.catalogue.proofs.catalogue.numbers.Goals as goal

pub loop-place-preserved : goal.loop-place-preserved
loop-place-preserved c =
    let j = c.args.first + c.loop-place.place in
    c.in_ok-push.ensures.ok ∙ ap (λ (l : List ℕ). l ++ j ∷ []) c.loop-place.invariant ∙ sym (range_more c.args.first c.loop-place.place j refl)
