use Rattle.std.proofs.Common.{◌∙◌, ◌++◌, ◌∷◌, [], ℕ, List, sym, ap, take, get_or, arith, None}
use Rattle.std.proofs.lemmas.List.{take_more, length-take-le}
use Rattle.catalogue_state.specs.Derived.{numbers_by, new_count}
use Rattle.catalogue.proofs.Numbering.{numbers_append, count_append, count_few}
use Rattle.catalogue.proofs.arrivals.numbers_by.Goals as goal

pub push_number-requires : goal.push_number-requires
push_number-requires c =
    let all = c.args.kept.now in
    let i = c.loop-slot.slot-index in
    let few = length-take-le i all (omega (arith, c.loop-slot-test.true)) in
    omega (arith, c.requires, c.loop-slot.invariant.next, count_few (take i all), few, c.loop-slot-test.true)

pub loop-slot-preserved : goal.loop-slot-preserved
loop-slot-preserved c =
    let all = c.args.kept.now in
    let old = c.args.old.now in
    let first = c.args.first in
    let i = c.loop-slot.slot-index in
    let x = get_or all i None in
    let more = take_more all i None c.loop-slot-test.true in
    record {
      made = c.in_ok-push_number.ensures.made ∙ ap (λ (l : List ℕ). l ++ numbers_by old c.loop-slot.next (x ∷ [])) c.loop-slot.invariant.made
          ∙ ap (λ (n : ℕ). numbers_by old first (take i all) ++ numbers_by old n (x ∷ [])) c.loop-slot.invariant.next
          ∙ sym (numbers_append old first (take i all) (x ∷ [])) ∙ ap (numbers_by old first) (sym more);
      next = omega (arith, c.in_ok-push_number.ensures.next, c.loop-slot.invariant.next, count_append (take i all) (x ∷ []), ap new_count more);
    }
