use Rattle.std.proofs.Common.{ap, arith}
use Rattle.graph_slots.specs.Slots.{slots}
use Rattle.graph_mutate.specs.Steps.{new_steps}
use Rattle.graph_mutate.proofs.Sums.{no_sum}
use Rattle.graph_mutate.proofs.FewSteps.{few_steps}
use Rattle.graph_mutate.proofs.making.mutate.Goals as goal

pub returns-in_ok-cloned-in-Clone-clause-counted : goal.returns-in_ok-cloned-in-Clone-clause-counted
returns-in_ok-cloned-in-Clone-clause-counted g c =
    let same = ap (λ how. new_steps how c.args.base.now) c.in-Clone.is in
    omega (arith, same, no_sum (slots c.args.base.now.schema))

pub returns-in_ok-transposed-in-Transpose-clause-counted : goal.returns-in_ok-transposed-in-Transpose-clause-counted
returns-in_ok-transposed-in-Transpose-clause-counted g c =
    let same = ap (λ how. new_steps how c.args.base.now) c.in-Transpose.is in
    omega (arith, same, no_sum (slots c.args.base.now.schema))

pub returns-in_err-sorted-in-SortByDegree-clause-most : goal.returns-in_err-sorted-in-SortByDegree-clause-most
returns-in_err-sorted-in-SortByDegree-clause-most g c = few_steps c.args.how c.args.base.now

pub returns-in_ok-sorted-in-SortByDegree-clause-most : goal.returns-in_ok-sorted-in-SortByDegree-clause-most
returns-in_ok-sorted-in-SortByDegree-clause-most g c = few_steps c.args.how c.args.base.now
