use Rattle.std.proofs.Common.{◌≡◌, ◌-◌, length, take, drop, arith}
use Rattle.std.proofs.lemmas.List.{length-drop, take_all}
use Rattle.algo_rank.proofs.Labelling.{labelling_from, least_from}
use Rattle.algo_rank.proofs.blocks.close_block.Goals as goal

pub returns-clause-stages : goal.returns-clause-stages
returns-clause-stages c =
    let path = c.args.path.now.items in
    let place = c.args.place in
    let label = c.least-label.result in
    let rest : take (length path - place) (drop place path) ≡ drop place path = take_all (length path - place) (drop place path) (omega (arith, length-drop place path)) in
    let labelling = rw (c.as_slice.ensures.value, rest) at c.give_label.ensures in
    let lowest = rw (c.as_slice.ensures.value, rest) at c.least-label.ensures in
    (label, labelling_from path place label c.args.stages.now c.give_label.new.stages labelling, least_from path place label lowest)
