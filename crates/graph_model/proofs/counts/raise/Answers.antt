use Rattle.std.proofs.Common.{◌≡◌, ◌∙◌, ap}
use Rattle.graph_model.specs.Counts.{count_at}
use Rattle.graph_model.proofs.CountLists.{raised_one}
use Rattle.graph_model.proofs.counts.raise.Goals as goal

pub returns : goal.returns
returns c =
    let was = c.count_of-count.ensures ∙ ap (λ l. count_at l c.args.table c.args.seat) c.as_slice.ensures in
    raised_one c.args.counts.now c.set_count.new.counts c.args.table c.args.seat c.count_of-count.result c.requires.table c.requires.seat was c.set_count.ensures
