use Rattle.std.proofs.Common.{◌≡◌, ◌+◌, ◌-◌, ◌<◌, ◌≤◌, ◌∙◌, arith, ap, length}
use Rattle.graph_model.specs.Counts.{count_at}
use Rattle.graph_model.proofs.CountLists.{lowered_one, table_there, seat_there}
use Rattle.graph_model.proofs.counts.lower.Goals as goal

pub set_count-requires-clause-table : goal.set_count-requires-clause-table
set_count-requires-clause-table c = table_there c.args.counts.now c.args.table c.args.seat c.requires

pub set_count-requires-clause-seat : goal.set_count-requires-clause-seat
set_count-requires-clause-seat c = seat_there c.args.counts.now c.args.table c.args.seat c.requires

pub returns : goal.returns
returns c =
    let was = c.count_of-count.ensures ∙ ap (λ l. count_at l c.args.table c.args.seat) c.as_slice.ensures in
    lowered_one c.args.counts.now c.set_count.new.counts c.args.table c.args.seat c.count_of-count.result (c.count_of-count.result - 1) c.requires was (omega (arith, was, c.requires)) c.set_count.ensures
