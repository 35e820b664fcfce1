use Rattle.std.proofs.Common.{◌≡◌, sym}
use Rattle.graph_model.proofs.Rows.{none_at}
use Rattle.graph_model.proofs.counts.list_count.Goals as goal

pub returns-in-None : goal.returns-in-None
returns-in-None c = sym (none_at c.args.list.now c.args.seat 0 (sym c.in-None.ensures.value))
