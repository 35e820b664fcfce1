use Rattle.std.proofs.Common.{[], ap}
use Rattle.graph_model.specs.Seats.{TableData}
use Rattle.graph_model.proofs.Memory.{kinds_new}
use Rattle.graph_model.proofs.table.Table.new.Goals as goal

pub returns : goal.returns
returns c =
    rw (c.new.ensures, c.in_ok-empty_columns.ensures) (ap {B = TableData} (λ k. record { kinds = k; seats = [] }) (kinds_new c.args.props.now))
