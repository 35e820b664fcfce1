use Rattle.std.proofs.Common.{◌≡◌, [], map, take}
use Rattle.graph_model.proofs.table.empty_columns.Given as goal

abbrev pub invariant-loop-prop : goal.invariant-loop-prop
invariant-loop-prop l = l.columns ≡ map (λ p. record { kind = p.kind; values = [] }) (take l.prop-index l.props)
