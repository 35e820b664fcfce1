use Rattle.std.proofs.Common.{◌≡◌, [], map, take}
use Rattle.graph_model.specs.Stored.{kinds_of_props}
use Rattle.graph_model.proofs.tables.edge_tables.Given as goal

abbrev pub invariant-loop-shape : goal.invariant-loop-shape
invariant-loop-shape l = l.tables ≡ map (λ x. record { kinds = kinds_of_props x.props; seats = [] }) (take l.shape-index l.shapes)
