use Rattle.std.proofs.Common.{◌≤◌, All, length, arith, sym, subst}
use Rattle.graph_schema.proofs.Sound.{few_tables, few_vertex_props, few_edge_props}
use Rattle.graph_slots.proofs.layout.Layout.new.Goals as goal

pub first_vertex_slots-requires-clause-props : goal.first_vertex_slots-requires-clause-props
first_vertex_slots-requires-clause-props c = subst (All (λ x. length x.props ≤ 64)) (sym c.vertices.ensures) (few_vertex_props c.args.schema c.sound.ensures)

pub first_edge_slots-requires-clause-few : goal.first_edge_slots-requires-clause-few
first_edge_slots-requires-clause-few c = rw c.edges.ensures (omega (arith, few_tables c.args.schema c.sound.ensures))

pub first_edge_slots-requires-clause-props : goal.first_edge_slots-requires-clause-props
first_edge_slots-requires-clause-props c = subst (All (λ x. length x.props ≤ 64)) (sym c.edges.ensures) (few_edge_props c.args.schema c.sound.ensures)
