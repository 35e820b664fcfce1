use Rattle.std.proofs.Common.{◌≡◌, map, take, filter}
use Rattle.std.specs.List.{zip}
use Rattle.graph_model.specs.Stored.{edge_row, edge_is_live}
use Rattle.graph_model.proofs.copies.copy_edges.Given as goal

abbrev pub invariant-loop-seat : goal.invariant-loop-seat
invariant-loop-seat l = l.rows ≡ map (edge_row l.from.seats l.to.seats) (filter edge_is_live (take l.seat (zip l.table.seats l.ends)))
