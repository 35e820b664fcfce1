use Rattle.std.proofs.Common.{◌≡◌, map, take, filter}
use Rattle.graph_model.specs.Seats.{is_live}
use Rattle.graph_model.specs.Stored.{vertex_row}
use Rattle.graph_model.proofs.copies.copy_vertices.Given as goal

abbrev pub invariant-loop-seat : goal.invariant-loop-seat
invariant-loop-seat l = l.rows ≡ map vertex_row (filter is_live (take l.seat l.table.seats))
