use Rattle.std.proofs.Common.{◌≡◌, pos, map}
use Rattle.std.specs.List.{range_with_len}
use Rattle.graph_model.specs.Parts.{rank}
use Rattle.graph_model.proofs.places.ranks_of.Given as goal

abbrev pub invariant-loop-seat : goal.invariant-loop-seat
invariant-loop-seat l = record {
  count : l.before ≡ rank l.table.seats l.seat;
  done : l.ranks ≡ map (λ i. pos (rank l.table.seats i)) (range_with_len 0 l.seat);
}
