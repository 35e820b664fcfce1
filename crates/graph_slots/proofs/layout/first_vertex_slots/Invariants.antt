use Rattle.std.proofs.Common.{◌≡◌, ◌≤◌, ◌*◌, map}
use Rattle.std.specs.List.{range_with_len}
use Rattle.graph_slots.specs.Numbers.{vertex_start}
use Rattle.graph_slots.proofs.layout.first_vertex_slots.Given as goal

abbrev pub invariant-loop-table : goal.invariant-loop-table
invariant-loop-table l = record {
  firsts : l.firsts ≡ map (vertex_start l.tables) (range_with_len 0 l.table-index);
  next : l.next ≡ vertex_start l.tables l.table-index;
  bound : l.next ≤ 65 * l.table-index;
}
