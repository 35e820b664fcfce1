use Rattle.std.proofs.Common.{◌≡◌, ◌≤◌, ◌+◌, ◌*◌, map}
use Rattle.std.specs.List.{range_with_len}
use Rattle.graph_slots.specs.Numbers.{edge_start}
use Rattle.graph_slots.proofs.layout.first_edge_slots.Given as goal

abbrev pub invariant-loop-table : goal.invariant-loop-table
invariant-loop-table l = record {
  firsts : l.firsts ≡ map (λ t. l.fn.start + edge_start l.tables t) (range_with_len 0 l.table-index);
  next : l.next ≡ l.fn.start + edge_start l.tables l.table-index;
  bound : l.next ≤ l.fn.start + 69 * l.table-index;
}
