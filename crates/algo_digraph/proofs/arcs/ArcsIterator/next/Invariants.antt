use Rattle.std.proofs.Common.{◌≡◌, ◌-◌, length}
use Rattle.algo_digraph.specs.Sides.{arcs_left, AreLeft}
use Rattle.algo_digraph.proofs.arcs.ArcsIterator.next.Given as goal

abbrev pub invariant-tables : goal.invariant-tables
invariant-tables l = record {
  same : arcs_left l.self-inside.first_edge l.self-inside.there_first l.self-inside.there.now l.self-inside.row.now l.self-inside.v l.self-inside.sides.now l.self-inside.table ≡ l.fn.self;
  left : AreLeft l.self-inside.first_edge l.self-inside.there_first l.self-inside.there.now l.self-inside.row.now l.self-inside.sides.now;
}

abbrev pub decreases-tables : goal.decreases-tables
decreases-tables l = length l.self-inside.sides.now - l.self-inside.table
