use Rattle.std.proofs.Common.{◌≡◌, length, take, sum_by}
use Rattle.graph_mutate.specs.Undirected.{straight}
use Rattle.graph_mutate.proofs.undirect.reverse_total.Given as goal

abbrev pub invariant-loop-table : goal.invariant-loop-table
invariant-loop-table l = l.count ≡ sum_by (λ rows. length (straight rows)) (take l.table l.base.edges)
