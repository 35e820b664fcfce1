use Rattle.std.proofs.Common.{sym, subst}
use Rattle.graph_model.specs.Keys.{rows_at}
use Rattle.graph_mutate.specs.Sorted.{row_degree, falling}
use Rattle.graph_mutate.specs.Laws.{IsSorted}
use Rattle.graph_mutate.proofs.Falling.{sorted_is, rows_sorted, falling_length}
use Rattle.graph_mutate.proofs.Ranking.{falls_in_pairs, falling_falls, falling_stable}
use Rattle.graph_mutate.proofs.laws.sorted_graphs_are_sorted.Goals as goal

pub returns-clause-graph : goal.returns-clause-graph
returns-clause-graph c = sorted_is c.args.graph.now c.sound.ensures

pub returns-clause-tables : goal.returns-clause-tables
returns-clause-tables c = λ t.
    let g = c.args.graph.now in
    let n = row_degree g t in
    let rows = rows_at g.vertices t in
    let is : IsSorted n rows (falling n rows) = record { falls = falls_in_pairs n (falling n rows) (falling_falls n rows); stable = λ q. falling_stable n q rows; same = falling_length n rows } in
    subst (IsSorted n rows) (sym (rows_sorted g t)) is
