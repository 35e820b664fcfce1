use Rattle.std.proofs.Common.{◌≡◌, ◌+◌, ◌*◌, ◌≤◌, ℤ, Some, slice_get, sum_by}
use Rattle.std.specs.List.{range_with_len}
use Rattle.graph_columns.specs.Keys.{vertex_keys_at}
use Rattle.graph_mutate.specs.Sorted.{starts_in, ends_in}
use Rattle.graph_mutate.proofs.degrees.degree_of.Given as goal

abbrev pub invariant-loop-table : goal.invariant-loop-table
invariant-loop-table l = record {
  ends : (key : ℤ) → slice_get (vertex_keys_at l.base l.at.table) l.at.place ≡ Some key → l.ends ≡ sum_by (λ e. starts_in l.base l.at.table key e + ends_in l.base l.at.table key e) (range_with_len 0 l.table);
  few : l.ends ≤ 8388608 * l.table;
}
