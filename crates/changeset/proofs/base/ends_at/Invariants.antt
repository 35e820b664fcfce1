use Rattle.std.proofs.Common.{◌≡◌, ◌*◌, ◌≤◌, ℤ, Some, slice_get, take, sum_by}
use Rattle.std.specs.List.{zip}
use Rattle.graph_model.specs.Keys.{row_total}
use Rattle.graph_snap.specs.Reading.{vertex_keys_at}
use Rattle.changeset.specs.Facts.{ends_there}
use Rattle.changeset.proofs.base.ends_at.Given as goal

abbrev pub invariant-loop-table : goal.invariant-loop-table
invariant-loop-table l = record {
  ends : (key : ℤ) → slice_get (vertex_keys_at l.base l.at.table) l.at.place ≡ Some key → l.ends ≡ sum_by (λ p. sum_by (ends_there l.at.table key p.0) p.1) (take l.table (zip l.base.schema.edges l.base.edges));
  few : l.ends ≤ 2 * row_total (take l.table l.base.edges);
}
