use Rattle.std.proofs.Common.{◌≡◌, false}
use Rattle.std.specs.List.{list_any, range_with_len}
use Rattle.changeset.specs.Overlay.{told}
use Rattle.changeset.proofs.overlay.Overlay.some_table_has_vertex.Given as goal

abbrev pub invariant-loop-table : goal.invariant-loop-table
invariant-loop-table l = list_any (λ u. ((told l.base l.self).vertex u l.key).there) (range_with_len 0 l.table) ≡ false
