use Rattle.std.proofs.Common.{◌≡◌, false}
use Rattle.std.specs.List.{list_any, range_with_len}
use Rattle.changeset.specs.Facts.{is_there}
use Rattle.changeset.specs.Overlay.{told}
use Rattle.changeset.proofs.overlay.Overlay.some_table_has_edge.Given as goal

abbrev pub invariant-loop-table : goal.invariant-loop-table
invariant-loop-table l = list_any (λ u. is_there ((told l.base l.self).edge u l.key)) (range_with_len 0 l.table) ≡ false
