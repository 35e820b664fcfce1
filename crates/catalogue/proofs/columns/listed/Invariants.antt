use Rattle.std.proofs.Common.{◌≡◌, take}
use Rattle.column_reclaim.specs.Registry.{ids_of}
use Rattle.catalogue.proofs.columns.listed.Given as goal

abbrev pub invariant-loop-row : goal.invariant-loop-row
invariant-loop-row l = l.made ≡ ids_of (take l.row-index l.rows)
