use Rattle.std.proofs.Common.{drop}
use Rattle.std.specs.Prelude.{◌++◌, List}
use Rattle.catalogue_state.specs.declared.parts.Snap.{Snap}
use Rattle.catalogue.specs.Registry.{IsRegistry}
use Rattle.catalogue.proofs.columns.release_snaps.Given as goal

abbrev pub invariant-loop-snap : goal.invariant-loop-snap
invariant-loop-snap l = (rest : List Snap) → IsRegistry l.initial.registry.rows (l.snaps ++ rest) → IsRegistry l.registry.rows (drop l.snap-index l.snaps ++ rest)
