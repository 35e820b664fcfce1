use Rattle.std.proofs.Common.{drop}
use Rattle.std.specs.Prelude.{◌++◌, List}
use Rattle.catalogue_state.specs.declared.parts.Snap.{Snap}
use Rattle.catalogue_state.specs.State.{snaps_of}
use Rattle.catalogue.specs.Registry.{IsRegistry}
use Rattle.catalogue.proofs.columns.release_graphs.Given as goal

abbrev pub invariant-loop-graph : goal.invariant-loop-graph
invariant-loop-graph l = (rest : List Snap) → IsRegistry l.initial.registry.rows (snaps_of l.held ++ rest) → IsRegistry l.registry.rows (snaps_of (drop l.graph-index l.held) ++ rest)
