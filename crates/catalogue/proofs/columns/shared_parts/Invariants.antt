use Rattle.std.proofs.Common.{◌≡◌, take}
use Rattle.graph_snap.specs.Sharing.{graph_parts}
use Rattle.catalogue.proofs.columns.shared_parts.Given as goal

abbrev pub invariant-loop-slot : goal.invariant-loop-slot
invariant-loop-slot l = l.made ≡ take l.slot (graph_parts l.shot)
