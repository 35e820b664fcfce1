use Rattle.std.proofs.Common.{◌≡◌, take}
use Rattle.graph_snap.specs.Sharing.{graph_parts}
use Rattle.catalogue_state.specs.Derived.{new_parts}
use Rattle.catalogue.proofs.arrivals.new_parts.Given as goal

abbrev pub invariant-loop-slot : goal.invariant-loop-slot
invariant-loop-slot l = l.made ≡ new_parts (take l.slot l.kept) (take l.slot (graph_parts l.shot))
