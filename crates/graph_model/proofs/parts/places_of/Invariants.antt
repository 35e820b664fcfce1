use Rattle.std.proofs.Common.{take}
use Rattle.graph_model.specs.Parts.{TellsPlaces}
use Rattle.graph_model.proofs.parts.places_of.Given as goal

abbrev pub invariant-loop-place : goal.invariant-loop-place
invariant-loop-place l = TellsPlaces (take l.place l.keys) l.places
