use Rattle.std.proofs.Common.{take}
use Rattle.std.specs.List.{zip}
use Rattle.graph_model.specs.Parts.{ArePlacesOf}
use Rattle.graph_model.proofs.places.places_of_ends.Given as goal

abbrev pub invariant-loop-seat : goal.invariant-loop-seat
invariant-loop-seat l = ArePlacesOf l.from l.to (take l.seat (zip l.table.seats l.ends)) l.places
