use Rattle.std.proofs.Common.{◌≡◌, take}
use Rattle.graph_columns.specs.TableParts.{places_told}
use Rattle.graph_columns.proofs.parts.ends_of.Given as goal

abbrev pub invariant-loop-place : goal.invariant-loop-place
invariant-loop-place l = l.ends ≡ take l.place-index (places_told l.places)
