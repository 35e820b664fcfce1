use Rattle.std.proofs.Common.{◌≡◌, pos, map, take}
use Rattle.std.specs.Prelude.{slice_index_or}
use Rattle.graph_columns.specs.TableParts.{places_told}
use Rattle.graph_mutate.proofs.sorting.moved.Given as goal

abbrev pub invariant-loop-place : goal.invariant-loop-place
invariant-loop-place l = l.made ≡ map (λ p. pos (slice_index_or l.new p 0)) (take l.place-index (places_told l.places))
