use Rattle.std.proofs.Common.{◌≡◌, ℤ, take}
use Rattle.std.specs.Prelude.{position}
use Rattle.std.specs.Ordering.{int_eq}
use Rattle.key_places.specs.Places.{place_of}
use Rattle.graph_columns.proofs.table_index.first_places.Given as goal

abbrev pub invariant-loop-place : goal.invariant-loop-place
invariant-loop-place l = (k : ℤ) → place_of l.places k ≡ position (λ q. int_eq q k) (take l.place l.keys)
