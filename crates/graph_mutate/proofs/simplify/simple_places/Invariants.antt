use Rattle.std.proofs.Common.{◌≡◌, ◌<◌, [], All, ℤ, length, take}
use Rattle.std.specs.HashSet.{contains}
use Rattle.graph_model.specs.Keys.{rows_at}
use Rattle.graph_mutate.specs.Pairs.{same_pair}
use Rattle.graph_mutate.specs.Taken.{taken}
use Rattle.graph_mutate.specs.Simplified.{simple_from}
use Rattle.graph_mutate.proofs.Stays.{pair_in, loops_at}
use Rattle.graph_mutate.proofs.simplify.simple_places.Given as goal

abbrev pub invariant-loop-place : goal.invariant-loop-place
invariant-loop-place l = record {
  seen : (s d : ℤ) → contains same_pair l.seen (s, d) ≡ pair_in l.base l.table s d (take l.place (rows_at l.base.edges l.table));
  taken : taken (rows_at l.base.edges l.table) l.places ≡ simple_from (loops_at l.base l.table) [] (take l.place (rows_at l.base.edges l.table));
  within : All (λ p. p < length (rows_at l.base.edges l.table)) l.places;
}
