use Rattle.std.proofs.Common.{◌≡◌, map, take}
use Rattle.csr_rows.specs.Offsets.{place_in}
use Rattle.csr_rows.proofs.rows.places_in.Given as goal

abbrev pub invariant-loop-pair : goal.invariant-loop-pair
invariant-loop-pair l = l.places.items ≡ map place_in (take l.pair-index l.pairs)
