use Rattle.std.proofs.Common.{◌≡◌, take}
use Rattle.catalogue_state.specs.Derived.{numbers_kept}
use Rattle.catalogue.proofs.arrivals.numbers_kept.Given as goal

abbrev pub invariant-loop-slot : goal.invariant-loop-slot
invariant-loop-slot l = l.made ≡ numbers_kept l.old (take l.slot-index l.kept)
