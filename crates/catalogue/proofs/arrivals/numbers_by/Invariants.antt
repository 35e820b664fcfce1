use Rattle.std.proofs.Common.{◌≡◌, ◌+◌, take}
use Rattle.catalogue_state.specs.Derived.{numbers_by, new_count}
use Rattle.catalogue.proofs.arrivals.numbers_by.Given as goal

abbrev pub invariant-loop-slot : goal.invariant-loop-slot
invariant-loop-slot l = record {
  made : l.made ≡ numbers_by l.old l.first (take l.slot-index l.kept);
  next : l.next ≡ l.first + new_count (take l.slot-index l.kept);
}
