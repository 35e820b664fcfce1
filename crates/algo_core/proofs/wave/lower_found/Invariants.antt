use Rattle.std.proofs.Common.{All, take}
use Rattle.std.specs.Prelude.{flat_map, IsOk}
use Rattle.algo_core.specs.Peeling.{found_in, IsLowering}
use Rattle.algo_core.proofs.wave.lower_found.Given as goal

abbrev pub invariant-loop-one : goal.invariant-loop-one
invariant-loop-one l = record {
  found : All IsOk (take l.one-index l.found);
  lowering : IsLowering l.level (flat_map found_in (take l.one-index l.found)) l.initial.ends l.ends l.initial.queue.items l.queue.items;
}
