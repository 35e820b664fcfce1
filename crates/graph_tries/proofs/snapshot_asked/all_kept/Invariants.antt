use Rattle.std.proofs.Common.{◌≡◌, All, take}
use Rattle.graph_snap.specs.Sharing.{IsKnown, graph_parts, parts_of}
use Rattle.graph_tries.proofs.snapshot_asked.all_kept.Given as goal

abbrev pub invariant-loop-slot : goal.invariant-loop-slot
invariant-loop-slot l = record {
  known : All (IsKnown l.on) l.kept;
  parts : parts_of l.on l.kept ≡ take l.slot (graph_parts l.on);
}
