use Rattle.std.proofs.Common.{◌≡◌, take, map}
use Rattle.catalogue_state.specs.Step.{snap_info}
use Rattle.catalogue.proofs.lines.snap_infos.Given as goal

abbrev pub invariant-loop-snap : goal.invariant-loop-snap
invariant-loop-snap l = l.infos ≡ map snap_info (take l.snap-index l.snaps)
