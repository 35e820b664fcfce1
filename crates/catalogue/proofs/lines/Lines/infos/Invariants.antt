use Rattle.std.proofs.Common.{◌≡◌, take, map}
use Rattle.catalogue_state.specs.Step.{line_info}
use Rattle.catalogue.proofs.lines.Lines.infos.Given as goal

abbrev pub invariant-loop-line : goal.invariant-loop-line
invariant-loop-line l = l.infos ≡ map line_info (take l.line-index l.line-items)
