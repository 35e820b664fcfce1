use Rattle.std.proofs.Common.{◌≡◌, length}
use Rattle.std.specs.Str.Lines.{strip_carriage_return}
use Rattle.script_read.specs.Lines.{drop_spaces}
use Rattle.script_read.proofs.lines.cleaned.Given as goal

abbrev pub invariant-loop-rest : goal.invariant-loop-rest
invariant-loop-rest l = drop_spaces l.rest ≡ drop_spaces (strip_carriage_return l.fn.line)

abbrev pub decreases-loop-rest : goal.decreases-loop-rest
decreases-loop-rest l = length l.rest
