use Rattle.std.proofs.Common.{◌≡◌, ◌≤◌, ◌+◌, length}
use Rattle.script_read.specs.Lines.{lines_of}
use Rattle.script_read.specs.Script.{script_of, lines_read}
use Rattle.script_read.proofs.read.read_lines.Given as goal

abbrev pub invariant-loop-rest : goal.invariant-loop-rest
invariant-loop-rest l = record {
  so_far : script_of l.bytes ≡ lines_read l.number l.reading (lines_of l.rest);
  few : l.number + length l.rest ≤ 16777217;
}

abbrev pub decreases-loop-rest : goal.decreases-loop-rest
decreases-loop-rest l = length l.rest
