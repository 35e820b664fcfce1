use Rattle.std.proofs.Common.{◌≡◌, map, drop}
use Rattle.script_read.specs.Dues.{due_of, has_form}
use Rattle.script_read.specs.Words.{words_of}
use Rattle.script_read.proofs.args.has_form.Given as goal

abbrev pub invariant-loop-i : goal.invariant-loop-i
invariant-loop-i l = has_form (map due_of l.args) (words_of l.fn.line) ≡ has_form (map due_of (drop l.i l.args)) (drop l.i (words_of l.fn.line))
