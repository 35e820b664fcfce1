use Rattle.std.proofs.Common.{◌≡◌, map, drop, true}
use Rattle.script_read.specs.Dues.{due_of, has_form, wrong_behind}
use Rattle.script_read.specs.Words.{words_of}
use Rattle.script_read.proofs.args.wrong_word.Given as goal

abbrev pub invariant-loop-i : goal.invariant-loop-i
invariant-loop-i l = record {
  so_far : wrong_behind (map due_of l.args) (words_of l.fn.line) ≡ wrong_behind (map due_of (drop l.i l.args)) (drop l.i (words_of l.fn.line));
  stand : has_form (map due_of (drop l.i l.args)) (drop l.i (words_of l.fn.line)) ≡ true;
}
