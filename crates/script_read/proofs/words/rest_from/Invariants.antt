use Rattle.std.proofs.Common.{◌≡◌, drop}
use denote.Text.{Utf8}
use denote.Shadow.{shadow}
use Rattle.script_read.specs.Words.{words_of}
use Rattle.script_read.proofs.words.rest_from.Given as goal

abbrev pub invariant-loop-i : goal.invariant-loop-i
invariant-loop-i l = shadow (Utf8 l.rest) × (drop l._i (words_of l.fn.line) ≡ words_of l.rest)
