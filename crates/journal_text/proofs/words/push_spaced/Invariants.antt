use Rattle.std.proofs.Common.{◌≡◌, ◌++◌, take, map}
use Rattle.journal_text.specs.Lines.{spaced}
use Rattle.journal_text.specs.Words.{word_text}
use Rattle.journal_text.proofs.words.push_spaced.Given as goal

abbrev pub invariant-loop-word : goal.invariant-loop-word
invariant-loop-word l = l.text ≡ l.fn.text ++ spaced (map word_text (take l.word-index l.words))
