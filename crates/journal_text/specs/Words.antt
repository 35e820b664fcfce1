-- The text of a word.
use Rattle.std.specs.Prelude.{ℕ, List}
use Rattle.std.specs.Fmt.{decimal}
use Rattle.journal_text.specs.declared.words.Word.{Word}
use Rattle.journal_text.specs.declared.words.Word.TheVariants.{Name, Number}

abbrev pub word_text : Word → List ℕ
word_text (Name name) = name.now
word_text (Number number) = decimal number
