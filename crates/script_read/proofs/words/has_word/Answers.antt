use Rattle.std.proofs.Common.{lit<, rules}
use Rattle.std.proofs.lemmas.Iterator.Search.{any_from_yields_List}
use Rattle.std.proofs.lemmas.Iterator.Splits.{YieldsList-from_str_split}
use Rattle.script_read.specs.Words.{same, has_word}
use Rattle.script_read.proofs.words.has_word.Goals as goal

pub returns : goal.returns
unfolding has_word
returns c =
    any_from_yields_List (λ word. same word c.args.text.now) _ _ _ c.any.ensures.ran
    (YieldsList-from_str_split 32 c.args.line.now (lit< tt) c.split.ensures.text c.split.ensures.has_more c.split.ensures.pattern)
    (λ x b q k. search rules)
