use Rattle.std.proofs.Common.{lit<}
use Rattle.std.proofs.lemmas.Iterator.Consumers.{count_from_yields_List}
use Rattle.std.proofs.lemmas.Iterator.Splits.{YieldsList-from_str_split}
use Rattle.script_read.specs.Words.{word_count}
use Rattle.script_read.proofs.words.count_words.Goals as goal

pub returns : goal.returns
unfolding word_count
returns c =
    count_from_yields_List c.split.result c.count.result c.count.ensures.ran
    (YieldsList-from_str_split 32 c.args.line.now (lit< tt) c.split.ensures.text c.split.ensures.has_more c.split.ensures.pattern)
