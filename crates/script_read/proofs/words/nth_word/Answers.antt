use Rattle.std.proofs.Common.{lit<}
use Rattle.std.proofs.lemmas.Iterator.Consumers.{nth_from_yields_List}
use Rattle.std.proofs.lemmas.Iterator.Splits.{YieldsList-from_str_split}
use Rattle.script_read.specs.Words.{word_at}
use Rattle.script_read.proofs.Feeds.{or_empty}
use Rattle.script_read.proofs.words.nth_word.Goals as goal

pub returns : goal.returns
unfolding word_at
returns c =
    rw c.unwrap_or.ensures (or_empty c.nth.result _ _ (nth_from_yields_List c.nth.result _ c.args.place c.nth.ensures.ran
    (YieldsList-from_str_split 32 c.args.line.now (lit< tt) c.split.ensures.text c.split.ensures.has_more c.split.ensures.pattern)))
