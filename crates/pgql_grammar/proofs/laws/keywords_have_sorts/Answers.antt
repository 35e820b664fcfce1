use Rattle.pgql_grammar.proofs.TextLaws.{keyword_of_word}
use Rattle.pgql_grammar.proofs.laws.keywords_have_sorts.Goals as goal

pub returns : goal.returns
returns c = keyword_of_word
