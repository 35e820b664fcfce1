use Rattle.pgql_lex.proofs.Cover.{spelled}
use Rattle.pgql_lex.proofs.laws.tokens_and_white_space_are_the_text.Goals as goal

pub returns : goal.returns
returns c text found = spelled text found
