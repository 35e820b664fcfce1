use Rattle.pgql_grammar.proofs.TextLaws.{undoubled_doubled}
use Rattle.pgql_grammar.proofs.laws.quotes_are_doubled.Goals as goal

pub returns : goal.returns
returns c = undoubled_doubled
