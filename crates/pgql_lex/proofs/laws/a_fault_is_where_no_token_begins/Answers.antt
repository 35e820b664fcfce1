use Rattle.pgql_lex.proofs.Cover.{first_fault}
use Rattle.pgql_lex.proofs.laws.a_fault_is_where_no_token_begins.Goals as goal

pub returns : goal.returns
returns c text place = first_fault text place
