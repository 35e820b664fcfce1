use Rattle.pgql_lex.proofs.Complete.{token-begins, begins-token}
use Rattle.pgql_lex.proofs.laws.a_token_is_what_is_spelled.Goals as goal

pub returns : goal.returns
returns c text kind len = (token-begins text kind len, begins-token text kind len)
