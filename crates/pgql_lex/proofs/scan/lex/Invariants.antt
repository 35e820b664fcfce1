use Rattle.std.proofs.Common.{◌≡◌, ◌+◌, ◌≤◌, length}
use Rattle.pgql_lex.specs.Tokens.{tokens, with_front}
use Rattle.pgql_lex.proofs.scan.lex.Given as goal

abbrev pub invariant-loop-rest : goal.invariant-loop-rest
invariant-loop-rest l = (tokens 0 0 l.text ≡ with_front l.tokens (tokens 0 l.at l.rest)) × (l.at + length l.rest ≡ length l.text) × (length l.text ≤ 65535)

abbrev pub decreases-loop-rest : goal.decreases-loop-rest
decreases-loop-rest l = length l.rest
