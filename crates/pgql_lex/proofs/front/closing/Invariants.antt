use Rattle.std.proofs.Common.{◌≡◌, ◌+◌, length, false}
use Rattle.pgql_lex.specs.Tokens.{closing}
use Rattle.pgql_lex.proofs.front.closing.Given as goal

abbrev pub invariant-loop-z : goal.invariant-loop-z
invariant-loop-z l = (closing l.is_second l.at l.z ≡ closing false 1 l.initial.z) × (l.at + length l.z ≡ length l.initial.z + 1)

abbrev pub decreases-loop-z : goal.decreases-loop-z
decreases-loop-z l = length l.z
