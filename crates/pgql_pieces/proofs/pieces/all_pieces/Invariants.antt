use Rattle.std.proofs.Common.{◌≡◌, take}
use Rattle.pgql_grammar.specs.Pieces.{pieces}
use Rattle.pgql_pieces.proofs.pieces.all_pieces.Given as goal

abbrev pub invariant-loop-token : goal.invariant-loop-token
invariant-loop-token l = l.pieces.items ≡ pieces l.text (take l.token-index l.found)
