use Rattle.std.proofs.Common.{◌≡◌, ◌≤◌, drop}
use Rattle.pgql_grammar.specs.Limits.{too_deep, too_deep_from}
use Rattle.pgql_pieces.proofs.limits.too_deep.Given as goal

abbrev pub invariant-loop-piece : goal.invariant-loop-piece
invariant-loop-piece l = (too_deep_from l.brackets l.nots l.dashes (drop l.piece-index l.pieces) ≡ too_deep l.pieces) × (l.brackets ≤ l.piece-index) × (l.nots ≤ l.piece-index) × (l.dashes ≤ l.piece-index)
