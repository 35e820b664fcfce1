use Rattle.std.proofs.Common.{◌≡◌, ◌++◌, false}
use Rattle.std.specs.Str.Iter.{chars_rest}
use Rattle.pgql_grammar.specs.Pieces.{undoubled}
use Rattle.pgql_pieces.proofs.quotes.undoubled.Given as goal

abbrev pub invariant-loop-c : goal.invariant-loop-c
invariant-loop-c l = l.out ++ undoubled l.behind_quote (chars_rest l.c-iterator) ≡ undoubled false l.fn.text
