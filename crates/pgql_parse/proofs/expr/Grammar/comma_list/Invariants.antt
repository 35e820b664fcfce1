use Rattle.std.proofs.Common.{◌≡◌, ◌-◌}
use Rattle.pgql_grammar.specs.declared.piece.Sym.TheVariants as s
use Rattle.pgql_grammar.specs.declared.piece.Level.TheVariants.{Whole}
use Rattle.pgql_grammar.specs.Reading.{turns}
use Rattle.pgql_parse.specs.Front.{front}
use Rattle.pgql_grammar.specs.Sorts.{is}
use Rattle.pgql_grammar.specs.ExpressionReader.{comma_list, nested}
use Rattle.pgql_parse.proofs.expr.Grammar.comma_list.Given as goal

abbrev pub invariant-loop-turn : goal.invariant-loop-turn
invariant-loop-turn g l = comma_list (nested l.self.depth) l.fn.rest ≡ front l.found (turns (l.most - l._turn) (is s.Comma) (λ _. nested l.self.depth Whole) l.rest)
