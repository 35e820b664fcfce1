use Rattle.std.proofs.Common.{◌≡◌, ◌-◌}
use Rattle.pgql_grammar.specs.declared.piece.Sym.TheVariants as s
use Rattle.pgql_grammar.specs.declared.piece.Level.TheVariants.{Whole}
use Rattle.pgql_grammar.specs.ExpressionReader.{nested}
use Rattle.pgql_grammar.specs.Reading.{turns, separated}
use Rattle.pgql_grammar.specs.Sorts.{is}
use Rattle.pgql_grammar.specs.QueryReader as rule
use Rattle.pgql_parse.specs.Front.{front}
use Rattle.pgql_parse.proofs.clauses.key_list.Given as goal

abbrev pub invariant-loop-turn : goal.invariant-loop-turn
invariant-loop-turn l = separated s.Comma (rule.key (nested l.depth Whole)) l.fn.rest ≡ front l.found (turns (l.most - l._turn) (is s.Comma) (λ _. (rule.key (nested l.depth Whole))) l.rest)
