use Rattle.std.proofs.Common.{◌≡◌, ◌-◌}
use Rattle.pgql_grammar.specs.declared.piece.Sym.TheVariants as s
use Rattle.pgql_grammar.specs.Reading.{turns, all}
use Rattle.pgql_parse.specs.Front.{front}
use Rattle.pgql_grammar.specs.Sorts.{is}
use Rattle.pgql_grammar.specs.ExpressionReader as rule
use Rattle.pgql_parse.proofs.expr.Grammar.conjunctions.Given as goal

abbrev pub invariant-loop-turn : goal.invariant-loop-turn
invariant-loop-turn g l = all (is s.Or) (λ _. rule.conjunction (rule.nested l.self.depth)) l.fn.rest ≡ front l.found (turns (l.most - l._turn) (is s.Or) (λ _. rule.conjunction (rule.nested l.self.depth)) l.rest)
