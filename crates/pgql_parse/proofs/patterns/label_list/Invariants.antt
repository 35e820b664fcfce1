use Rattle.std.proofs.Common.{◌≡◌, ◌-◌}
use Rattle.pgql_grammar.specs.declared.piece.Sym.TheVariants as s
use Rattle.pgql_grammar.specs.Reading.{turns, separated}
use Rattle.pgql_grammar.specs.Sorts.{is}
use Rattle.pgql_grammar.specs.QueryReader as rule
use Rattle.pgql_parse.specs.Front.{front}
use Rattle.pgql_parse.proofs.patterns.label_list.Given as goal

abbrev pub invariant-loop-turn : goal.invariant-loop-turn
invariant-loop-turn l = separated s.Bar rule.label l.fn.rest ≡ front l.found (turns (l.most - l._turn) (is s.Bar) (λ _. rule.label) l.rest)
