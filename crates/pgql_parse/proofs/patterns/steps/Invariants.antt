use Rattle.std.proofs.Common.{◌≡◌, ◌-◌}
use Rattle.pgql_grammar.specs.Reading.{turns}
use Rattle.pgql_grammar.specs.Sorts.{is_edge}
use Rattle.pgql_grammar.specs.QueryReader as rule
use Rattle.pgql_parse.specs.Front.{front}
use Rattle.pgql_parse.proofs.patterns.steps.Given as goal

abbrev pub invariant-loop-turn : goal.invariant-loop-turn
invariant-loop-turn l = rule.steps l.fn.rest ≡ front l.found (turns (l.most - l._turn) is_edge rule.step l.rest)
