-- A list that is read on: what a loop has found, and what it will find.
use Rattle.std.specs.Prelude.{List, ◌++◌}
use Rattle.pgql_grammar.specs.Reading.{Outcome, and_then, pure}

abbrev pub front : {A : Type 0} → List A → Outcome (List A) → Outcome (List A)
front found o = and_then o (λ more. pure (found ++ more))
