-- What the functions of the parser ensure: the outcome of the rule, unless memory ran out.
use Rattle.std.specs.Prelude.{◌≡◌, ℕ, List, Result, Ok, Err}
use Rattle.std.specs.Borrow.{Bor, MutBor}
use Rattle.std.specs.declared.alloc.Global.{Global}
use Rattle.pgql_ast.specs.declared.expr.Expr.{Expr}
use Rattle.pgql_grammar.specs.declared.piece.Piece.{Piece}
use Rattle.pgql_grammar.specs.declared.piece.Level.{Level}
use Rattle.pgql_parse.specs.declared.rest.Stop.{Stop}
use Rattle.pgql_parse.specs.declared.rest.Stop.TheVariants.{NoMemory, Fault}
use Rattle.pgql_grammar.specs.Reading.{Outcome}
use Rattle.pgql_grammar.specs.ExpressionReader.{nested}

abbrev pub Fails : {A : Type 0} → Outcome A → Stop → List Piece → Type 0
Fails outcome NoMemory left = Unit {0}
Fails outcome Fault left = outcome ≡ Err left

abbrev pub Reads : {A : Type 0} → Outcome A → Result A Stop → List Piece → Type 0
Reads outcome (Ok a) left = outcome ≡ Ok (a, left)
Reads outcome (Err e) left = Fails outcome e left

abbrev pub ReadsAt : Outcome Piece → Result (Bor Piece) Stop → List Piece → Type 0
ReadsAt outcome (Ok a) left = outcome ≡ Ok (a.now, left)
ReadsAt outcome (Err e) left = Fails outcome e left

-- a function value that reads expressions to a depth
pub record Nests (depth : ℕ) (pre : Global → MutBor (List Piece) → ℕ → Level → Type 0)
    (post : Global → MutBor (List Piece) → ℕ → Level → Result Expr Stop → MutBor (List Piece) → Type 0) : Type 0 where
  pub callable : (alloc : Global) (old : MutBor (List Piece)) (level : Level) → pre alloc old depth level
  pub reads : (alloc : Global) (old new : MutBor (List Piece)) (level : Level) (r : Result Expr Stop) → post alloc old depth level r new
      → Reads (nested depth level old.now) r new.now
