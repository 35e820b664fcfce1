-- Readers that look one piece ahead.
use Rattle.std.specs.Prelude.{ℕ, zero, suc, Bool, true, false, if◌then◌else◌, List, [], ◌∷◌, length, Option, Some, None, Result, Ok, Err}
use Rattle.pgql_grammar.specs.declared.piece.Piece.{Piece}
use Rattle.pgql_grammar.specs.declared.piece.Sym.{Sym}
use Rattle.pgql_grammar.specs.declared.piece.Sym.TheVariants.{End}
use Rattle.pgql_grammar.specs.Sorts.{is}

-- a value and the pieces that are left, or the pieces from the fault on
abbrev pub Outcome : Type 0 → Type 0
Outcome A = Result (A × List Piece) (List Piece)

abbrev pub Parser : Type 0 → Type 0
Parser A = List Piece → Outcome A

abbrev pub and_then : {A B : Type 0} → Outcome A → (A → Parser B) → Outcome B
and_then (Ok p) f = f p.0 p.1
and_then (Err ts) f = Err ts

infixl 10 ◌>>=◌
abbrev pub ◌>>=◌ : {A B : Type 0} → Parser A → (A → Parser B) → Parser B
p >>= f = λ ts. and_then (p ts) f

infixl 10 ◌>>◌
abbrev pub ◌>>◌ : {A B : Type 0} → Parser A → Parser B → Parser B
p >> q = p >>= (λ _. q)

abbrev pub pure : {A : Type 0} → A → Parser A
pure a = λ ts. Ok (a, ts)

-- the sort of the next piece
abbrev pub head : List Piece → Sym
head [] = End
head (x ∷ ts) = x.sym

-- what the next piece decides
abbrev pub by_next : {A : Type 0} → (Sym → Parser A) → Parser A
by_next f = λ ts. f (head ts) ts

-- the first where the next piece is of this sort, else the second
abbrev pub choose : {A : Type 0} → (Sym → Bool) → Parser A → Parser A → Parser A
choose test p q = by_next (λ t. if test t then p else q)

-- the next piece, if it is of this sort
abbrev pub expect : (Sym → Bool) → Parser Piece
expect test [] = Err []
expect test (x ∷ ts) = if test x.sym then Ok (x, ts) else Err (x ∷ ts)

-- as long as a piece of this sort is next, one more. Each takes a piece, so their number is turns enough.
unfoldable pub turns : {A : Type 0} → ℕ → (Sym → Bool) → (Piece → Parser A) → Parser (List A)
turns zero starts item = pure []
turns (suc n) starts item = choose starts (do sign ← expect starts; x ← item sign; more ← turns n starts item; pure (x ∷ more)) (pure [])

unfoldable pub all : {A : Type 0} → (Sym → Bool) → (Piece → Parser A) → Parser (List A)
all starts item = λ ts. turns (length ts) starts item ts

-- a keyword, if it is next
unfoldable pub maybe : Sym → Parser Bool
maybe k = choose (is k) (expect (is k) >> pure true) (pure false)

-- what a keyword begins, if that is next
unfoldable pub optional : {A : Type 0} → Sym → Parser A → Parser (Option A)
optional k p = choose (is k) (do expect (is k); a ← p; pure (Some a)) (pure None)

-- one or more, with a sign between two
unfoldable pub separated : {A : Type 0} → Sym → Parser A → Parser (List A)
separated k p = do
  first ← p
  more ← all (is k) (λ _. p)
  pure (first ∷ more)
