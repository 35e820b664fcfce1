-- Languages: which pieces spell which value. A rule of the grammar is a `do` block: the pieces of its parts, one after another.
use Rattle.std.specs.Prelude.{◌≡◌, ◌⊎◌, Bool, true, false, List, [], ◌∷◌, ◌++◌, Option, Some, None}
use Rattle.pgql_grammar.specs.declared.piece.Piece.{Piece}
use Rattle.pgql_grammar.specs.declared.piece.Sym.{Sym}
use Rattle.pgql_grammar.specs.Sorts.{is}

abbrev pub Lang : Type 0 → Type 1
Lang A = List Piece → A → Type 0

-- one piece of a sort
abbrev pub one : (Sym → Bool) → Lang Piece
one test = λ ts x. (ts ≡ x ∷ []) × (test x.sym ≡ true)

-- no piece
abbrev pub pure : {A : Type 0} → A → Lang A
pure a = λ ts b. (ts ≡ []) × (b ≡ a)

-- the first, and then the second, which may look at the value of the first
infixl 10 ◌>>=◌
abbrev pub ◌>>=◌ : {A B : Type 0} → Lang A → (A → Lang B) → Lang B
L >>= M = λ ts b. (u v : List Piece) × (a : _) × (ts ≡ u ++ v) × L u a × M a v b

infixl 10 ◌>>◌
abbrev pub ◌>>◌ : {A B : Type 0} → Lang A → Lang B → Lang B
L >> M = L >>= (λ _. M)

infixr 9 ◌or◌
abbrev pub ◌or◌ : {A : Type 0} → Lang A → Lang A → Lang A
L or M = λ ts a. L ts a ⊎ M ts a

-- one of two, by what is known before
abbrev pub pick : {A : Type 0} → Bool → Lang A → Lang A → Lang A
pick true L M = L
pick false L M = M

-- the pieces of these values, one after another
abbrev pub AllOf : {A : Type 0} → Lang A → List A → List Piece → Type 0
AllOf L [] ts = ts ≡ []
AllOf L (a ∷ more) ts = (u v : List Piece) × (ts ≡ u ++ v) × L u a × AllOf L more v

-- any number of them
abbrev pub many : {A : Type 0} → Lang A → Lang (List A)
many L = λ ts found. AllOf L found ts

-- [ k ]: whether the keyword stands there
abbrev pub maybe : Sym → Lang Bool
maybe k = (one (is k) >> pure true) or pure false

-- [ k L ]
abbrev pub optional : {A : Type 0} → Sym → Lang A → Lang (Option A)
optional k L = (do one (is k); a ← L; pure (Some a)) or pure None

-- L { k L }
abbrev pub separated : {A : Type 0} → Sym → Lang A → Lang (List A)
separated k L = do
  first ← L
  more ← many (one (is k) >> L)
  pure (first ∷ more)
