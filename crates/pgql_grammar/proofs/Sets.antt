-- Sets of sorts, compared by going through all sorts.
use Rattle.std.proofs.Common.{◌≡◌, ℕ, zero, suc, Bool, true, false, not, ◌||◌, if◌then◌else◌, List, [], ◌∷◌, Option, Some, None, refl, sym, ap, ◌∙◌}
use Rattle.pgql_grammar.specs.declared.piece.Sym.{Sym}
use Rattle.pgql_grammar.specs.declared.piece.Sym.TheVariants as s

abbrev pub every : List Sym
every = s.End ∷ s.Name ∷ s.Number ∷ s.Chars ∷ s.Day ∷ s.Select ∷ s.Distinct ∷ s.From ∷ s.Match ∷ s.On ∷ s.Where ∷ s.Group ∷ s.By ∷ s.Having ∷ s.Order ∷ s.Asc ∷ s.Desc ∷ s.Limit ∷ s.Offset ∷ s.As ∷ s.And ∷ s.Or ∷ s.Not ∷ s.Is ∷ s.Null ∷ s.True ∷ s.False ∷ s.In ∷ s.Date ∷ s.Count ∷ s.Min ∷ s.Max ∷ s.Sum ∷ s.Open ∷ s.Close ∷ s.OpenSquare ∷ s.CloseSquare ∷ s.Comma ∷ s.Dot ∷ s.Colon ∷ s.Bar ∷ s.Equal ∷ s.Unequal ∷ s.Less ∷ s.AtMost ∷ s.Greater ∷ s.AtLeast ∷ s.Plus ∷ s.Minus ∷ s.Star ∷ s.Slash ∷ s.Percent ∷ s.Question ∷ []

abbrev pub holds_in : List Sym → (Sym → Bool) → Bool
holds_in [] h = true
holds_in (k ∷ ks) h = if h k then holds_in ks h else false

abbrev nth : ℕ → List Sym → Option Sym
nth n [] = None
nth zero (k ∷ ks) = Some k
nth (suc n) (k ∷ ks) = nth n ks

index : Sym → ℕ
index s.End = 0
index s.Name = 1
index s.Number = 2
index s.Chars = 3
index s.Day = 4
index s.Select = 5
index s.Distinct = 6
index s.From = 7
index s.Match = 8
index s.On = 9
index s.Where = 10
index s.Group = 11
index s.By = 12
index s.Having = 13
index s.Order = 14
index s.Asc = 15
index s.Desc = 16
index s.Limit = 17
index s.Offset = 18
index s.As = 19
index s.And = 20
index s.Or = 21
index s.Not = 22
index s.Is = 23
index s.Null = 24
index s.True = 25
index s.False = 26
index s.In = 27
index s.Date = 28
index s.Count = 29
index s.Min = 30
index s.Max = 31
index s.Sum = 32
index s.Open = 33
index s.Close = 34
index s.OpenSquare = 35
index s.CloseSquare = 36
index s.Comma = 37
index s.Dot = 38
index s.Colon = 39
index s.Bar = 40
index s.Equal = 41
index s.Unequal = 42
index s.Less = 43
index s.AtMost = 44
index s.Greater = 45
index s.AtLeast = 46
index s.Plus = 47
index s.Minus = 48
index s.Star = 49
index s.Slash = 50
index s.Percent = 51
index s.Question = 52

listed : (k : Sym) → nth (index k) every ≡ Some k
unfolding index
listed s.End = refl
listed s.Name = refl
listed s.Number = refl
listed s.Chars = refl
listed s.Day = refl
listed s.Select = refl
listed s.Distinct = refl
listed s.From = refl
listed s.Match = refl
listed s.On = refl
listed s.Where = refl
listed s.Group = refl
listed s.By = refl
listed s.Having = refl
listed s.Order = refl
listed s.Asc = refl
listed s.Desc = refl
listed s.Limit = refl
listed s.Offset = refl
listed s.As = refl
listed s.And = refl
listed s.Or = refl
listed s.Not = refl
listed s.Is = refl
listed s.Null = refl
listed s.True = refl
listed s.False = refl
listed s.In = refl
listed s.Date = refl
listed s.Count = refl
listed s.Min = refl
listed s.Max = refl
listed s.Sum = refl
listed s.Open = refl
listed s.Close = refl
listed s.OpenSquare = refl
listed s.CloseSquare = refl
listed s.Comma = refl
listed s.Dot = refl
listed s.Colon = refl
listed s.Bar = refl
listed s.Equal = refl
listed s.Unequal = refl
listed s.Less = refl
listed s.AtMost = refl
listed s.Greater = refl
listed s.AtLeast = refl
listed s.Plus = refl
listed s.Minus = refl
listed s.Star = refl
listed s.Slash = refl
listed s.Percent = refl
listed s.Question = refl

rest_holds : (b c : Bool) → (if b then c else false) ≡ true → (b ≡ true) × (c ≡ true)
rest_holds true c e = (refl, e)
rest_holds false c e = absurd cc

found : (h : Sym → Bool) (ks : List Sym) (n : ℕ) (k : Sym) → holds_in ks h ≡ true → nth n ks ≡ Some k → h k ≡ true
found h [] n k e f = absurd cc
found h (x ∷ ks) zero k e f = let same : x ≡ k = cc in ap h (sym same) ∙ (rest_holds (h x) (holds_in ks h) e).0
found h (x ∷ ks) (suc n) k e f = found h ks n k (rest_holds (h x) (holds_in ks h) e).1 f

-- what holds at each sort of the list holds at each sort
pub holds : (h : Sym → Bool) → holds_in every h ≡ true → (k : Sym) → h k ≡ true
holds h e k = found h every (index k) k e (listed k)

-- each sort of the first is one of the second
abbrev pub below : (Sym → Bool) → (Sym → Bool) → Bool
below f g = holds_in every (λ k. if f k then g k else true)

-- no sort of the first is one of the second
abbrev pub apart : (Sym → Bool) → (Sym → Bool) → Bool
apart f g = holds_in every (λ k. if f k then not (g k) else true)

then_true : (b c : Bool) → (if b then c else true) ≡ true → b ≡ true → c ≡ true
then_true true c e h = e
then_true false c e h = absurd cc

not_is : (b : Bool) → not b ≡ true → b ≡ false
not_is true e = absurd cc
not_is false e = refl

pub below_at : (f g : Sym → Bool) → below f g ≡ true → (k : Sym) → f k ≡ true → g k ≡ true
below_at f g e k h = then_true (f k) (g k) (holds (λ j. if f j then g j else true) e k) h

pub apart_at : (f g : Sym → Bool) → apart f g ≡ true → (k : Sym) → f k ≡ true → g k ≡ false
apart_at f g e k h = not_is (g k) (then_true (f k) (not (g k)) (holds (λ j. if f j then not (g j) else true) e k) h)

holds_of : (h : Sym → Bool) → ((k : Sym) → h k ≡ true) → (ks : List Sym) → holds_in ks h ≡ true
holds_of h each [] = refl
holds_of h each (k ∷ ks) = ap (λ (b : Bool). if b then holds_in ks h else false) (each k) ∙ holds_of h each ks

pub below_of : (f g : Sym → Bool) → ((k : Sym) → f k ≡ true → g k ≡ true) → below f g ≡ true
below_of f g each = holds_of (λ k. if f k then g k else true) (λ k. at (f k) (g k) (each k)) every
  where
    at : (b c : Bool) → (b ≡ true → c ≡ true) → (if b then c else true) ≡ true
    at true c h = h refl
    at false c h = refl

pub below_self : (f : Sym → Bool) → below f f ≡ true
below_self f = below_of f f (λ k h. h)

pub below_any : (f : Sym → Bool) → below f (λ k. true) ≡ true
below_any f = below_of f (λ k. true) (λ k h. refl)

pub below_both : (f g h : Sym → Bool) → below f h ≡ true → below g h ≡ true → below (λ k. f k || g k) h ≡ true
below_both f g h i j = below_of (λ k. f k || g k) h (λ k e. at (f k) (g k) (h k) e (below_at f h i k) (below_at g h j k))
  where
    at : (b c d : Bool) → (b || c) ≡ true → (b ≡ true → d ≡ true) → (c ≡ true → d ≡ true) → d ≡ true
    at true c d e u v = u refl
    at false c d e u v = v e
