-- The reader of expressions fits their grammar, rule by rule.
use Rattle.std.proofs.Common.{inl, inr, ℕ, zero, suc, ◌≤◌, arith, Bool, true, false, nat_lt, List, [], map, refl, sym}
use Rattle.std.proofs.lemmas.List.{append-nil}
use Rattle.std.specs.Char.{to_ascii_lowercase}
use Rattle.pgql_ast.specs.declared.expr.Expr.{Expr}
use Rattle.pgql_ast.specs.declared.expr.Op.{Op}
use Rattle.pgql_ast.specs.declared.expr.Node.TheVariants as n
use Rattle.pgql_grammar.specs.declared.piece.Piece.{Piece}
use Rattle.pgql_grammar.specs.declared.piece.Level.{Level}
use Rattle.pgql_grammar.specs.declared.piece.Level.TheVariants.{Whole, Negation, Minus}
use Rattle.pgql_grammar.specs.declared.piece.Sym.{Sym}
use Rattle.pgql_grammar.specs.declared.piece.Sym.TheVariants as s
use Rattle.pgql_grammar.specs.Sorts.{is, is_comparison, is_addition, is_multiplication, is_text, is_truth, is_aggregate, is_label, op_of, aggregate_of}
use Rattle.pgql_grammar.specs.Language as lang
use Rattle.pgql_grammar.specs.Language.{Lang, one, pure, ◌>>=◌, ◌>>◌, ◌or◌, many, maybe, pick}
use Rattle.pgql_grammar.specs.Reading.{Parser}
use Rattle.pgql_grammar.specs.Expression as g
use Rattle.pgql_grammar.specs.Expression.{at, place_of, chain, row}
use Rattle.pgql_grammar.specs.ExpressionReader as r
use Rattle.pgql_grammar.specs.ExpressionReader.{is_literal, is_member}
use Rattle.pgql_grammar.proofs.Fitting.{Fits, In, Equal, any, both, done, next, fits-less, fits-as, fits-equal, fits-bind, fits-after, fits-choose, fits-if, fits-all}
use Rattle.pgql_grammar.proofs.Forms.{fits-maybe, fits-separated}
use Rattle.pgql_grammar.proofs.LanguageLaws.{equal, flip, ◌so◌, eq-bind, eq-or, or_then, some_of}

-- ---- which pieces end an expression, and which begin one

-- how tightly a sign binds that goes on with an expression, and 0 for the others
abbrev pub binds : Sym → ℕ
binds s.Dot = 6
binds s.Open = 6
binds s.Star = 5
binds s.Slash = 5
binds s.Percent = 5
binds s.Plus = 4
binds s.Minus = 4
binds s.Equal = 3
binds s.Unequal = 3
binds s.Less = 3
binds s.AtMost = 3
binds s.Greater = 3
binds s.AtLeast = 3
binds s.Is = 3
binds s.Not = 3
binds s.In = 3
binds s.And = 2
binds s.Or = 1
binds _ = 0

abbrev pub loose : ℕ → Sym → Bool
loose level k = nat_lt (binds k) level

abbrev pub starts_prim : Sym → Bool
starts_prim s.Name = true
starts_prim s.Open = true
starts_prim k = both is_literal is_aggregate k

abbrev pub starts_minus : Sym → Bool
starts_minus = both (is s.Minus) starts_prim

abbrev pub starts_not : Sym → Bool
starts_not = both (is s.Not) starts_minus

abbrev pub first_of : Level → Sym → Bool
first_of Whole = starts_not
first_of Negation = starts_not
first_of Minus = starts_minus

abbrev pub stop_of : Level → Sym → Bool
stop_of Whole = loose 1
stop_of Negation = loose 3
stop_of Minus = loose 6

-- ---- what stands behind a name or an aggregate

abbrev dotted : Piece → Lang Expr
dotted x = do
  one (is s.Dot)
  label ← one is_label
  pure (at x.place (n.Prop x.text label.text))

abbrev starred : Piece → Lang Expr
starred x = do
  one (is s.Star)
  one (is s.Close)
  pure (at x.place n.CountAll)

-- ---- rules with no expression inside

module _ (k : ℕ) where
  abbrev F : {A : Type 0} → Parser A → Lang A → (Sym → Bool) → (Sym → Bool) → Type 0
  F p L first stop = Fits k p p L L first stop

  fits-number : F r.number g.number (is s.Number) any
  unfolding r.number g.number is
  fits-number = fits-bind (next (is s.Number) s.Number refl refl) (λ x. done any _) refl

  fits-text : F r.text g.text is_text any
  unfolding r.text g.text is
  fits-text = fits-bind (next is_text s.Chars refl refl) (λ x. done any _) refl

  fits-truth : F r.truth g.truth is_truth any
  unfolding r.truth g.truth is
  fits-truth = fits-bind (next is_truth s.True refl refl) (λ x. done any _) refl

  fits-null : F r.null g.null (is s.Null) any
  unfolding r.null g.null is
  fits-null = fits-bind (next (is s.Null) s.Null refl refl) (λ x. done any _) refl

  fits-date : F r.date g.date (is s.Date) any
  unfolding r.date g.date is
  fits-date = fits-bind (next (is s.Date) s.Date refl refl) (λ x. fits-bind (next (is s.Day) s.Day refl refl) (λ day. done any _) refl) refl

  fits-literal : F r.literal g.literal is_literal any
  unfolding r.literal g.literal is
  fits-literal = fits-as is_literal any (fits-choose (is s.Number) any fits-number (fits-choose is_text any fits-text (fits-choose is_truth any fits-truth
      (fits-choose (is s.Null) any fits-null fits-date refl refl refl refl) refl refl refl refl) refl refl refl refl) refl refl refl refl) refl refl

  fits-property : (x : Piece) → F (r.property x) (dotted x) (is s.Dot) any
  unfolding r.property is is_label
  fits-property x = fits-bind (next (is s.Dot) s.Dot refl refl) (λ _. fits-bind (next is_label s.Name refl refl) (λ label. done any _) refl) refl

  fits-count_all : (x : Piece) → F (r.count_all x) (starred x) (is s.Star) any
  unfolding r.count_all is
  fits-count_all x = fits-bind (next (is s.Star) s.Star refl refl) (λ _. fits-bind (next (is s.Close) s.Close refl refl) (λ _. done any _) refl) refl

  fits-null_test : (left : Expr) → F (r.null_test left) (g.null_test left) (is s.Is) any
  unfolding r.null_test g.null_test is
  fits-null_test left = fits-bind (next (is s.Is) s.Is refl refl) (λ _. fits-bind (fits-maybe s.Not (is s.Null) refl refl refl)
      (λ negative. fits-bind (next (is s.Null) s.Null refl refl) (λ _. done any _) refl) refl) refl

-- ---- rules over the expressions inside: up to k pieces in for those, and up to one more for these

module _ (k : ℕ) (P Q : Level → Parser Expr) (L M : Level → Lang Expr) (inner : (l : Level) → Fits k (P l) (Q l) (L l) (M l) (first_of l) (stop_of l)) where
  abbrev FK : {A : Type 0} → Parser A → Parser A → Lang A → Lang A → (Sym → Bool) → (Sym → Bool) → Type 0
  FK p q N O first stop = Fits k p q N O first stop

  abbrev FS : {A : Type 0} → Parser A → Parser A → Lang A → Lang A → (Sym → Bool) → (Sym → Bool) → Type 0
  FS p q N O first stop = Fits (suc k) p q N O first stop

  fits-comma_list : FK (r.comma_list P) (r.comma_list Q) (g.comma_list L) (g.comma_list M) starts_not (is s.Close)
  unfolding r.comma_list g.comma_list is
  fits-comma_list = fits-separated s.Comma (is s.Close) refl refl (inner Whole) refl refl refl

  fits-arguments : FK (r.arguments P) (r.arguments Q) (g.arguments L) (g.arguments M) (both (is s.Close) starts_not) (is s.Close)
  unfolding r.arguments g.arguments is
  fits-arguments = fits-choose (is s.Close) (is s.Close) (done (is s.Close) []) fits-comma_list refl refl refl refl

  abbrev called : (Level → Lang Expr) → Piece → Lang Expr
  called N x = do
    one (is s.Open)
    found ← g.arguments N
    one (is s.Close)
    pure (at x.place (n.Function (map to_ascii_lowercase x.text) found))

  fits-call : (x : Piece) → FS (r.call P x) (r.call Q x) (called L x) (called M x) (is s.Open) any
  unfolding r.call is
  fits-call x = fits-after (next (is s.Open) s.Open refl refl) (λ _. fits-bind fits-arguments (λ found. fits-bind (next (is s.Close) s.Close refl refl) (λ _. done any _) refl) refl)

  abbrev alone : Piece → Lang Expr
  alone x = pure (at x.place (n.Name x.text))

  abbrev behind_name : (Level → Lang Expr) → Piece → Lang Expr
  behind_name N x = dotted x or called N x or alone x

  fits-after_name : (x : Piece) → FS (r.after_name P x) (r.after_name Q x) (behind_name L x) (behind_name M x) (both (is s.Dot) (both (is s.Open) (loose 6))) (loose 6)
  unfolding r.after_name is
  fits-after_name x = fits-choose (is s.Dot) (loose 6) (fits-property (suc k) x)
      (fits-choose (is s.Open) (loose 6) (fits-call x) (done (loose 6) _) refl refl refl refl) refl refl refl refl

  abbrev named : (Level → Lang Expr) → Lang Expr
  named N = one (is s.Name) >>= behind_name N

  abbrev three : (Level → Lang Expr) → Lang Expr
  three N = g.name or g.property or g.function N

  rotate : {A : Type 0} (a b c : Lang A) → Equal (a or b or c) (c or a or b)
  rotate a b c = record {
    to = record { at = λ ts x h. elim h [ inl w ↦ inr (inl w) | inr i ↦ (elim i [ inl w ↦ inr (inr w) | inr w ↦ inl w ]) ] };
    back = record { at = λ ts x h. elim h [ inl w ↦ inr (inr w) | inr i ↦ (elim i [ inl w ↦ inl w | inr w ↦ inr (inl w) ]) ] };
  }

  named_forms : (N : Level → Lang Expr) → Equal (named N) (three N)
  unfolding g.name g.property g.function
  named_forms N = or_then (one (is s.Name)) dotted (λ x. called N x or alone x)
      so eq-or (equal _) (or_then (one (is s.Name)) (called N) alone)
      so rotate (one (is s.Name) >>= dotted) (one (is s.Name) >>= called N) (one (is s.Name) >>= alone)

  fits-named : FS (r.named P) (r.named Q) (three L) (three M) (is s.Name) (loose 6)
  unfolding r.named is
  fits-named = fits-equal (named_forms L) (named_forms M) (fits-bind (next (is s.Name) s.Name refl refl) fits-after_name refl)

  abbrev valued : (Level → Lang Expr) → Piece → Lang Expr
  valued N x = do
    distinct ← maybe s.Distinct
    e ← N Whole
    one (is s.Close)
    pure (at x.place (n.Aggregate (aggregate_of x.sym) distinct e))

  fits-values_of : (x : Piece) → FK (r.values_of P x) (r.values_of Q x) (valued L x) (valued M x) (both (is s.Distinct) starts_not) any
  unfolding r.values_of is
  fits-values_of x = fits-bind (fits-maybe s.Distinct starts_not refl refl refl) (λ d. fits-bind (inner Whole)
      (λ e. fits-bind (next (is s.Close) s.Close refl refl) (λ _. done any _) refl) refl) refl

  abbrev behind_aggregate : (Level → Lang Expr) → Piece → Lang Expr
  behind_aggregate N x = pick (is s.Count x.sym) (starred x or valued N x) (valued N x)

  abbrev starts_argument : Sym → Bool
  starts_argument = both (is s.Star) (both (is s.Distinct) starts_not)

  fits-after_aggregate : (x : Piece) → FK (r.after_aggregate P x) (r.after_aggregate Q x) (behind_aggregate L x) (behind_aggregate M x) starts_argument any
  unfolding r.after_aggregate is
  fits-after_aggregate x = fits-if (is s.Count x.sym) (fits-choose (is s.Star) any (fits-count_all k x) (fits-values_of x) refl refl refl refl)
      (fits-as starts_argument any (fits-values_of x) refl refl)

  abbrev two : (Level → Lang Expr) → Lang Expr
  two N = g.count_all or g.aggregate_of_values N

  abbrev aggregated : (Level → Lang Expr) → Lang Expr
  aggregated N = one is_aggregate >>= (λ x. one (is s.Open) >>= (λ _. behind_aggregate N x))

  pick_after : {A : Type 0} (b : Bool) (test : Sym → Bool) (G H : Lang A) → Equal (pick b ((one test >> G) or (one test >> H)) (one test >> H)) (one test >> pick b (G or H) H)
  pick_after true test G H = flip (or_then (one test) (λ _. G) (λ _. H))
  pick_after false test G H = equal _

  aggregate_forms : (N : Level → Lang Expr) → Equal (aggregated N) (two N)
  unfolding g.count_all g.aggregate_of_values is
  aggregate_forms N = flip (some_of (is s.Count) is_aggregate (λ x. one (is s.Open) >> starred x) (λ x. one (is s.Open) >> valued N x) refl
      so eq-bind (λ x. pick_after (is s.Count x.sym) (is s.Open) (starred x) (valued N x)))

  fits-aggregate : FS (r.aggregate P) (r.aggregate Q) (two L) (two M) is_aggregate any
  unfolding r.aggregate is
  fits-aggregate = fits-equal (aggregate_forms L) (aggregate_forms M) (fits-after (next is_aggregate s.Count refl refl)
      (λ x. fits-bind (next (is s.Open) s.Open refl refl) (λ _. fits-after_aggregate x) refl))

  fits-bracketed : FS (r.bracketed P) (r.bracketed Q) (g.bracketed L) (g.bracketed M) (is s.Open) any
  unfolding r.bracketed g.bracketed is
  fits-bracketed = fits-after (next (is s.Open) s.Open refl refl) (λ _. fits-bind (inner Whole) (λ e. fits-bind (next (is s.Close) s.Close refl refl) (λ _. done any e) refl) refl)

  fits-prim : FS (r.prim P) (r.prim Q) (g.prim L) (g.prim M) starts_prim (loose 6)
  unfolding r.prim g.prim is
  fits-prim = fits-as starts_prim (loose 6) (fits-choose is_literal (loose 6) (fits-literal (suc k)) (fits-choose (is s.Name) (loose 6) fits-named
      (fits-choose is_aggregate (loose 6) fits-aggregate fits-bracketed refl refl refl refl) refl refl refl refl) refl refl refl refl) refl refl

  -- ---- operators

  abbrev negated : (Level → Lang Expr) → Lang Expr
  negated N = do
    x ← one (is s.Minus)
    e ← N Minus
    pure (at x.place (n.Negate e))

  fits-negated : FS (r.negated P) (r.negated Q) (negated L) (negated M) (is s.Minus) (loose 6)
  unfolding r.negated is
  fits-negated = fits-after (next (is s.Minus) s.Minus refl refl) (λ x. fits-bind (inner Minus) (λ e. done (loose 6) _) refl)

  fits-minus : FS (r.minus P) (r.minus Q) (g.minus L) (g.minus M) starts_minus (loose 6)
  unfolding r.minus g.minus is
  fits-minus = fits-choose (is s.Minus) (loose 6) fits-negated fits-prim refl refl refl refl

  abbrev with_op : {A : Type 0} → Lang A → Piece → Lang (Op × A)
  with_op N x = N >>= (λ e. pure (op_of x.sym, e))

  fits-factor : (x : Piece) → FS (r.factor P x) (r.factor Q x) (with_op (g.minus L) x) (with_op (g.minus M) x) starts_minus (loose 6)
  unfolding r.factor is
  fits-factor x = fits-bind fits-minus (λ e. done (loose 6) _) refl

  fits-product : FS (r.product P) (r.product Q) (g.product L) (g.product M) starts_minus (loose 5)
  unfolding r.product g.product is
  fits-product = fits-bind fits-minus (λ first. fits-bind (fits-all is_multiplication (loose 5) s.Star refl refl fits-factor refl refl refl) (λ more. done (loose 5) _) refl) refl

  fits-term : (x : Piece) → FS (r.term P x) (r.term Q x) (with_op (g.product L) x) (with_op (g.product M) x) starts_minus (loose 5)
  unfolding r.term is
  fits-term x = fits-bind fits-product (λ e. done (loose 5) _) refl

  fits-sum : FS (r.sum P) (r.sum Q) (g.sum L) (g.sum M) starts_minus (loose 4)
  unfolding r.sum g.sum is
  fits-sum = fits-bind fits-product (λ first. fits-bind (fits-all is_addition (loose 4) s.Plus refl refl fits-term refl refl refl) (λ more. done (loose 4) _) refl) refl

  fits-comparison : (left : Expr) → FS (r.comparison P left) (r.comparison Q left) (g.comparison L left) (g.comparison M left) is_comparison (loose 4)
  unfolding r.comparison g.comparison is
  fits-comparison left = fits-bind (next is_comparison s.Equal refl refl) (λ x. fits-bind fits-sum (λ right. done (loose 4) _) refl) refl

  -- NOT may be missing, so one fewer is asked for behind IN
  fits-member : (left : Expr) → FS (r.member P left) (r.member Q left) (g.member L left) (g.member M left) is_member any
  unfolding r.member g.member is
  fits-member left = fits-as is_member any (fits-bind (fits-maybe s.Not (is s.In) refl refl refl) (λ negative. fits-after (next (is s.In) s.In refl refl)
      (λ _. fits-bind (next (is s.Open) s.Open refl refl) (λ _. fits-bind fits-comma_list (λ found. fits-bind (next (is s.Close) s.Close refl refl) (λ _. done any _) refl) refl) refl)) refl) refl refl

  abbrev compared : (Level → Lang Expr) → Expr → Lang Expr
  compared N left = g.comparison N left or g.null_test left or g.member N left or pure left

  abbrev testing : (Level → Lang Expr) → Expr → Lang Expr
  testing N left = pure left or g.comparison N left or g.null_test left or g.member N left

  last_first : {A : Type 0} (a b c d : Lang A) → Equal (b or c or d or a) (a or b or c or d)
  last_first a b c d = record {
    to = record { at = λ ts x h. elim h [ inl w ↦ inr (inl w) | inr i ↦ (elim i [ inl w ↦ inr (inr (inl w)) | inr j ↦ (elim j [ inl w ↦ inr (inr (inr w)) | inr w ↦ inl w ]) ]) ] };
    back = record { at = λ ts x h. elim h [ inl w ↦ inr (inr (inr w)) | inr i ↦ (elim i [ inl w ↦ inl w | inr j ↦ (elim j [ inl w ↦ inr (inl w) | inr w ↦ inr (inr (inl w)) ]) ]) ] };
  }

  abbrev starts_tested : Sym → Bool
  starts_tested = both is_comparison (both (is s.Is) (both is_member (loose 3)))

  fits-tested : (left : Expr) → FS (r.tested P left) (r.tested Q left) (testing L left) (testing M left) starts_tested (loose 3)
  unfolding r.tested is
  fits-tested left = fits-equal (last_first _ _ _ _) (last_first _ _ _ _) (fits-choose is_comparison (loose 3) (fits-comparison left)
      (fits-choose (is s.Is) (loose 3) (fits-null_test (suc k) left) (fits-choose is_member (loose 3) (fits-member left) (done (loose 3) left) refl refl refl refl) refl refl refl refl) refl refl refl refl)

  fits-test : FS (r.sum_test P) (r.sum_test Q) (g.test L) (g.test M) starts_minus (loose 3)
  unfolding r.sum_test g.test is
  fits-test = fits-bind fits-sum fits-tested refl

  abbrev refused : (Level → Lang Expr) → Lang Expr
  refused N = do
    x ← one (is s.Not)
    e ← N Negation
    pure (at x.place (n.Not e))

  fits-refused : FS (r.refused P) (r.refused Q) (refused L) (refused M) (is s.Not) (loose 3)
  unfolding r.refused is
  fits-refused = fits-after (next (is s.Not) s.Not refl refl) (λ x. fits-bind (inner Negation) (λ e. done (loose 3) _) refl)

  fits-negation : FS (r.negation P) (r.negation Q) (g.negation L) (g.negation M) starts_not (loose 3)
  unfolding r.negation g.negation is
  fits-negation = fits-choose (is s.Not) (loose 3) fits-refused fits-test refl refl refl refl

  fits-conjunction : FS (r.conjunction P) (r.conjunction Q) (g.conjunction L) (g.conjunction M) starts_not (loose 2)
  unfolding r.conjunction g.conjunction is
  fits-conjunction = fits-bind fits-negation (λ first. fits-bind (fits-all (is s.And) (loose 2) s.And refl refl (λ _. fits-negation) refl refl refl) (λ more. done (loose 2) _) refl) refl

  fits-whole : FS (r.whole P) (r.whole Q) (g.whole L) (g.whole M) starts_not (loose 1)
  unfolding r.whole g.whole is
  fits-whole = fits-bind fits-conjunction (λ first. fits-bind (fits-all (is s.Or) (loose 1) s.Or refl refl (λ _. fits-conjunction) refl refl refl) (λ more. done (loose 1) _) refl) refl

  pub fits-at_level : (l : Level) → FS (r.at_level P l) (r.at_level Q l) (g.at_level L l) (g.at_level M l) (first_of l) (stop_of l)
  fits-at_level Whole = fits-whole
  fits-at_level Negation = fits-negation
  fits-at_level Minus = fits-minus

-- ---- a number alone is an expression of each level

chain_alone : {A B C : Type 0} (L : Lang A) (K : Lang B) (make : A → List B → C) (ts : List Piece) (a : A) → L ts a → lang.◌>>=◌ L (λ first. lang.◌>>=◌ (many K) (λ more. lang.pure (make first more))) ts (make a [])
chain_alone L K make ts a h = (ts, [], a, sym (append-nil ts), h, ([], [], [], refl, refl, (refl, refl)))

module _ (M : Level → Lang Expr) (ts : List Piece) (a : Expr) (h : g.number ts a) where
  minus_alone : g.minus M ts a
  unfolding g.minus g.prim g.literal
  minus_alone = inr (inl (inl h))

  sum_alone : g.sum M ts a
  unfolding g.sum g.product
  sum_alone = chain_alone _ _ _ ts a (chain_alone _ _ _ ts a minus_alone)

  negation_alone : g.negation M ts a
  unfolding g.negation g.test
  negation_alone = inr (ts, [], a, sym (append-nil ts), sum_alone, inl (refl, refl))

  whole_alone : g.whole M ts a
  unfolding g.whole g.conjunction
  whole_alone = chain_alone _ _ _ ts a (chain_alone _ _ _ ts a negation_alone)

number_in : (M : Level → Lang Expr) (l : Level) → In g.number (g.at_level M l)
number_in M Whole = record { at = λ ts a h. whole_alone M ts a h }
number_in M Negation = record { at = λ ts a h. negation_alone M ts a h }
number_in M Minus = record { at = λ ts a h. minus_alone M ts a h }

-- ---- every depth

number_at : (k : ℕ) (l : Level) → Fits k r.number r.number g.number g.number (first_of l) (stop_of l)
unfolding is
number_at k Whole = fits-as _ _ (fits-number k) refl refl
number_at k Negation = fits-as _ _ (fits-number k) refl refl
number_at k Minus = fits-as _ _ (fits-number k) refl refl

-- up to k pieces in, any nesting from k on reads the same
pub fits-nested : (k n m : ℕ) → k ≤ n → n ≤ m → (l : Level) → Fits k (r.nested n l) (r.nested m l) (g.nested n l) (g.nested m l) (first_of l) (stop_of l)
unfolding r.nested g.nested
fits-nested zero zero zero h i l = number_at 0 l
fits-nested zero zero (suc m) h i l = let f = number_at 0 l in record {
  good = f.good;
  same = record { ok = λ pre x y z a few e. absurd (omega arith); err = λ pre x y z few e. absurd (omega arith) };
  takes = f.takes;
  shows = f.shows;
  wide = number_in (g.nested m) l;
}
fits-nested (suc k) zero m h i l = absurd (omega arith)
fits-nested k (suc n) zero h i l = absurd (omega arith)
fits-nested zero (suc n) (suc m) h i l = fits-less 0 (omega arith) (fits-at_level 0 (r.nested n) (r.nested m) (g.nested n) (g.nested m) (fits-nested 0 n m (omega arith) (omega arith)) l)
fits-nested (suc k) (suc n) (suc m) h i l = fits-at_level k (r.nested n) (r.nested m) (g.nested n) (g.nested m) (fits-nested k n m (omega arith) (omega arith)) l
