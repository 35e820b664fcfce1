-- What a parser does up to a piece doesn't depend on the pieces behind that one.
use Rattle.std.proofs.Common.{◌≡◌, ℕ, zero, suc, ◌<◌, ◌≤◌, Bool, true, false, if◌then◌else◌, List, [], ◌∷◌, ◌++◌, length, Ok, Err, refl, sym, ap, subst, ◌∙◌, append_assoc, length-append, arith}
use Rattle.std.proofs.lemmas.List.{append_cancel_right}
use Rattle.pgql_grammar.specs.declared.piece.Piece.{Piece}
use Rattle.pgql_grammar.specs.declared.piece.Sym.{Sym}
use Rattle.pgql_grammar.specs.declared.piece.Sym.TheVariants.{End}
use Rattle.pgql_grammar.specs.Sorts.{is}
use Rattle.pgql_grammar.specs.Language as lang
use Rattle.pgql_grammar.specs.Language.{Lang, one, many}
use Rattle.pgql_grammar.specs.Reading as read
use Rattle.pgql_grammar.specs.Reading.{Parser, Outcome, and_then, head, by_next, expect, turns, all}
use Rattle.pgql_grammar.proofs.Good.{Good, Took, Begun, ok_pair, good-turns, good-bind, good-pure, good-expect}

-- up to k pieces in, the second does what the first does
pub record Agrees {A : Type 0} (k : ℕ) (p q : Parser A) : Type 0 where
  pub ok : (pre r s : List Piece) (x : Piece) (a : A) → length pre < k → p (pre ++ x ∷ r) ≡ Ok (a, x ∷ r) → q (pre ++ x ∷ s) ≡ Ok (a, x ∷ s)
  pub err : (pre r s : List Piece) (x : Piece) → length pre < k → p (pre ++ x ∷ r) ≡ Err (x ∷ r) → q (pre ++ x ∷ s) ≡ Err (x ∷ s)

nothing_before : (pre s : List Piece) → pre ++ s ≡ s → pre ≡ []
nothing_before pre s e = append_cancel_right pre [] s e

pub agree-less : {A : Type 0} (j k : ℕ) (p q : Parser A) → j ≤ k → Agrees k p q → Agrees j p q
agree-less j k p q h g = record {
  ok = λ pre r s x a few e. g.ok pre r s x a (omega arith) e;
  err = λ pre r s x few e. g.err pre r s x (omega arith) e;
}

pub agree-pure : {A : Type 0} (k : ℕ) (a : A) → Agrees k (read.pure a) (read.pure a)
agree-pure {A} k a = record {
  ok = λ pre r s x b few e.
      let same = ok_pair a b (pre ++ x ∷ r) (x ∷ r) _ refl e in
      let none : pre ≡ [] = nothing_before pre (x ∷ r) same.1 in
      let value : a ≡ b = same.0 in
      ap (λ (l : List Piece). read.pure a (l ++ x ∷ s)) none ∙ ap (λ (c : A). read.pure c (x ∷ s)) value;
  err = λ pre r s x few e. absurd cc;
}

module _ (test : Sym → Bool) where
  abbrev picked : Bool → Piece → List Piece → Outcome Piece
  picked v y r = if v then Ok (y, r) else Err (y ∷ r)

  longer : (x : Piece) (r : List Piece) → r ≡ x ∷ r → ⊥
  longer x r e = let one : x ∷ [] ≡ [] = nothing_before (x ∷ []) r (sym e) in cc

  picked_ok : (v : Bool) (y x : Piece) (pre r s : List Piece) (a : Piece) → picked v y (pre ++ x ∷ r) ≡ Ok (a, x ∷ r) → picked v y (pre ++ x ∷ s) ≡ Ok (a, x ∷ s)
  picked_ok true y x pre r s a e =
      let same = ok_pair y a (pre ++ x ∷ r) (x ∷ r) _ refl e in
      let none : pre ≡ [] = nothing_before pre (x ∷ r) same.1 in
      ap (λ (l : List Piece). picked true y (l ++ x ∷ s)) none ∙ ap (λ c. picked true c (x ∷ s)) same.0
  picked_ok false y x pre r s a e = absurd cc

  expect_ok : (pre r s : List Piece) (x : Piece) (a : Piece) → expect test (pre ++ x ∷ r) ≡ Ok (a, x ∷ r) → expect test (pre ++ x ∷ s) ≡ Ok (a, x ∷ s)
  expect_ok [] r s x a e = absurd (first (test x.sym) e)
    where
      first : (v : Bool) → picked v x r ≡ Ok (a, x ∷ r) → ⊥
      first true h = longer x r (ok_pair x a r (x ∷ r) _ refl h).1
      first false h = cc
  expect_ok (y ∷ pre) r s x a e = picked_ok (test y.sym) y x pre r s a e

  expect_err : (pre r s : List Piece) (x : Piece) → expect test (pre ++ x ∷ r) ≡ Err (x ∷ r) → expect test (pre ++ x ∷ s) ≡ Err (x ∷ s)
  expect_err [] r s x e = first (test x.sym) e
    where
      first : (v : Bool) → picked v x r ≡ Err (x ∷ r) → picked v x s ≡ Err (x ∷ s)
      first true h = absurd cc
      first false h = refl
  expect_err (y ∷ pre) r s x e = absurd (first (test y.sym) e)
    where
      first : (v : Bool) → picked v y (pre ++ x ∷ r) ≡ Err (x ∷ r) → ⊥
      first true h = cc
      first false h =
          let same : (y ∷ pre) ++ x ∷ r ≡ x ∷ r = cc in
          let none : y ∷ pre ≡ [] = nothing_before (y ∷ pre) (x ∷ r) same in
          cc

  pub agree-expect : (k : ℕ) → Agrees k (expect test) (expect test)
  agree-expect k = record {
    ok = λ pre r s x a few e. expect_ok pre r s x a e;
    err = λ pre r s x few e. expect_err pre r s x e;
  }

-- The second part starts at u, if the first took u; so it is asked for fewer pieces where the first always takes one.
module _ {A B : Type 0} (k j : ℕ) (p q : Parser A) (L : Lang A) (f g : A → Parser B) (M : A → Lang B)
    (fall : (u v : List Piece) (a : A) → L u a → length (u ++ v) < k → length v < j)
    (goodp : Good p L) (goodf : (a : A) → Good (f a) (M a))
    (same_p : Agrees k p q) (same_f : (a : A) → Agrees j (f a) (g a)) where
  split_ok : (u v r s : List Piece) (x : Piece) (a : A) → length (u ++ v) < k → p (u ++ (v ++ x ∷ r)) ≡ Ok (a, v ++ x ∷ r) → q (u ++ (v ++ x ∷ s)) ≡ Ok (a, v ++ x ∷ s)
  split_ok u [] r s x a few e = same_p.ok u r s x a (omega (arith, length-append u [])) e
  split_ok u (y ∷ v) r s x a few e = same_p.ok u (v ++ x ∷ r) (v ++ x ∷ s) y a (omega (arith, length-append u (y ∷ v))) e

  -- the first part read on the other pieces
  first_at : (pre u v r s mid : List Piece) (x : Piece) (a : A) → length pre < k → pre ≡ u ++ v → mid ≡ v ++ x ∷ r → p (pre ++ x ∷ r) ≡ Ok (a, mid)
      → q (pre ++ x ∷ s) ≡ Ok (a, v ++ x ∷ s)
  first_at pre u v r s mid x a few at_pre at_mid e =
      let regroup : (t : List Piece) → pre ++ x ∷ t ≡ u ++ (v ++ x ∷ t) = λ t. ap (λ l. l ++ x ∷ t) at_pre ∙ append_assoc u v (x ∷ t) in
      let from : p (u ++ (v ++ x ∷ r)) ≡ Ok (a, v ++ x ∷ r) = ap p (sym (regroup r)) ∙ e ∙ ap (λ (m : List Piece). read.pure a m) at_mid in
      ap q (regroup s) ∙ split_ok u v r s x a (subst (λ l. length l < k) at_pre few) from

  bind_ok : (pre r s : List Piece) (x : Piece) (b : B) (o : Outcome A) → length pre < k → p (pre ++ x ∷ r) ≡ o → and_then o f ≡ Ok (b, x ∷ r)
      → and_then (q (pre ++ x ∷ s)) g ≡ Ok (b, x ∷ s)
  bind_ok pre r s x b (Ok w) few e h =
      let t : Took L (pre ++ x ∷ r) w.0 w.1 = goodp.sound _ w.1 w.0 e in
      let m : Took (M w.0) w.1 b (x ∷ r) = (goodf w.0).sound w.1 (x ∷ r) b h in
      let at_pre : pre ≡ t.0 ++ m.0 = append_cancel_right pre (t.0 ++ m.0) (x ∷ r) (t.1 ∙ ap (λ l. t.0 ++ l) m.1 ∙ sym (append_assoc t.0 m.0 (x ∷ r))) in
      let goes_on : f w.0 (m.0 ++ x ∷ r) ≡ Ok (b, x ∷ r) = ap (f w.0) (sym m.1) ∙ h in
      let fewer : length m.0 < j = fall t.0 m.0 w.0 t.2 (subst (λ l. length l < k) at_pre few) in
      ap (λ o. and_then o g) (first_at pre t.0 m.0 r s w.1 x w.0 few at_pre m.1 e) ∙ (same_f w.0).ok m.0 r s x b fewer goes_on
  bind_ok pre r s x b (Err w) few e h = absurd cc

  bind_err : (pre r s : List Piece) (x : Piece) (o : Outcome A) → length pre < k → p (pre ++ x ∷ r) ≡ o → and_then o f ≡ Err (x ∷ r)
      → and_then (q (pre ++ x ∷ s)) g ≡ Err (x ∷ s)
  bind_err pre r s x (Ok w) few e h =
      let t : Took L (pre ++ x ∷ r) w.0 w.1 = goodp.sound _ w.1 w.0 e in
      let m : Begun (M w.0) w.1 (x ∷ r) = (goodf w.0).begun w.1 (x ∷ r) h in
      let at_pre : pre ≡ t.0 ++ m.0 = append_cancel_right pre (t.0 ++ m.0) (x ∷ r) (t.1 ∙ ap (λ l. t.0 ++ l) m.3 ∙ sym (append_assoc t.0 m.0 (x ∷ r))) in
      let goes_on : f w.0 (m.0 ++ x ∷ r) ≡ Err (x ∷ r) = ap (f w.0) (sym m.3) ∙ h in
      let fewer : length m.0 < j = fall t.0 m.0 w.0 t.2 (subst (λ l. length l < k) at_pre few) in
      ap (λ o. and_then o g) (first_at pre t.0 m.0 r s w.1 x w.0 few at_pre m.3 e) ∙ (same_f w.0).err m.0 r s x fewer goes_on
  bind_err pre r s x (Err w) few e h =
      let same : p (pre ++ x ∷ r) ≡ Err (x ∷ r) = cc in
      ap (λ o. and_then o g) (same_p.err pre r s x few same)

  pub agree-falling : Agrees k (read.◌>>=◌ p f) (read.◌>>=◌ q g)
  agree-falling = record {
    ok = λ pre r s x b few e. bind_ok pre r s x b (p (pre ++ x ∷ r)) few refl e;
    err = λ pre r s x few e. bind_err pre r s x (p (pre ++ x ∷ r)) few refl e;
  }

pub agree-bind : {A B : Type 0} (k : ℕ) (p q : Parser A) (L : Lang A) (f g : A → Parser B) (M : A → Lang B) → Good p L → ((a : A) → Good (f a) (M a))
    → Agrees k p q → ((a : A) → Agrees k (f a) (g a)) → Agrees k (read.◌>>=◌ p f) (read.◌>>=◌ q g)
agree-bind k p q L f g M goodp goodf same_p same_f =
    agree-falling k k p q L f g M (λ u v a h few. omega (arith, length-append u v)) goodp goodf same_p same_f

-- after a piece, one fewer
pub agree-after : {B : Type 0} (k : ℕ) (test : Sym → Bool) (f g : Piece → Parser B) (M : Piece → Lang B) → Good (expect test) (one test) → ((a : Piece) → Good (f a) (M a))
    → ((a : Piece) → Agrees k (f a) (g a)) → Agrees (suc k) (read.◌>>=◌ (expect test) f) (read.◌>>=◌ (expect test) g)
agree-after k test f g M goodp goodf same_f =
    agree-falling (suc k) k (expect test) (expect test) (one test) f g M (λ u v a h few. omega (arith, length-append u v, ap length h.0)) goodp goodf (agree-expect test (suc k)) same_f

pub agree-next : {A : Type 0} (k : ℕ) (f g : Sym → Parser A) → ((s : Sym) → Agrees k (f s) (g s)) → Agrees k (by_next f) (by_next g)
agree-next {A} k f g same = record {
  ok = λ pre r s x a few e. next_ok pre r s x a few e;
  err = λ pre r s x few e. next_err pre r s x few e;
}
  where
    next_ok : (pre r s : List Piece) (x : Piece) (a : A) → length pre < k → by_next f (pre ++ x ∷ r) ≡ Ok (a, x ∷ r) → by_next g (pre ++ x ∷ s) ≡ Ok (a, x ∷ s)
    next_ok [] r s x a few e = (same x.sym).ok [] r s x a few e
    next_ok (y ∷ pre) r s x a few e = (same y.sym).ok (y ∷ pre) r s x a few e

    next_err : (pre r s : List Piece) (x : Piece) → length pre < k → by_next f (pre ++ x ∷ r) ≡ Err (x ∷ r) → by_next g (pre ++ x ∷ s) ≡ Err (x ∷ s)
    next_err [] r s x few e = (same x.sym).err [] r s x few e
    next_err (y ∷ pre) r s x few e = (same y.sym).err (y ∷ pre) r s x few e

pub agree-if : {A : Type 0} (k : ℕ) (b : Bool) (p q p2 q2 : Parser A) → Agrees k p p2 → Agrees k q q2 → Agrees k (if b then p else q) (if b then p2 else q2)
agree-if k true p q p2 q2 g h = g
agree-if k false p q p2 q2 g h = h

module _ {A : Type 0} (starts : Sym → Bool) (inside : (k : Sym) → starts k ≡ true → is End k ≡ false) (sign : Piece) (is_sign : starts sign.sym ≡ true) (item jtem : Piece → Parser A) (L : Piece → Lang A)
    (good : (x : Piece) → Good (item x) (L x)) where
  abbrev signed : Lang A
  signed = lang.◌>>=◌ (one starts) L

  pub agree-turns : (k n m : ℕ) → k ≤ n → k ≤ m → ((x : Piece) → Agrees k (item x) (jtem x)) → Agrees k (turns n starts item) (turns m starts jtem)
  unfolding turns
  agree-turns zero n m few less same = record {
    ok = λ pre r s x a h e. absurd (omega arith);
    err = λ pre r s x h e. absurd (omega arith);
  }
  agree-turns (suc k) zero m few less same = absurd (omega arith)
  agree-turns (suc k) (suc n) zero few less same = absurd (omega arith)
  agree-turns (suc k) (suc n) (suc m) few less same =
      agree-next (suc k) _ _ (λ s. agree-if (suc k) (starts s) _ _ _ _
      (agree-after k starts _ _ (λ x. lang.◌>>=◌ (L x) (λ a. lang.◌>>=◌ (many signed) (λ more. lang.pure (a ∷ more)))) (good-expect starts inside sign is_sign)
      (λ x. good-bind (item x) (L x) _ _ (good x) (λ a. rest_good a))
      (λ x. agree-bind k (item x) (jtem x) (L x) _ _ (λ a. lang.◌>>=◌ (many signed) (λ more. lang.pure (a ∷ more))) (good x) (λ a. rest_good a)
      (agree-less k (suc k) (item x) (jtem x) (omega arith) (same x))
      (λ a. agree-bind k (turns n starts item) (turns m starts jtem) (many signed) _ _ (λ more. lang.pure (a ∷ more)) (good-turns starts inside sign is_sign item L good n) (λ more. good-pure (a ∷ more))
      (agree-turns k n m (omega arith) (omega arith) (λ y. agree-less k (suc k) (item y) (jtem y) (omega arith) (same y)))
      (λ more. agree-pure k (a ∷ more)))))
      (agree-pure (suc k) []))
    where
      rest_good : (a : A) → Good (read.◌>>=◌ (turns n starts item) (λ more. read.pure (a ∷ more))) (lang.◌>>=◌ (many signed) (λ more. lang.pure (a ∷ more)))
      rest_good a = good-bind (turns n starts item) (many signed) _ _ (good-turns starts inside sign is_sign item L good n) (λ more. good-pure (a ∷ more))

  pub agree-all : (k : ℕ) → ((x : Piece) → Agrees k (item x) (jtem x)) → Agrees k (all starts item) (all starts jtem)
  unfolding all
  agree-all k same = record {
    ok = λ pre r s x a few e. (within pre r s x few).ok pre r s x a (omega arith) e;
    err = λ pre r s x few e. (within pre r s x few).err pre r s x (omega arith) e;
  }
    where
      within : (pre r s : List Piece) (x : Piece) → length pre < k → Agrees (suc (length pre)) (turns (length (pre ++ x ∷ r)) starts item) (turns (length (pre ++ x ∷ s)) starts jtem)
      within pre r s x few = agree-turns (suc (length pre)) (length (pre ++ x ∷ r)) (length (pre ++ x ∷ s))
          (omega (arith, length-append pre (x ∷ r))) (omega (arith, length-append pre (x ∷ s)))
          (λ y. agree-less (suc (length pre)) k (item y) (jtem y) (omega arith) (same y))
