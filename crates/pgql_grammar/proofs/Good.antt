-- A parser that reads a language from the left: what it reads is in the language, and what it read before a fault begins a word of it.
use Rattle.std.proofs.Common.{◌≡◌, ℕ, zero, suc, Bool, true, false, if◌then◌else◌, List, [], ◌∷◌, ◌++◌, length, Ok, Err, refl, sym, ap, subst, ◌∙◌, append_assoc}
use Rattle.std.proofs.lemmas.List.{append-nil}
use Rattle.pgql_grammar.specs.declared.piece.Piece.{Piece}
use Rattle.pgql_grammar.specs.declared.piece.Sym.{Sym}
use Rattle.pgql_grammar.specs.declared.piece.Sym.TheVariants.{End}
use Rattle.pgql_grammar.specs.Sorts.{is}
use Rattle.std.specs.List.{AllByRecursion}
use Rattle.pgql_grammar.specs.Language as lang
use Rattle.pgql_grammar.specs.Language.{Lang, one, many, AllOf}
use Rattle.pgql_grammar.specs.Reading as read
use Rattle.pgql_grammar.specs.Reading.{Parser, Outcome, and_then, head, by_next, expect, turns, all}

abbrev pub Word : {A : Type 0} → Lang A → Type 0
Word L = (w : List Piece) × (a : _) × L w a

-- no piece of these is the end
abbrev pub Plain : List Piece → Type 0
Plain ts = AllByRecursion (λ (x : Piece). is End x.sym ≡ false) ts

abbrev pub Took : {A : Type 0} → Lang A → List Piece → A → List Piece → Type 0
Took L ts a rest = (u : List Piece) × (ts ≡ u ++ rest) × L u a × Plain u

abbrev pub Begun : {A : Type 0} → Lang A → List Piece → List Piece → Type 0
Begun L ts rest = (u more : List Piece) × (a : _) × (ts ≡ u ++ rest) × L (u ++ more) a × Plain u

pub plain_append : (u v : List Piece) → Plain u → Plain v → Plain (u ++ v)
plain_append [] v h i = i
plain_append (x ∷ u) v h i = (h.0, plain_append u v h.1 i)

pub record Good {A : Type 0} (p : Parser A) (L : Lang A) : Type 0 where
  pub sound : (ts rest : List Piece) (a : A) → p ts ≡ Ok (a, rest) → Took L ts a rest
  pub begun : (ts rest : List Piece) → p ts ≡ Err rest → Begun L ts rest
  pub word : Word L

pub ok_pair : {A : Type 0} (a b : A) (r s : List Piece) (o : Outcome A) → o ≡ Ok (a, r) → o ≡ Ok (b, s) → (a ≡ b) × (r ≡ s)
ok_pair {A} a b r s o e h =
    let p : A × List Piece = (a, r) in
    let q : A × List Piece = (b, s) in
    let both : ◌≡◌ {A = Outcome A} (Ok p) (Ok q) = sym e ∙ h in
    let same : p ≡ q = cc in
    (ap (λ (x : A × List Piece). x.0) same, ap (λ (x : A × List Piece). x.1) same)

pub good-pure : {A : Type 0} (a : A) → Good (read.pure a) (lang.pure a)
good-pure a = record {
  sound = λ ts rest b e. let same = ok_pair a b ts rest _ refl e in ([], same.1, (refl, sym same.0), tt);
  begun = λ ts rest e. absurd cc;
  word = ([], a, (refl, refl));
}

module _ (test : Sym → Bool) (inside : (k : Sym) → test k ≡ true → is End k ≡ false) where
  abbrev picked : (v : Bool) → Piece → List Piece → Outcome Piece
  picked v y r = if v then Ok (y, r) else Err (y ∷ r)

  took_if : (v : Bool) (y : Piece) (r rest : List Piece) (b : Piece) → test y.sym ≡ v → picked v y r ≡ Ok (b, rest) → Took (one test) (y ∷ r) b rest
  took_if true y r rest b t e =
      let same = ok_pair y b r rest _ refl e in
      (y ∷ [], ap (λ l. y ∷ l) same.1, (ap (λ l. l ∷ []) same.0, ap (λ l. test l.sym) (sym same.0) ∙ t), (inside y.sym t, tt))
  took_if false y r rest b t e = absurd cc

  took : (ts rest : List Piece) (b : Piece) → expect test ts ≡ Ok (b, rest) → Took (one test) ts b rest
  took [] rest b e = absurd cc
  took (y ∷ r) rest b e = took_if (test y.sym) y r rest b refl e

  fails_if : (v : Bool) (y : Piece) (r rest : List Piece) → picked v y r ≡ Err rest → y ∷ r ≡ rest
  fails_if true y r rest e = absurd cc
  fails_if false y r rest e = cc

  fails : (ts rest : List Piece) → expect test ts ≡ Err rest → ts ≡ rest
  fails [] rest e = cc
  fails (y ∷ r) rest e = fails_if (test y.sym) y r rest e

pub good-expect : (test : Sym → Bool) (inside : (k : Sym) → test k ≡ true → is End k ≡ false) (x : Piece) → test x.sym ≡ true → Good (expect test) (one test)
good-expect test inside x h = record {
  sound = λ ts rest b e. took test inside ts rest b e;
  begun = λ ts rest e. ([], x ∷ [], x, fails test inside ts rest e, (refl, h), tt);
  word = (x ∷ [], x, (refl, h));
}

module _ {A B : Type 0} (p : Parser A) (L : Lang A) (f : A → Parser B) (M : A → Lang B) (goodp : Good p L) (goodf : (a : A) → Good (f a) (M a)) where
  bind_took : (ts rest : List Piece) (b : B) (o : Outcome A) → p ts ≡ o → and_then o f ≡ Ok (b, rest) → Took (lang.◌>>=◌ L M) ts b rest
  bind_took ts rest b (Ok r) e h =
      let first : Took L ts r.0 r.1 = goodp.sound ts r.1 r.0 e in
      let second : Took (M r.0) r.1 b rest = (goodf r.0).sound r.1 rest b h in
      (first.0 ++ second.0, first.1 ∙ ap (λ l. first.0 ++ l) second.1 ∙ sym (append_assoc first.0 second.0 rest), (first.0, second.0, r.0, refl, first.2, second.2), plain_append first.0 second.0 first.3 second.3)
  bind_took ts rest b (Err r) e h = absurd cc

  bind_begun : (ts rest : List Piece) (o : Outcome A) → p ts ≡ o → and_then o f ≡ Err rest → Begun (lang.◌>>=◌ L M) ts rest
  bind_begun ts rest (Ok r) e h =
      let first : Took L ts r.0 r.1 = goodp.sound ts r.1 r.0 e in
      let second : Begun (M r.0) r.1 rest = (goodf r.0).begun r.1 rest h in (
        first.0 ++ second.0,
        second.1,
        second.2,
        first.1 ∙ ap (λ l. first.0 ++ l) second.3 ∙ sym (append_assoc first.0 second.0 rest),
        (first.0, second.0 ++ second.1, r.0, append_assoc first.0 second.0 second.1, first.2, second.4),
        plain_append first.0 second.0 first.3 second.5,
      )
  bind_begun ts rest (Err r) e h =
      let first : Begun L ts r = goodp.begun ts r e in
      let w : Word (M first.2) = (goodf first.2).word in
      let same : r ≡ rest = cc in
      (first.0, first.1 ++ w.0, w.1, first.3 ∙ ap (λ l. first.0 ++ l) same, (first.0 ++ first.1, w.0, first.2, sym (append_assoc first.0 first.1 w.0), first.4, w.2), first.5)

  pub good-bind : Good (read.◌>>=◌ p f) (lang.◌>>=◌ L M)
  good-bind = record {
    sound = λ ts rest b h. bind_took ts rest b (p ts) refl h;
    begun = λ ts rest h. bind_begun ts rest (p ts) refl h;
    word = let w : Word L = goodp.word in let v : Word (M w.1) = (goodf w.1).word in (w.0 ++ v.0, v.1, (w.0, v.0, w.1, refl, w.2, v.2));
  }

-- in a larger language
pub good-in : {A : Type 0} (p : Parser A) (L M : Lang A) → ((ts : List Piece) (a : A) → L ts a → M ts a) → Good p L → Good p M
good-in p L M include g = record {
  sound = λ ts rest a e. let t : Took L ts a rest = g.sound ts rest a e in (t.0, t.1, include t.0 a t.2, t.3);
  begun = λ ts rest e. let t : Begun L ts rest = g.begun ts rest e in (t.0, t.1, t.2, t.3, include (t.0 ++ t.1) t.2 t.4, t.5);
  word = let w : Word L = g.word in (w.0, w.1, include w.0 w.1 w.2);
}

pub good-next : {A : Type 0} (f : Sym → Parser A) (L : Lang A) → Word L → ((s : Sym) → Good (f s) L) → Good (by_next f) L
good-next f L w each = record {
  sound = λ ts rest a e. (each (head ts)).sound ts rest a e;
  begun = λ ts rest e. (each (head ts)).begun ts rest e;
  word = w;
}

pub good-if : {A : Type 0} (b : Bool) (p q : Parser A) (L : Lang A) → Good p L → Good q L → Good (if b then p else q) L
good-if true p q L gp gq = gp
good-if false p q L gp gq = gq

-- ---- one after another, each begun by a sign

module _ {A : Type 0} (starts : Sym → Bool) (inside : (k : Sym) → starts k ≡ true → is End k ≡ false) (sign : Piece) (is_sign : starts sign.sym ≡ true) (item : Piece → Parser A) (L : Piece → Lang A) (good : (x : Piece) → Good (item x) (L x)) where
  abbrev pub signed : Lang A
  signed = lang.◌>>=◌ (one starts) L

  abbrev one_more : Lang (List A)
  one_more = lang.◌>>=◌ (one starts) (λ x. lang.◌>>=◌ (L x) (λ a. lang.◌>>=◌ (many signed) (λ more. lang.pure (a ∷ more))))

  no_more_in : (ts : List Piece) (found : List A) → lang.pure {A = List A} [] ts found → many signed ts found
  no_more_in ts found h = subst (λ f. AllOf signed f ts) (sym h.1) h.0

  one_more_in : (ts : List Piece) (found : List A) → one_more ts found → many signed ts found
  one_more_in ts found h =
      let b = h.5 in
      let c = b.5 in
      let ends : c.0 ++ c.1 ≡ c.0 = ap (λ l. c.0 ++ l) c.5.0 ∙ append-nil c.0 in
      let tail : AllOf signed c.2 b.1 = subst (λ l. AllOf signed c.2 l) (sym (c.3 ∙ ends)) c.4 in
      let item_at : signed (h.0 ++ b.0) b.2 = (h.0, b.0, h.2, refl, h.4, b.4) in
      let whole : AllOf signed (b.2 ∷ c.2) ts = (h.0 ++ b.0, b.1, h.3 ∙ ap (λ l. h.0 ++ l) b.3 ∙ sym (append_assoc h.0 b.0 b.1), item_at, tail) in
      subst (λ f. AllOf signed f ts) (sym c.5.1) whole

  none : Word (many signed)
  none = ([], [], refl)

  pub good-turns : (n : ℕ) → Good (turns n starts item) (many signed)
  unfolding turns
  good-turns zero = good-in (read.pure []) (lang.pure []) (many signed) no_more_in (good-pure [])
  good-turns (suc n) = good-next _ (many signed) none (λ s. good-if (starts s) _ _ (many signed)
      (good-in _ one_more (many signed) one_more_in
      (good-bind (expect starts) (one starts) _ _ (good-expect starts inside sign is_sign)
      (λ x. good-bind (item x) (L x) _ _ (good x)
      (λ a. good-bind (turns n starts item) (many signed) _ _ (good-turns n)
      (λ more. good-pure (a ∷ more))))))
      (good-in (read.pure []) (lang.pure []) (many signed) no_more_in (good-pure [])))

  pub good-all : Good (all starts item) (many signed)
  unfolding all
  good-all = record {
    sound = λ ts rest a e. (good-turns (length ts)).sound ts rest a e;
    begun = λ ts rest e. (good-turns (length ts)).begun ts rest e;
    word = none;
  }
