-- Laws of languages, by which a rule with common beginnings is the rule that takes each of them once.
use Rattle.std.proofs.Common.{◌≡◌, ◌⊎◌, inl, inr, Bool, true, false, ◌||◌, List, [], ◌++◌, refl, sym, ap, subst, ◌∙◌, append_assoc}
use Rattle.std.proofs.lemmas.List.{append-nil}
use Rattle.pgql_grammar.specs.declared.piece.Piece.{Piece}
use Rattle.pgql_grammar.specs.declared.piece.Sym.{Sym}
use Rattle.pgql_grammar.specs.Language.{Lang, one, pure, ◌>>=◌, ◌or◌, many, pick}
use Rattle.pgql_grammar.proofs.Sets.{below, apart, below_at, apart_at}
use Rattle.pgql_grammar.proofs.Fitting.{In, Equal, in-bind, in-or, in-many, same}

pub in-trans : {A : Type 0} {L M N : Lang A} → In L M → In M N → In L N
in-trans i j = record { at = λ ts a h. j.at ts a (i.at ts a h) }

pub equal : {A : Type 0} (L : Lang A) → Equal L L
equal L = record { to = same L; back = same L }

infixr 8 ◌so◌
pub ◌so◌ : {A : Type 0} {L M N : Lang A} → Equal L M → Equal M N → Equal L N
i so j = record { to = in-trans i.to j.to; back = in-trans j.back i.back }

pub flip : {A : Type 0} {L M : Lang A} → Equal L M → Equal M L
flip i = record { to = i.back; back = i.to }

pub eq-bind : {A B : Type 0} {L : Lang A} {F G : A → Lang B} → ((a : A) → Equal (F a) (G a)) → Equal (L >>= F) (L >>= G)
eq-bind {L = L} each = record { to = in-bind (same L) (λ a. (each a).to); back = in-bind (same L) (λ a. (each a).back) }

pub eq-or : {A : Type 0} {L M F G : Lang A} → Equal L M → Equal F G → Equal (L or F) (M or G)
eq-or i j = record { to = in-or i.to j.to; back = in-or i.back j.back }

pub left : {A B : Type 0} (a : A) (N : A → Lang B) → Equal (pure a >>= N) (N a)
left {A} {B} a N = record {
  to = record { at = λ ts b h. subst (λ (x : A). N x ts b) h.4.1 (subst (λ (l : List Piece). N h.2 l b) (sym (h.3 ∙ ap (λ (l : List Piece). l ++ h.1) h.4.0)) h.5) };
  back = record { at = λ ts b h. ([], ts, a, refl, (refl, refl), h) };
}

pub right : {A : Type 0} (L : Lang A) → Equal (L >>= (λ a. pure a)) L
right {A} L = record {
  to = record { at = λ ts b h. subst (λ (x : A). L ts x) (sym h.5.1) (subst (λ (l : List Piece). L l h.2) (sym (h.3 ∙ ap (λ (l : List Piece). h.0 ++ l) h.5.0 ∙ append-nil h.0)) h.4) };
  back = record { at = λ ts b h. (ts, [], b, sym (append-nil ts), h, (refl, refl)) };
}

pub assoc : {A B C : Type 0} (L : Lang A) (M : A → Lang B) (N : B → Lang C) → Equal ((L >>= M) >>= N) (L >>= (λ a. M a >>= N))
assoc L M N = record {
  to = record {
    at = λ ts c h. let p = h.4 in
        (p.0, p.1 ++ h.1, p.2, h.3 ∙ ap (λ (l : List Piece). l ++ h.1) p.3 ∙ append_assoc p.0 p.1 h.1, p.4, (p.1, h.1, h.2, refl, p.5, h.5));
  };
  back = record {
    at = λ ts c h. let p = h.5 in
        (h.0 ++ p.0, p.1, p.2, h.3 ∙ ap (λ (l : List Piece). h.0 ++ l) p.3 ∙ sym (append_assoc h.0 p.0 p.1), (h.0, p.0, h.2, refl, h.4, p.4), p.5);
  };
}

pub or_first : {A B : Type 0} (L M : Lang A) (N : A → Lang B) → Equal ((L or M) >>= N) ((L >>= N) or (M >>= N))
or_first L M N = record {
  to = record { at = λ ts b h. elim h.4 [ inl w ↦ inl (h.0, h.1, h.2, h.3, w, h.5) | inr w ↦ inr (h.0, h.1, h.2, h.3, w, h.5) ] };
  back = record { at = λ ts b h. elim h [ inl w ↦ (w.0, w.1, w.2, w.3, inl w.4, w.5) | inr w ↦ (w.0, w.1, w.2, w.3, inr w.4, w.5) ] };
}

pub or_then : {A B : Type 0} (L : Lang A) (M N : A → Lang B) → Equal (L >>= (λ a. M a or N a)) ((L >>= M) or (L >>= N))
or_then L M N = record {
  to = record { at = λ ts b h. elim h.5 [ inl w ↦ inl (h.0, h.1, h.2, h.3, h.4, w) | inr w ↦ inr (h.0, h.1, h.2, h.3, h.4, w) ] };
  back = record { at = λ ts b h. elim h [ inl w ↦ (w.0, w.1, w.2, w.3, w.4, inl w.5) | inr w ↦ (w.0, w.1, w.2, w.3, w.4, inr w.5) ] };
}

pub eq-first : {A B : Type 0} {L M : Lang A} {F : A → Lang B} → Equal L M → Equal (L >>= F) (M >>= F)
eq-first i = record { to = in-bind i.to (λ a. same _); back = in-bind i.back (λ a. same _) }

pub eq-many : {A : Type 0} {L M : Lang A} → Equal L M → Equal (many L) (many M)
eq-many i = record { to = in-many i.to; back = in-many i.back }

pub eq-pick : {A : Type 0} (b : Bool) {L M F G : Lang A} → Equal L F → Equal M G → Equal (pick b L M) (pick b F G)
eq-pick true i j = i
eq-pick false i j = j

-- ---- a first piece of several sorts

either_of : (b c : Bool) → (b || c) ≡ true → (b ≡ true) ⊎ (c ≡ true)
either_of true c e = inl refl
either_of false c e = inr e

module _ {A : Type 0} (narrow wide : Sym → Bool) (F G : Piece → Lang A) where
  abbrev known : Piece → Lang A
  known x = pick (narrow x.sym) (F x or G x) (G x)

  into : (x : Piece) (b : Bool) (ts : List Piece) (a : A) → G x ts a → pick b (F x or G x) (G x) ts a
  into x true ts a h = inr h
  into x false ts a h = h

  of : (x : Piece) (b : Bool) (ts : List Piece) (a : A) → b ≡ true → F x ts a → pick b (F x or G x) (G x) ts a
  of x true ts a e h = inl h
  of x false ts a e h = absurd cc

  out : (x : Piece) (b : Bool) (ts : List Piece) (a : A) → pick b (F x or G x) (G x) ts a → ((b ≡ true) × F x ts a) ⊎ G x ts a
  out x true ts a (inl h) = inl (refl, h)
  out x true ts a (inr h) = inr h
  out x false ts a h = inr h

  -- where the first begins with some of the sorts that the second begins with
  pub some_of : below narrow wide ≡ true → Equal ((one narrow >>= F) or (one wide >>= G)) (one wide >>= known)
  some_of under = record {
    to = record { at = to };
    back = record {
      at = λ ts a h. elim (out h.2 (narrow h.2.sym) h.1 a h.5) [
        | inl w ↦ inl (h.0, h.1, h.2, h.3, (h.4.0, w.0), w.1)
        | inr w ↦ inr (h.0, h.1, h.2, h.3, h.4, w)
      ];
    };
  }
    where
      to : (ts : List Piece) (a : A) → ((one narrow >>= F) or (one wide >>= G)) ts a → (one wide >>= known) ts a
      to ts a (inl h) = (h.0, h.1, h.2, h.3, (h.4.0, below_at narrow wide under h.2.sym h.4.1), of h.2 (narrow h.2.sym) h.1 a h.4.1 h.5)
      to ts a (inr h) = (h.0, h.1, h.2, h.3, h.4, into h.2 (narrow h.2.sym) h.1 a h.5)

module _ {A : Type 0} (this that whole : Sym → Bool) (F G : Piece → Lang A) where
  abbrev parted : Piece → Lang A
  parted x = pick (this x.sym) (F x) (G x)

  yes : (x : Piece) (b : Bool) (ts : List Piece) (a : A) → b ≡ true → F x ts a → pick b (F x) (G x) ts a
  yes x true ts a e h = h
  yes x false ts a e h = absurd cc

  no : (x : Piece) (b : Bool) (ts : List Piece) (a : A) → b ≡ false → G x ts a → pick b (F x) (G x) ts a
  no x true ts a e h = absurd cc
  no x false ts a e h = h

  which : (x : Piece) (b : Bool) (ts : List Piece) (a : A) → pick b (F x) (G x) ts a → ((b ≡ true) × F x ts a) ⊎ ((b ≡ false) × G x ts a)
  which x true ts a h = inl (refl, h)
  which x false ts a h = inr (refl, h)

  -- where the two begin with sorts of their own
  pub one_of : below this whole ≡ true → below that whole ≡ true → apart that this ≡ true → below whole (λ k. this k || that k) ≡ true
      → Equal ((one this >>= F) or (one that >>= G)) (one whole >>= parted)
  one_of under under2 differ covers = record {
    to = record { at = to };
    back = record {
      at = λ ts a h. elim (which h.2 (this h.2.sym) h.1 a h.5) [
        | inl w ↦ inl (h.0, h.1, h.2, h.3, (h.4.0, w.0), w.1)
        | inr w ↦ inr (h.0, h.1, h.2, h.3, (h.4.0, left_out (this h.2.sym) (that h.2.sym) w.0 (below_at whole (λ k. this k || that k) covers h.2.sym h.4.1)), w.1)
      ];
    };
  }
    where
      left_out : (b c : Bool) → b ≡ false → (b || c) ≡ true → c ≡ true
      left_out true c e h = absurd cc
      left_out false c e h = h

      to : (ts : List Piece) (a : A) → ((one this >>= F) or (one that >>= G)) ts a → (one whole >>= parted) ts a
      to ts a (inl h) = (h.0, h.1, h.2, h.3, (h.4.0, below_at this whole under h.2.sym h.4.1), yes h.2 (this h.2.sym) h.1 a h.4.1 h.5)
      to ts a (inr h) = (h.0, h.1, h.2, h.3, (h.4.0, below_at that whole under2 h.2.sym h.4.1), no h.2 (this h.2.sym) h.1 a (apart_at that this differ h.2.sym h.4.1) h.5)
