-- What holds of each value that fair pieces spell in a language.
use Rattle.std.proofs.Common.{◌≡◌, inl, inr, Bool, true, List, [], ◌∷◌, Some, None, refl, sym, subst}
use Rattle.std.specs.Prelude.{IfSome}
use Rattle.std.specs.List.{AllByRecursion}
use Rattle.pgql_grammar.specs.declared.piece.Piece.{Piece}
use Rattle.pgql_grammar.specs.declared.piece.Sym.{Sym}
use Rattle.pgql_grammar.specs.Sorts.{is}
use Rattle.pgql_grammar.specs.Language as lang
use Rattle.pgql_grammar.specs.Language.{Lang, AllOf}
use Rattle.pgql_forms.specs.WellFormed.{some}
use Rattle.pgql_forms.proofs.Fair.{Fair, AllFair, fair-parts}

pub record Gives {A : Type 0} (L : Lang A) (P : A → Type 0) : Type 0 where
  pub at : (ts : List Piece) (a : A) → AllFair ts → L ts a → P a

abbrev pub Any : {A : Type 0} → A → Type 0
Any a = Unit {0}

-- nothing is asked
pub gives-any : {A : Type 0} (L : Lang A) → Gives L Any
gives-any L = record { at = λ ts a fair h. tt }

-- a piece of a sort
pub gives-one : (test : Sym → Bool) → Gives (lang.one test) (λ x. Fair x × (test x.sym ≡ true))
gives-one test = record { at = λ ts x fair h. let mine : AllFair (x ∷ []) = subst AllFair h.0 fair in (mine.0, h.1) }

pub gives-pure : {A : Type 0} {P : A → Type 0} (a : A) → P a → Gives (lang.pure a) P
gives-pure {P = P} a p = record { at = λ ts b fair h. subst P (sym h.1) p }

pub gives-bind : {A B : Type 0} {L : Lang A} {M : A → Lang B} {P : A → Type 0} {Q : B → Type 0} → Gives L P → ((a : A) → P a → Gives (M a) Q) → Gives (lang.◌>>=◌ L M) Q
gives-bind first more = record {
  at = λ ts b fair h.
      let parts = fair-parts h.0 h.1 (subst AllFair h.3 fair) in
      (more h.2 (first.at h.0 h.2 parts.0 h.4)).at h.1 b parts.1 h.5;
}

pub gives-or : {A : Type 0} {L M : Lang A} {P : A → Type 0} → Gives L P → Gives M P → Gives (lang.◌or◌ L M) P
gives-or i j = record { at = λ ts a fair h. elim h [ inl w ↦ i.at ts a fair w | inr w ↦ j.at ts a fair w ] }

all_of : {A : Type 0} (L : Lang A) (P : A → Type 0) → Gives L P → (found : List A) (ts : List Piece) → AllFair ts → AllOf L found ts → AllByRecursion P found
all_of L P each [] ts fair h = tt
all_of L P each (a ∷ more) ts fair h =
    let parts = fair-parts h.0 h.1 (subst AllFair h.2 fair) in
    (each.at h.0 a parts.0 h.3, all_of L P each more h.1 parts.1 h.4)

pub gives-many : {A : Type 0} {L : Lang A} {P : A → Type 0} → Gives L P → Gives (lang.many L) (AllByRecursion P)
gives-many {L = L} {P = P} each = record { at = λ ts found fair h. all_of L P each found ts fair h }

-- [ k L ]
pub gives-optional : {A : Type 0} {L : Lang A} {P : A → Type 0} (k : Sym) → Gives L P → Gives (lang.optional k L) (λ o. IfSome o P)
gives-optional {P = P} k each = gives-or (gives-bind (gives-one (is k)) (λ x h. gives-bind each (λ a p. gives-pure (Some a) p))) (gives-pure None tt)

-- L { k L }
abbrev pub AtLeastOne : {A : Type 0} → (A → Type 0) → List A → Type 0
AtLeastOne P found = (some found ≡ true) × AllByRecursion P found

pub gives-separated : {A : Type 0} {L : Lang A} {P : A → Type 0} (k : Sym) → Gives L P → Gives (lang.separated k L) (AtLeastOne P)
gives-separated {P = P} k each = gives-bind each (λ first p. gives-bind (gives-many (gives-bind (gives-one (is k)) (λ x h. each))) (λ more ps. gives-pure (first ∷ more) (refl, (p, ps))))
