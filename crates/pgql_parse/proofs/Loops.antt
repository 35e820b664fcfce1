-- The turns of a loop beside `turns`.
use Rattle.std.proofs.Common.{◌≡◌, ℕ, zero, suc, ◌+◌, ◌-◌, ◌<◌, ◌≤◌, arith, Bool, true, false, if◌then◌else◌, List, [], ◌∷◌, ◌++◌, length, Ok, Err, refl, sym, ap, ◌∙◌, append_assoc}
use Rattle.std.proofs.lemmas.List.{append-nil}
use Rattle.pgql_grammar.specs.declared.piece.Piece.{Piece}
use Rattle.pgql_grammar.specs.declared.piece.Sym.{Sym}
use Rattle.pgql_grammar.specs.Reading as read
use Rattle.pgql_grammar.specs.Reading.{Parser, Outcome, and_then, head, choose, expect, turns, all}
use Rattle.pgql_parse.specs.declared.rest.Stop.{Stop}
use Rattle.pgql_parse.specs.declared.rest.Stop.TheVariants.{NoMemory, Fault}
use Rattle.pgql_parse.specs.Front.{front}
use Rattle.pgql_parse.specs.Steps.{Fails}

module _ {A : Type 0} (starts : Sym → Bool) (item : Piece → Parser A) where
  abbrev after_item : ℕ → A → Parser (List A)
  after_item n b = read.◌>>=◌ (turns n starts item) (λ f. read.pure (b ∷ f))

  abbrev after_sign : ℕ → Piece → Parser (List A)
  after_sign n y = read.◌>>=◌ (item y) (after_item n)

  abbrev one_more : ℕ → Parser (List A)
  one_more n = read.◌>>=◌ (expect starts) (after_sign n)

  left_of : (n at : ℕ) → at < n → n - at ≡ suc (n - (at + 1))
  left_of n at h = omega arith

  opens : (n at : ℕ) (ts : List Piece) → at < n → starts (head ts) ≡ true → turns (n - at) starts item ts ≡ one_more (n - (at + 1)) ts
  unfolding turns
  opens n at ts h e = ap (λ k. turns k starts item ts) (left_of n at h) ∙ ap (λ (b : Bool). (if b then one_more (n - (at + 1)) else read.pure []) ts) e

  ends : (k : ℕ) (ts : List Piece) → starts (head ts) ≡ false → turns k starts item ts ≡ Ok ([], ts)
  unfolding turns
  ends zero ts e = refl
  ends (suc k) ts e = ap (λ (b : Bool). (if b then one_more k else read.pure []) ts) e

  module _ (found : List A) (n at : ℕ) (ts : List Piece) where
    pub stop : starts (head ts) ≡ false → front found (turns (n - at) starts item ts) ≡ Ok (found, ts)
    stop e = ap (front found) (ends (n - at) ts e) ∙ ap (λ (f : List A). Ok (f, ts)) (append-nil found)

    pub end : n ≤ at → front found (turns (n - at) starts item ts) ≡ Ok (found, ts)
    unfolding turns
    end h = let no : n - at ≡ 0 = omega arith in
        ap (λ k. front found (turns k starts item ts)) no ∙ ap (λ (f : List A). Ok (f, ts)) (append-nil found)

    pub no_sign : (r : List Piece) → at < n → starts (head ts) ≡ true → expect starts ts ≡ Err r → front found (turns (n - at) starts item ts) ≡ Err r
    no_sign r h e f = ap (front found) (opens n at ts h e) ∙ ap (λ o. front found (and_then o (after_sign (n - (at + 1))))) f

    pub no_item : (x : Piece) (us r : List Piece) → at < n → starts (head ts) ≡ true → expect starts ts ≡ Ok (x, us) → item x us ≡ Err r → front found (turns (n - at) starts item ts) ≡ Err r
    no_item x us r h e f g = ap (front found) (opens n at ts h e) ∙ ap (λ o. front found (and_then o (after_sign (n - (at + 1))))) f ∙ ap (λ o. front found (and_then o (after_item (n - (at + 1))))) g

    pub item_fails : (why : Stop) (o : Outcome (List A)) (x : Piece) (us r : List Piece) → o ≡ front found (turns (n - at) starts item ts) → at < n → starts (head ts) ≡ true → expect starts ts ≡ Ok (x, us)
        → Fails (item x us) why r → Fails o why r
    item_fails NoMemory o x us r i h e f g = tt
    item_fails Fault o x us r i h e f g = i ∙ no_item x us r h e f g

    pub more : (x : Piece) (us vs : List Piece) (a : A) → at < n → starts (head ts) ≡ true → expect starts ts ≡ Ok (x, us) → item x us ≡ Ok (a, vs)
        → front found (turns (n - at) starts item ts) ≡ front (found ++ a ∷ []) (turns (n - (at + 1)) starts item vs)
    more x us vs a h e f g =
        ap (front found) (opens n at ts h e) ∙ ap (λ o. front found (and_then o (after_sign (n - (at + 1))))) f ∙ ap (λ o. front found (and_then o (after_item (n - (at + 1))))) g
        ∙ shift (turns (n - (at + 1)) starts item vs)
      where
        shift : (o : Outcome (List A)) → front found (and_then o (λ (l : List A). read.pure (a ∷ l))) ≡ front (found ++ a ∷ []) o
        shift (Ok p) = ap (λ (l : List A). Ok (l, p.1)) (sym (append_assoc found (a ∷ []) p.0))
        shift (Err r) = refl

pub front_none : {A : Type 0} (o : Outcome (List A)) → o ≡ front [] o
front_none (Ok p) = refl
front_none (Err r) = refl

pub deeper : {X : Type 0} (f : ℕ → X) (n : ℕ) → 0 < n → f n ≡ f (suc (n - 1))
deeper f n some = let e : n ≡ suc (n - 1) = omega arith in ap f e

pub begins : {A : Type 0} (starts : Sym → Bool) (item : Piece → Parser A) (ts : List Piece) (n : ℕ) (found : List A) → n ≡ length ts → found ≡ []
    → all starts item ts ≡ front found (turns (n - 0) starts item ts)
unfolding all
begins {A} starts item ts n found size none =
    let same : length ts ≡ n - 0 = omega arith in
    ap (λ k. turns k starts item ts) same ∙ front_none (turns (n - 0) starts item ts) ∙ ap (λ (l : List A). front l (turns (n - 0) starts item ts)) (sym none)

-- a choice whose test fails
pub passed : {A : Type 0} (test : Sym → Bool) (p q : Parser A) (ts : List Piece) → test (head ts) ≡ false → choose test p q ts ≡ q ts
passed test p q ts e = ap (λ (b : Bool). (if b then p else q) ts) e
