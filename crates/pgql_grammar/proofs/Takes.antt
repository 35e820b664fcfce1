-- Each word of a language is read, where the piece after it doesn't go on with it.
use Rattle.std.proofs.Common.{◌≡◌, ℕ, zero, suc, ◌≤◌, Bool, true, false, if◌then◌else◌, List, [], ◌∷◌, ◌++◌, length, Ok, Err, sym, ap, ◌∙◌, append_assoc, length-append, arith}
use Rattle.pgql_grammar.specs.declared.piece.Piece.{Piece}
use Rattle.pgql_grammar.specs.declared.piece.Sym.{Sym}
use Rattle.pgql_grammar.specs.Language as lang
use Rattle.pgql_grammar.specs.Language.{Lang, one, many, AllOf}
use Rattle.pgql_grammar.specs.Reading as read
use Rattle.pgql_grammar.specs.Reading.{Parser, Outcome, and_then, head, by_next, expect, turns, all}

pub record Takes {A : Type 0} (p : Parser A) (L : Lang A) (stop : Sym → Bool) : Type 0 where
  pub takes : (u rest : List Piece) (a : A) → L u a → stop (head rest) ≡ true → p (u ++ rest) ≡ Ok (a, rest)

pub takes-pure : {A : Type 0} (a : A) (stop : Sym → Bool) → Takes (read.pure a) (lang.pure a) stop
takes-pure {A} a stop = record {
  takes = λ u rest b h stops. ap (λ (l : List Piece). read.pure a (l ++ rest)) h.0 ∙ ap (λ (c : A). read.pure c rest) (sym h.1);
}

pub takes-expect : (test stop : Sym → Bool) → Takes (expect test) (one test) stop
takes-expect test stop = record {
  takes = λ u rest b h stops. ap (λ (l : List Piece). expect test (l ++ rest)) h.0 ∙ ap (λ v. if v then Ok (b, rest) else Err (b ∷ rest)) h.1;
}

pub takes-bind : {A B : Type 0} (p : Parser A) (L : Lang A) (f : A → Parser B) (M : A → Lang B) (first stop : Sym → Bool)
    → Takes p L first → ((a : A) → Takes (f a) (M a) stop)
    → ((a : A) (b : B) (v rest : List Piece) → M a v b → stop (head rest) ≡ true → first (head (v ++ rest)) ≡ true)
    → Takes (read.◌>>=◌ p f) (lang.◌>>=◌ L M) stop
takes-bind p L f M first stop takes_p takes_f next = record {
  takes = λ w rest b h stops.
      let whole : w ++ rest ≡ h.0 ++ (h.1 ++ rest) = ap (λ l. l ++ rest) h.3 ∙ append_assoc h.0 h.1 rest in
      let one : p (h.0 ++ (h.1 ++ rest)) ≡ Ok (h.2, h.1 ++ rest) = takes_p.takes h.0 (h.1 ++ rest) h.2 h.4 (next h.2 b h.1 rest h.5 stops) in
      ap (λ (l : List Piece). and_then (p l) f) whole ∙ ap (λ o. and_then o f) one ∙ (takes_f h.2).takes h.1 rest b h.5 stops;
}

module _ {A : Type 0} (starts : Sym → Bool) (item : Piece → Parser A) (L : Piece → Lang A) (stop between : Sym → Bool)
    (stops : (s : Sym) → stop s ≡ true → starts s ≡ false) (after : (s : Sym) → stop s ≡ true → between s ≡ true) (again : (s : Sym) → starts s ≡ true → between s ≡ true)
    (takes_item : (x : Piece) → Takes (item x) (L x) between) where
  abbrev signed : Lang A
  signed = lang.◌>>=◌ (one starts) L

  pub next_of : (found : List A) (v rest : List Piece) → AllOf signed found v → stop (head rest) ≡ true → between (head (v ++ rest)) ≡ true
  next_of [] v rest h e = ap (λ (l : List Piece). between (head (l ++ rest))) h ∙ after (head rest) e
  next_of (a ∷ more) v rest h e =
      let i = h.3 in
      let begins : v ≡ i.2 ∷ (i.1 ++ h.1) = h.2 ∙ ap (λ (l : List Piece). l ++ h.1) (i.3 ∙ ap (λ (l : List Piece). l ++ i.1) i.4.0) in
      ap (λ (l : List Piece). between (head (l ++ rest))) begins ∙ again i.2.sym i.4.1

  abbrev after_item : ℕ → A → Parser (List A)
  after_item n b = read.◌>>=◌ (turns n starts item) (λ f. read.pure (b ∷ f))

  abbrev after_sign : ℕ → Piece → Parser (List A)
  after_sign n y = read.◌>>=◌ (item y) (after_item n)

  abbrev one_more : ℕ → Parser (List A)
  one_more n = read.◌>>=◌ (expect starts) (after_sign n)

  pub turns_take : (n : ℕ) (found : List A) (u rest : List Piece) → AllOf signed found u → length u ≤ n → stop (head rest) ≡ true → turns n starts item (u ++ rest) ≡ Ok (found, rest)
  unfolding turns
  turns_take zero [] u rest h few e = ap (λ (l : List Piece). Ok ([], l ++ rest)) h
  turns_take (suc n) [] u rest h few e =
      ap (λ (l : List Piece). turns (suc n) starts item (l ++ rest)) h ∙ ap (λ v. (if v then one_more n else read.pure []) rest) (stops (head rest) e)
  turns_take zero (a ∷ more) u rest h few e =
      let i = h.3 in
      let size : length u ≡ length ((i.0 ++ i.1) ++ h.1) = ap length (h.2 ∙ ap (λ (l : List Piece). l ++ h.1) i.3) in
      absurd (omega (arith, size, length-append (i.0 ++ i.1) h.1, length-append i.0 i.1, ap length i.4.0))
  turns_take (suc n) (a ∷ more) u rest h few e =
      let i = h.3 in
      let x = i.2 in
      let begins : u ≡ x ∷ (i.1 ++ h.1) = h.2 ∙ ap (λ (l : List Piece). l ++ h.1) (i.3 ∙ ap (λ (l : List Piece). l ++ i.1) i.4.0) in
      let whole : u ++ rest ≡ x ∷ (i.1 ++ (h.1 ++ rest)) = ap (λ (l : List Piece). l ++ rest) begins ∙ ap (λ (l : List Piece). x ∷ l) (append_assoc i.1 h.1 rest) in
      let took_item : item x (i.1 ++ (h.1 ++ rest)) ≡ Ok (a, h.1 ++ rest) = (takes_item x).takes i.1 (h.1 ++ rest) a i.5 (next_of more h.1 rest h.4 e) in
      let size : length u ≡ suc (length (i.1 ++ h.1)) = ap length begins in
      let took_more : turns n starts item (h.1 ++ rest) ≡ Ok (more, rest) = turns_take n more h.1 rest h.4 (omega (arith, size, length-append i.1 h.1)) e in
      ap (λ (l : List Piece). turns (suc n) starts item l) whole
      ∙ ap (λ v. (if v then one_more n else read.pure []) (x ∷ (i.1 ++ (h.1 ++ rest)))) i.4.1
      ∙ ap (λ v. and_then (if v then Ok (x, i.1 ++ (h.1 ++ rest)) else Err (x ∷ (i.1 ++ (h.1 ++ rest)))) (after_sign n)) i.4.1
      ∙ ap (λ o. and_then o (after_item n)) took_item
      ∙ ap (λ o. and_then o (λ (f : List A). read.pure (a ∷ f))) took_more

  pub takes-all : Takes (all starts item) (many signed) stop
  unfolding all
  takes-all = record { takes = λ u rest found h e. turns_take (length (u ++ rest)) found u rest h (omega (arith, length-append u rest)) e }
