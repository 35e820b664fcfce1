-- What holds of every text: one query or one refusal.
use Rattle.std.proofs.Common.{◌≡◌, ◌⊎◌, inl, inr, ℕ, zero, suc, ◌+◌, ◌<◌, ◌≤◌, arith, Bool, true, false, ◌==◌, nat_le, if◌then◌else◌, List, [], ◌∷◌, ◌++◌, map, length, take, Option, Some, None, ℤ, Result, Ok, Err, refl, sym, ap, subst, ◌∙◌, append_assoc}
use Rattle.std.proofs.lemmas.Bool.{leb-true, leb-false, eqb-true}
use Rattle.std.specs.Str.{str_eq_ignore_ascii_case}
use Rattle.pgql_ast.specs.declared.token.Token.{Token}
use Rattle.pgql_ast.specs.declared.token.TokenKind.{TokenKind}
use Rattle.pgql_ast.specs.declared.token.TokenKind.TheVariants.{Keyword, Word, Quoted, Number, Chars, Sign}
use Rattle.pgql_ast.specs.declared.query.Query.{Query}
use Rattle.pgql_lex.specs.Tokens.{tokens}
use Rattle.pgql_lex.specs.Spelling.{doubled}
use Rattle.pgql_lex.specs.Bytes.{is_one_of, is_keyword as is_keyword_word}
use Rattle.pgql_grammar.specs.declared.piece.Piece.{Piece}
use Rattle.pgql_grammar.specs.declared.piece.Sym.{Sym}
use Rattle.pgql_grammar.specs.declared.piece.Sym.TheVariants as s
use Rattle.pgql_grammar.specs.Sorts.{is, is_keyword}
use Rattle.pgql_grammar.specs.Language.{Lang}
use Rattle.pgql_grammar.specs.Reading.{Outcome, head}
use Rattle.pgql_grammar.specs.Clauses.{Text, any_query}
use Rattle.pgql_grammar.specs.QueryReader as r
use Rattle.pgql_grammar.specs.Faults.{Begins, FirstFault}
use Rattle.pgql_grammar.specs.Pieces.{sort_in, keyword_rows, sign_rows, keyword_sort, sign_sort, undoubled, plain, chars_piece, piece_of, bytes_of, pieces}
use Rattle.pgql_grammar.specs.Limits.{too_deep}
use Rattle.pgql_grammar.specs.Meaning.{IsWithin, Spells, IsTooLong, HasNoToken, IsTooDeep, IsNoQuery, Refused, place_at}
use Rattle.pgql_grammar.proofs.Good.{Plain}
use Rattle.pgql_grammar.proofs.Theorem.{only_query, not_both, full, fault_full, late_full, whole_full}

-- ---- no piece of a text is the end

abbrev no_end : List (Text × Sym) → Bool
no_end [] = true
no_end (row ∷ rows) = if is s.End row.1 then false else no_end rows

sort_no_end : (rows : List (Text × Sym)) (w : Text) → no_end rows ≡ true → is s.End (sort_in rows w) ≡ false
unfolding is
sort_no_end [] w e = refl
sort_no_end (row ∷ rows) w e = by_match (str_eq_ignore_ascii_case row.0 w) (is s.End row.1) refl e (λ h. sort_no_end rows w h)
  where
    by_match : (b c : Bool) → is s.End row.1 ≡ c → (if c then false else no_end rows) ≡ true → (no_end rows ≡ true → is s.End (sort_in rows w) ≡ false) → is s.End (if b then row.1 else sort_in rows w) ≡ false
    by_match b true h i j = absurd cc
    by_match true false h i j = h
    by_match false false h i j = j i

chars_no_end : (place : ℕ) (t : Text) (day : Option ℤ) → is s.End (chars_piece place t day).sym ≡ false
unfolding is
chars_no_end place t None = refl
chars_no_end place t (Some day) = refl

piece_no_end : (kind : TokenKind) (place : ℕ) (w : Text) → is s.End (piece_of kind place w).sym ≡ false
unfolding is piece_of keyword_sort sign_sort
piece_no_end Keyword place w = sort_no_end keyword_rows w refl
piece_no_end Word place w = refl
piece_no_end Quoted place w = refl
piece_no_end Number place w = refl
piece_no_end Chars place w = chars_no_end place _ _
piece_no_end Sign place w = sort_no_end sign_rows w refl

pub pieces_plain : (text : Text) (found : List Token) → Plain (pieces text found)
pieces_plain text [] = tt
pieces_plain text (t ∷ more) = (piece_no_end t.kind t.from (bytes_of text t), pieces_plain text more)

-- ---- the first fault is one

shorter : {A : Type 0} (m n : ℕ) (ts : List A) → m ≤ n → (more : List A) × (take n ts ≡ take m ts ++ more)
shorter zero n ts h = (take n ts, refl)
shorter (suc m) zero ts h = absurd (omega arith)
shorter (suc m) (suc n) [] h = ([], refl)
shorter (suc m) (suc n) (x ∷ ts) h = let t = shorter m n ts (omega arith) in (t.0, ap (λ (l : List _). x ∷ l) t.1)

begins_shorter : {A : Type 0} (L : Lang A) (m n : ℕ) (ts : List Piece) → m ≤ n → Begins L (take n ts) → Begins L (take m ts)
begins_shorter L m n ts h b =
    let t = shorter m n ts h in
    (t.0 ++ b.0, b.1, subst (λ (l : List Piece). L l b.1) (ap (λ (l : List Piece). l ++ b.0) t.1 ∙ append_assoc (take m ts) t.0 b.0) b.2)

not_less : {A : Type 0} (L : Lang A) (ts : List Piece) (j k : ℕ) → FirstFault L ts j → FirstFault L ts k → j < k → ⊥
not_less L ts j k f g h = elim f.there [
  | inl t ↦ t.1 (begins_shorter L (j + 1) k ts (omega arith) g.before)
  | inr t ↦ (elim g.there [ inl u ↦ omega (arith, t.0, u.0) | inr u ↦ omega (arith, t.0, u.0) ])
]

three_ways : (j k : ℕ) → (j < k) ⊎ (j ≡ k) ⊎ (k < j)
three_ways zero zero = inr (inl refl)
three_ways zero (suc k) = inl (omega arith)
three_ways (suc j) zero = inr (inr (omega arith))
three_ways (suc j) (suc k) = elim (three_ways j k) [ inl h ↦ inl (omega arith) | inr i ↦ (elim i [ inl h ↦ inr (inl (ap suc h)) | inr h ↦ inr (inr (omega arith)) ]) ]

first_is_one : {A : Type 0} (L : Lang A) (ts : List Piece) (j k : ℕ) → FirstFault L ts j → FirstFault L ts k → j ≡ k
first_is_one L ts j k f g = elim (three_ways j k) [
  | inl h ↦ absurd (not_less L ts j k f g h)
  | inr i ↦ (elim i [ inl h ↦ h | inr h ↦ absurd (not_less L ts k j g f h) ])
]

-- ---- a query or a refusal

same_tokens : (text : Text) (a b : List Token) → tokens 0 0 text ≡ Ok a → tokens 0 0 text ≡ Ok b → a ≡ b
same_tokens text a b e h = let both : ◌≡◌ {A = Result (List Token) ℕ} (Ok a) (Ok b) = sym e ∙ h in cc

pub one_query : (text : Text) (a b : Query) → Spells text a → Spells text b → a ≡ b
one_query text a b h i =
    only_query (pieces text h.0) a b h.2 (subst (λ ts. any_query (pieces text ts) b) (same_tokens text i.0 h.0 i.1.lexed h.1.lexed) i.2)

abbrev end_of : Text → Piece
end_of text = plain s.End (length text) []

ends : (text : Text) → is s.End (end_of text).sym ≡ true
unfolding is
ends text = refl

module _ (text : Text) (found : List Token) (within : IsWithin text found) where
  abbrev words : List Piece
  words = pieces text found

  refused_at : (k : ℕ) → FirstFault any_query words k → (number place : ℕ) × Refused text number place
  refused_at k f = (41, place_at (length text) words k, inr (inr (inr (found, within, k, f, refl, refl))))

  read_end : (query : Query) (rest : List Piece) → r.query_to (length (full words (end_of text))) (full words (end_of text)) ≡ Ok (query, rest) → (b : Bool) → is s.End (head rest) ≡ b
      → ((query : Query) × Spells text query) ⊎ ((number place : ℕ) × Refused text number place)
  read_end query rest e true h = inl (query, (found, within, whole_full words (end_of text) (ends text) (pieces_plain text found) query rest e h))
  read_end query rest e false h = inr (refused_at _ (late_full words (end_of text) (ends text) (pieces_plain text found) query rest e h))

  read_whole : (o : Outcome Query) → r.query_to (length (full words (end_of text))) (full words (end_of text)) ≡ o
      → ((query : Query) × Spells text query) ⊎ ((number place : ℕ) × Refused text number place)
  read_whole (Err rest) e = inr (refused_at _ (fault_full words (end_of text) (ends text) (pieces_plain text found) rest e))
  read_whole (Ok p) e = read_end p.0 p.1 e (is s.End (head p.1)) refl

read_deep : (text : Text) (found : List Token) → length text ≤ 65535 → tokens 0 0 text ≡ Ok found → (deep : Option ℕ) → too_deep (pieces text found) ≡ deep
    → ((query : Query) × Spells text query) ⊎ ((number place : ℕ) × Refused text number place)
read_deep text found short lexed None e = read_whole text found (record { short = short; lexed = lexed; shallow = e }) _ refl
read_deep text found short lexed (Some place) e = inr (42, place, inr (inr (inl (found, short, lexed, e, refl))))

read_tokens : (text : Text) → length text ≤ 65535 → (o : Result (List Token) ℕ) → tokens 0 0 text ≡ o
    → ((query : Query) × Spells text query) ⊎ ((number place : ℕ) × Refused text number place)
read_tokens text short (Ok found) e = read_deep text found short e _ refl
read_tokens text short (Err place) e = inr (40, place, inr (inl (short, e, refl)))

pub query_or_refusal : (text : Text) → ((query : Query) × Spells text query) ⊎ ((number place : ℕ) × Refused text number place)
query_or_refusal text = by (nat_le (length text) 65535) refl
  where
    by : (b : Bool) → nat_le (length text) 65535 ≡ b → ((query : Query) × Spells text query) ⊎ ((number place : ℕ) × Refused text number place)
    by true e = read_tokens text (leb-true (length text) 65535 e) _ refl
    by false e = inr (42, 65535, inl (leb-false (length text) 65535 e, refl, refl))

module _ (text : Text) where
  pub spelled_not_refused : (query : Query) (number place : ℕ) → Spells text query → Refused text number place → ⊥
  spelled_not_refused query number place q (inl h) = omega (arith, h.0, q.1.short)
  spelled_not_refused query number place q (inr (inl h)) =
      let lexed = q.1.lexed in let none = h.1 in cc
  spelled_not_refused query number place q (inr (inr (inl h))) =
      let same = same_tokens text h.0 q.0 h.2 q.1.lexed in
      let deep : too_deep (pieces text q.0) ≡ Some place = subst (λ ts. too_deep (pieces text ts) ≡ Some place) same h.3 in
      let shallow = q.1.shallow in cc
  spelled_not_refused query number place q (inr (inr (inr h))) =
      let same = same_tokens text h.0 q.0 h.1.lexed q.1.lexed in
      not_both (pieces text q.0) query h.2 (subst (λ ts. FirstFault any_query (pieces text ts) h.2) same h.3) q.2

  -- ---- two refusals

  abbrev Same : ℕ → ℕ → ℕ → ℕ → Type 0
  Same number other place there = (number ≡ other) × (place ≡ there)

  long_and : (number other place there : ℕ) → IsTooLong text number place → Refused text other there → Same number other place there
  long_and number other place there h (inl i) = (h.1 ∙ sym i.1, h.2 ∙ sym i.2)
  long_and number other place there h (inr (inl i)) = absurd (omega (arith, h.0, i.0))
  long_and number other place there h (inr (inr (inl i))) = absurd (omega (arith, h.0, i.1))
  long_and number other place there h (inr (inr (inr i))) = absurd (omega (arith, h.0, i.1.short))

  token_and : (number other place there : ℕ) → HasNoToken text number place → Refused text other there → Same number other place there
  token_and number other place there h (inl i) = absurd (omega (arith, h.0, i.0))
  token_and number other place there h (inr (inl i)) =
      let both : ◌≡◌ {A = Result (List Token) ℕ} (Err place) (Err there) = sym h.1 ∙ i.1 in (h.2 ∙ sym i.2, cc)
  token_and number other place there h (inr (inr (inl i))) = let none = h.1 in let lexed = i.2 in absurd cc
  token_and number other place there h (inr (inr (inr i))) = let none = h.1 in let lexed = i.1.lexed in absurd cc

  deep_and : (number other place there : ℕ) → IsTooDeep text number place → Refused text other there → Same number other place there
  deep_and number other place there h (inl i) = absurd (omega (arith, h.1, i.0))
  deep_and number other place there h (inr (inl i)) = let lexed = h.2 in let none = i.1 in absurd cc
  deep_and number other place there h (inr (inr (inl i))) =
      let same = same_tokens text i.0 h.0 i.2 h.2 in
      let deep : too_deep (pieces text h.0) ≡ Some there = subst (λ ts. too_deep (pieces text ts) ≡ Some there) same i.3 in
      let both : ◌≡◌ {A = Option ℕ} (Some place) (Some there) = sym h.3 ∙ deep in
      (h.4 ∙ sym i.4, cc)
  deep_and number other place there h (inr (inr (inr i))) =
      let same = same_tokens text i.0 h.0 i.1.lexed h.2 in
      let shallow : too_deep (pieces text h.0) ≡ None = subst (λ ts. too_deep (pieces text ts) ≡ None) same i.1.shallow in
      let deep = h.3 in absurd cc

  query_and : (number other place there : ℕ) → IsNoQuery text number place → Refused text other there → Same number other place there
  query_and number other place there h (inl i) = absurd (omega (arith, h.1.short, i.0))
  query_and number other place there h (inr (inl i)) = let lexed = h.1.lexed in let none = i.1 in absurd cc
  query_and number other place there h (inr (inr (inl i))) =
      let t = deep_and other number there place i (inr (inr (inr h))) in (sym t.0, sym t.1)
  query_and number other place there h (inr (inr (inr i))) =
      let same = same_tokens text i.0 h.0 i.1.lexed h.1.lexed in
      let k : h.2 ≡ i.2 = first_is_one any_query (pieces text h.0) h.2 i.2 h.3 (subst (λ ts. FirstFault any_query (pieces text ts) i.2) same i.3) in
      let there_is : there ≡ place_at (length text) (pieces text h.0) i.2 = subst (λ ts. there ≡ place_at (length text) (pieces text ts) i.2) same i.5 in
      (h.4 ∙ sym i.4, h.5 ∙ ap (place_at (length text) (pieces text h.0)) k ∙ sym there_is)

  pub one_refusal : (number other place there : ℕ) → Refused text number place → Refused text other there → Same number other place there
  one_refusal number other place there (inl h) i = long_and number other place there h i
  one_refusal number other place there (inr (inl h)) i = token_and number other place there h i
  one_refusal number other place there (inr (inr (inl h))) i = deep_and number other place there h i
  one_refusal number other place there (inr (inr (inr h))) i = query_and number other place there h i

-- ---- quotes

pub undoubled_doubled : (z : Text) → undoubled false (doubled z) ≡ z
undoubled_doubled [] = refl
undoubled_doubled (b ∷ z) = by (b == 39) refl (undoubled_doubled z)
  where
    by : (v : Bool) → (b == 39) ≡ v → undoubled false (doubled z) ≡ z → undoubled false (if v then 39 ∷ 39 ∷ doubled z else b ∷ doubled z) ≡ b ∷ z
    by true e h = let quote : b ≡ 39 = eqb-true b 39 e in ap (λ (l : Text). 39 ∷ l) h ∙ ap (λ c. c ∷ z) (sym quote)
    by false e h = ap (λ (v : Bool). b ∷ undoubled v (doubled z)) e ∙ ap (λ (l : Text). b ∷ l) h

-- ---- keywords

abbrev words_of : List (Text × Sym) → List Text
words_of rows = map (λ row. row.0) rows

abbrev all_keywords : List (Text × Sym) → Bool
all_keywords [] = true
all_keywords (row ∷ rows) = if is_keyword row.1 then all_keywords rows else false

sort_of_keyword : (rows : List (Text × Sym)) (w : Text) → all_keywords rows ≡ true → is_one_of (words_of rows) w ≡ true → is_keyword (sort_in rows w) ≡ true
sort_of_keyword [] w e h = absurd cc
sort_of_keyword (row ∷ rows) w e h = by (str_eq_ignore_ascii_case row.0 w) (is_keyword row.1) refl e h (λ i j. sort_of_keyword rows w i j)
  where
    by : (b c : Bool) → is_keyword row.1 ≡ c → (if c then all_keywords rows else false) ≡ true → (if b then true else is_one_of (words_of rows) w) ≡ true
        → (all_keywords rows ≡ true → is_one_of (words_of rows) w ≡ true → is_keyword (sort_in rows w) ≡ true) → is_keyword (if b then row.1 else sort_in rows w) ≡ true
    by b false i e h j = absurd cc
    by true true i e h j = i
    by false true i e h j = j e h

pub keyword_of_word : (w : Text) → is_keyword_word w ≡ true → is_keyword (keyword_sort w) ≡ true
unfolding is_keyword_word keyword_sort
keyword_of_word w h = sort_of_keyword keyword_rows w refl h
