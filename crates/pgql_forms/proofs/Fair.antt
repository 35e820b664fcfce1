-- The numbers and the days of a text's pieces lie in their ranges.
use Rattle.std.proofs.Common.{◌≡◌, ℕ, ◌+◌, ◌-◌, ◌≤◌, true, false, List, [], ◌∷◌, ◌++◌, length, take, drop, Option, Some, None, ℤ, pos, refl, sym, ap, ◌∙◌, subst, arith, append_assoc, length-append, Ok}
use Rattle.std.specs.List.{AllByRecursion}
use Rattle.std.proofs.lemmas.Bool.Decides.{nat_tests}
use Rattle.column_types.specs.Date.{is_day, date_of}
use Rattle.pgql_ast.specs.declared.token.Token.{Token}
use Rattle.pgql_ast.specs.declared.token.TokenKind.{TokenKind}
use Rattle.pgql_ast.specs.declared.token.TokenKind.TheVariants.{Keyword, Word, Quoted, Number, Chars, Sign}
use Rattle.pgql_lex.specs.Bytes.{Text}
use Rattle.pgql_lex.specs.Spelling.{Spelled, decimal}
use Rattle.pgql_lex.specs.Standing.{Stand}
use Rattle.pgql_lex.specs.Tokens.{tokens}
use Rattle.pgql_lex.proofs.Facts.{take-parts, drop-parts}
use Rattle.pgql_lex.proofs.Cover.{spelled}
use Rattle.pgql_grammar.specs.declared.piece.Piece.{Piece}
use Rattle.pgql_grammar.specs.declared.piece.Sym.{Sym}
use Rattle.pgql_grammar.specs.Pieces.{undoubled, inside, plain, chars_piece, piece_of, bytes_of, pieces}
use Rattle.pgql_forms.specs.WellFormed.{is_amount}
use Rattle.pgql_forms.proofs.Dates.{date_lies}

-- The number and the day of the piece lie in their ranges.
pub record Fair (x : Piece) : Type 0 where
  pub number : is_amount x.number ≡ true
  pub day : is_day x.day ≡ true

abbrev pub AllFair : List Piece → Type 0
AllFair ts = AllByRecursion Fair ts

-- both parts of a list
pub fair-parts : (u v : List Piece) → AllFair (u ++ v) → AllFair u × AllFair v
fair-parts [] v h = (tt, h)
fair-parts (x ∷ u) v h = let rest = fair-parts u v h.1 in ((h.0, rest.0), rest.1)

-- ---- one piece

amount_of : (k : ℕ) → k ≤ 9223372036854775807 → is_amount (pos k) ≡ true
amount_of k h = grind (arith, nat_tests, h)

fair-plain : (sort : Sym) (place : ℕ) (w : Text) → Fair (plain sort place w)
fair-plain sort place w = record { number = refl; day = refl }

fair-number : (sort : Sym) (place k : ℕ) (w : Text) → k ≤ 9223372036854775807 → Fair (record { sym = sort; place = place; text = w; number = pos k; day = pos 0 })
fair-number sort place k w h = record { number = amount_of k h; day = refl }

fair-chars : (place : ℕ) (w : Text) (day : Option ℤ) → ((z : ℤ) → day ≡ Some z → is_day z ≡ true) → Fair (chars_piece place w day)
fair-chars place w None h = record { number = refl; day = refl }
fair-chars place w (Some z) h = record { number = refl; day = h z refl }

fair-piece : (kind : TokenKind) (place : ℕ) (w behind : Text) → Spelled kind w behind → Fair (piece_of kind place w)
unfolding piece_of
fair-piece Keyword place w behind h = fair-plain _ place w
fair-piece Word place w behind h = fair-plain _ place w
fair-piece Quoted place w behind h = fair-plain _ place (inside w)
fair-piece Number place w behind h = fair-number _ place (decimal w) [] h.fits
fair-piece Chars place w behind h = fair-chars place (undoubled false (inside w)) (date_of (undoubled false (inside w))) (date_lies (undoubled false (inside w)))
fair-piece Sign place w behind h = fair-plain _ place []

-- ---- the pieces of a text

-- The bytes of a token's span are those that spell it.
bytes_are : (text front bytes behind : Text) (t : Token) → text ≡ front ++ (bytes ++ behind) → t.from ≡ length front → t.to ≡ t.from + length bytes → bytes_of text t ≡ bytes
bytes_are text front bytes behind t parts from to =
    let len : t.to - t.from ≡ length bytes = omega (arith, to) in
    let rest : drop t.from text ≡ bytes ++ behind = ap (λ n. drop n text) from ∙ ap (drop (length front)) parts ∙ drop-parts front (bytes ++ behind) in
    ap (λ n. take n (drop t.from text)) len ∙ ap (take (length bytes)) rest ∙ take-parts bytes behind

fair-stand : (found : List Token) (text front z : Text) (at to : ℕ) (rest : Text) → text ≡ front ++ z → at ≡ length front → Stand at z found to rest → AllFair (pieces text found)
fair-stand [] text front z at to rest parts place s = tt
fair-stand (t ∷ more) text front z at to rest parts place s =
    let gap : Text = s.0 in
    let bytes : Text = s.1 in
    let behind : Text = s.2 in
    let before : Text = front ++ gap in
    let here : text ≡ before ++ (bytes ++ behind) = parts ∙ ap (λ l. front ++ l) s.3 ∙ sym (append_assoc front gap (bytes ++ behind)) in
    let from : t.from ≡ length before = omega (arith, s.5, place, length-append front gap) in
    let mine : bytes_of text t ≡ bytes = bytes_are text before bytes behind t here from s.6 in
    let next : text ≡ (before ++ bytes) ++ behind = here ∙ sym (append_assoc before bytes behind) in
    let ends : t.to ≡ length (before ++ bytes) = omega (arith, s.6, from, length-append before bytes) in
    (subst (λ w. Fair (piece_of t.kind t.from w)) (sym mine) (fair-piece t.kind t.from bytes behind s.7), fair-stand more text (before ++ bytes) behind t.to to rest next ends s.8)

pub fair-text : (text : Text) (found : List Token) → tokens 0 0 text ≡ Ok found → AllFair (pieces text found)
fair-text text found e = fair-stand found text [] text 0 (length text) [] refl refl ((spelled text found).0 e)
