-- A text with each doubled quote once, read by characters.
use Rattle.std.proofs.Common.{◌≡◌, ℕ, suc, ◌<◌, Bool, true, false, ◌&&◌, ◌==◌, if◌then◌else◌, List, [], ◌∷◌, ◌++◌, length, get_or, refl, sym, ap, ◌∙◌, arith, append_assoc, append-nil}
use Rattle.std.proofs.Math.Utf8.{encode}
use Rattle.std.specs.List.{AllByRecursion}
use Rattle.std.proofs.lemmas.Bool.{eqb-true, ne_eqb, eqb-false}
use Rattle.std.proofs.lemmas.Str.{encode_ascii, inside_one, length-encode, len_utf8_bounds}
use Rattle.pgql_grammar.specs.Pieces.{undoubled}

-- no quote is among the bytes
abbrev NoQuote : List ℕ → Type 0
NoQuote = AllByRecursion (λ b. (b == 39) ≡ false)

with_quote_before : (s : Bool) → (s && false) ≡ false
with_quote_before true = refl
with_quote_before false = refl

plain_first : (s : Bool) (b : ℕ) (z : List ℕ) → (b == 39) ≡ false → undoubled s (b ∷ z) ≡ b ∷ undoubled false z
plain_first s b z e =
    ap (λ (v : Bool). if s && v then undoubled false z else b ∷ undoubled v z) e ∙ ap (λ (v : Bool). if v then undoubled false z else b ∷ undoubled false z) (with_quote_before s)

plain_all : (bs z : List ℕ) → NoQuote bs → undoubled false (bs ++ z) ≡ bs ++ undoubled false z
plain_all [] z h = refl
plain_all (b ∷ bs) z h = plain_first false b (bs ++ z) h.0 ∙ ap (λ (l : List ℕ). b ∷ l) (plain_all bs z h.1)

plain_some : (s : Bool) (bs z : List ℕ) → 0 < length bs → NoQuote bs → undoubled s (bs ++ z) ≡ bs ++ undoubled false z
plain_some s [] z some h = absurd (omega arith)
plain_some s (b ∷ bs) z some h = plain_first s b (bs ++ z) h.0 ∙ ap (λ (l : List ℕ). b ∷ l) (plain_all bs z h.1)

each_no_quote : (bs : List ℕ) → ((k : ℕ) → k < length bs → (get_or bs k 0 == 39) ≡ false) → NoQuote bs
each_no_quote [] h = tt
each_no_quote (b ∷ bs) h = (h 0 (omega arith), each_no_quote bs (λ k less. h (suc k) (omega arith)))

no_quote_in : (c : ℕ) → (c ≡ 39 → ⊥) → NoQuote (encode c)
no_quote_in c other = each_no_quote (encode c) (λ k less. ne_eqb (get_or (encode c) k 0) 39 (λ e.
    other (inside_one c [] (encode c) k (sym (append-nil (encode c))) less (omega (arith, e)) ∙ e)))

some_bytes : (c : ℕ) → 0 < length (encode c)
some_bytes c = omega (arith, length-encode c, len_utf8_bounds c)

module _ (out z : List ℕ) (s : Bool) (c : ℕ) where
  -- a character that is no quote
  pub other_char : (c ≡ 39 → ⊥) → out ++ undoubled s (encode c ++ z) ≡ (out ++ encode c) ++ undoubled false z
  other_char h = ap (λ (l : List ℕ). out ++ l) (plain_some s (encode c) z (some_bytes c) (no_quote_in c h)) ∙ sym (append_assoc out (encode c) (undoubled false z))

  -- a first quote
  pub first_quote : c ≡ 39 → s ≡ false → out ++ undoubled s (encode c ++ z) ≡ (out ++ encode c) ++ undoubled true z
  first_quote e f = quote_read (ap encode e ∙ encode_ascii 39 (omega arith)) f
    where
      quote_read : encode c ≡ 39 ∷ [] → s ≡ false → out ++ undoubled s (encode c ++ z) ≡ (out ++ encode c) ++ undoubled true z
      quote_read h i =
          ap (λ (l : List ℕ). out ++ undoubled s (l ++ z)) h ∙ ap (λ (v : Bool). out ++ undoubled v (39 ∷ z)) i ∙ sym (append_assoc out (39 ∷ []) (undoubled true z))
          ∙ ap (λ (l : List ℕ). (out ++ l) ++ undoubled true z) (sym h)

  -- a second quote
  pub second_quote : c ≡ 39 → s ≡ true → out ++ undoubled s (encode c ++ z) ≡ out ++ undoubled false z
  second_quote e f =
      ap (λ (l : List ℕ). out ++ undoubled s (l ++ z)) (ap encode e ∙ encode_ascii 39 (omega arith)) ∙ ap (λ (v : Bool). out ++ undoubled v (39 ∷ z)) f

-- a character that is read
pub char_read : (out z : List ℕ) (s : Bool) (c : ℕ) → (s && (c == 39)) ≡ false → out ++ undoubled s (encode c ++ z) ≡ (out ++ encode c) ++ undoubled (c == 39) z
char_read out z s c e = by (c == 39) refl s refl e
  where
    by : (v : Bool) → (c == 39) ≡ v → (t : Bool) → s ≡ t → (t && v) ≡ false → out ++ undoubled s (encode c ++ z) ≡ (out ++ encode c) ++ undoubled v z
    by false h t i f = other_char out z s c (eqb-false c 39 h)
    by true h true i f = absurd cc
    by true h false i f = first_quote out z s c (eqb-true c 39 h) i
