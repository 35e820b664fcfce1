-- One bit of a word is set, and no other.
use Rattle.std.proofs.Common.{◌≡◌, ◌≢◌, ℕ, ◌*◌, ◌/◌, ◌%◌, ◌^◌, ◌<◌, true, List, length, get_or, set, bit_or, sym, ap, ◌∙◌, inl, inr, arith, w64}
use Rattle.std.proofs.lemmas.Bool.{cases_eq}
use Rattle.std.proofs.lemmas.List.{get_or-set_same, get_or-set_other}
use Rattle.std.proofs.lemmas.Nat.Bits.{bit_at_set_same, bit_at_set_other}
use Rattle.std.specs.Int.{bit_at}
use Rattle.std.specs.Prelude.{◌==◌}
use Rattle.scatter_buf.specs.Marks.{is_marked}

module _ (words : List ℕ) (place : ℕ) (within : place / 64 < length words) where
  -- the words with the bit of the place set, as the code computes them
  abbrev pub with_mark : List ℕ
  with_mark = set words (place / 64) (bit_or (get_or words (place / 64) 0) (1 * 2 ^ (place % 64) % 2 ^ 64))

  written : get_or with_mark (place / 64) 0 ≡ bit_or (get_or words (place / 64) 0) (1 * 2 ^ (place % 64) % 2 ^ 64)
  written = get_or-set_same words (place / 64) _ 0 within

  pub is_marked-same : is_marked with_mark place ≡ true
  is_marked-same = rw (written, bit_at_set_same w64 (get_or words (place / 64) 0) (place % 64) (omega arith))

  pub is_marked-other : (other : ℕ) → other ≢ place → is_marked with_mark other ≡ is_marked words other
  is_marked-other other apart = elim (cases_eq (other / 64) (place / 64)) [
    | inl word ↦ ap (λ (w : ℕ). bit_at w (other % 64) == 1) (ap (λ k. get_or with_mark k 0) word ∙ written)
        ∙ ap (λ (b : ℕ). b == 1) (bit_at_set_other w64 (get_or words (place / 64) 0) (place % 64) (omega arith) (other % 64) (λ bit. apart (omega (arith, word, bit))))
        ∙ ap (λ k. bit_at (get_or words k 0) (other % 64) == 1) (sym word)
    | inr words_apart ↦ ap (λ (w : ℕ). bit_at w (other % 64) == 1) (get_or-set_other words (place / 64) (other / 64) _ 0 words_apart)
  ]
