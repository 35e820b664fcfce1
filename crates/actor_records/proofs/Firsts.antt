-- The records before the first core records, by the numbers of the actors.
use Rattle.std.proofs.Common.{◌≡◌, ◌≢◌, ℕ, zero, suc, ◌+◌, ◌<◌, ◌≤◌, ◌⊎◌, inl, inr, Bool, true, false, List, [], ◌∷◌, ◌++◌, length, if◌then◌else◌, eqb, eq-eqb, ne_eqb, sym, refl, ap, ◌∙◌, arith}
use Rattle.std.specs.Prelude.{slice_index_or}
use Rattle.std.specs.List.{flat_map, range_with_len}
use Rattle.std.proofs.lemmas.List.{get_or_past}
use native.Mathlib.Decide.{ℕ_discrete}
use mathlib.Core.Logic.{dite}
use Rattle.actor_records.specs.declared.record.Record.{Record}
use Rattle.actor_records.specs.Records.{parts_of}
use Rattle.actor_records.specs.Walk.{locals}

-- a number below all of these
abbrev pub Below : ℕ → List ℕ → Type 0
Below w [] = Unit {0}
Below w (x ∷ xs) = (w < x) × Below w xs

-- each number is below all later ones
abbrev pub Rises : List ℕ → Type 0
Rises [] = Unit {0}
Rises (w ∷ ws) = Below w ws × Rises ws

abbrev pub has : ℕ → List ℕ → Bool
has k [] = false
has k (w ∷ ws) = if eqb w k then true else has k ws

pub not_both : (b : Bool) → b ≡ true → b ≡ false → ⊥
not_both b p q = let clash : true ≡ false = sym p ∙ q in absurd cc

pub has_here : (w : ℕ) (ws : List ℕ) → has w (w ∷ ws) ≡ true
has_here w ws = ap (λ (b : Bool). if b then true else has w ws) (eq-eqb w w refl)

pub has_else : (k w : ℕ) (ws : List ℕ) → w ≢ k → has k (w ∷ ws) ≡ has k ws
has_else k w ws p = ap (λ (b : Bool). if b then true else has k ws) (ne_eqb w k p)

pub has_not : (w : ℕ) (ws : List ℕ) → Below w ws → has w ws ≡ false
has_not w [] b = refl
has_not w (x ∷ xs) b = has_else w x xs (λ same. let less = b.0 in omega arith) ∙ has_not w xs b.1

below_range : (w a n : ℕ) → w < a → Below w (range_with_len a n)
below_range w a zero less = tt
below_range w a (suc n) less = (less, below_range w (a + 1) n (omega arith))

pub rises_range : (a n : ℕ) → Rises (range_with_len a n)
rises_range a zero = tt
rises_range a (suc n) = (below_range a (a + 1) n (omega arith), rises_range (a + 1) n)

has_range : (a n w : ℕ) → a ≤ w → w < a + n → has w (range_with_len a n) ≡ true
has_range a zero w low high = absurd (omega arith)
has_range a (suc n) w low high = dite (ℕ_discrete a w)
    (λ p. ap (λ x. has x (range_with_len a (suc n))) (sym p) ∙ has_here a (range_with_len (a + 1) n))
    (λ p. has_else w a (range_with_len (a + 1) n) p ∙ has_range (a + 1) n w (omega arith) (omega arith))

at_or_past : (m n : ℕ) → (m < n) ⊎ (n ≤ m)
at_or_past m zero = inr (omega arith)
at_or_past zero (suc n) = inl (omega arith)
at_or_past (suc m) (suc n) = elim (at_or_past m n) [ inl h ↦ inl (omega arith) | inr h ↦ inr (omega arith) ]

module _ {N R C A T : Type 0} where
  -- the records of these actors before their first core records
  abbrev pub firsts : List ℕ → (ℕ → List (Record N R C A T)) → List (Record N R C A T)
  firsts [] parts = []
  firsts (w ∷ ws) parts = locals (parts w) ++ firsts ws parts

  firsts_from : (a : ℕ) (rs : List (List (Record N R C A T))) (parts : ℕ → List (Record N R C A T)) → ((i : ℕ) → i < length rs → parts (a + i) ≡ slice_index_or rs i [])
      → firsts (range_with_len a (length rs)) parts ≡ flat_map locals rs
  firsts_from a [] parts are = refl
  firsts_from a (r ∷ rs) parts are =
      let start : a ≡ a + 0 = omega arith in
      let here : parts a ≡ r = ap parts start ∙ are 0 (omega arith) in
      let next : (i : ℕ) → i < length rs → parts ((a + 1) + i) ≡ slice_index_or rs i []
      = λ i less. let same : (a + 1) + i ≡ a + suc i = omega arith in ap parts same ∙ are (suc i) (omega arith) in
      (λ k. locals (here k) ++ firsts (range_with_len (a + 1) (length rs)) parts) ∙ ap (λ l. locals r ++ l) (firsts_from (a + 1) rs parts next)

  -- those of all actors, by their numbers
  pub firsts_all : (rs : List (List (Record N R C A T))) → firsts (range_with_len 1 (length rs)) (parts_of rs) ≡ flat_map locals rs
  firsts_all rs = firsts_from 1 rs (parts_of rs) (λ i less. let same : 1 + i ≡ suc i = omega arith in ap (parts_of rs) same)

  none_past : (rs : List (List (Record N R C A T))) (k : ℕ) → (k < length rs) ⊎ (length rs ≤ k) → has (suc k) (range_with_len 1 (length rs)) ≡ false → parts_of rs (suc k) ≡ []
  none_past rs k (inl less) absent = absurd (not_both (has (suc k) (range_with_len 1 (length rs))) (has_range 1 (length rs) (suc k) (omega arith) (omega arith)) absent)
  none_past rs k (inr past) absent = get_or_past rs k [] past

  -- who is no actor did nothing
  pub none_else : (rs : List (List (Record N R C A T))) (w : ℕ) → has w (range_with_len 1 (length rs)) ≡ false → parts_of rs w ≡ []
  none_else rs zero absent = refl
  none_else rs (suc k) absent = none_past rs k (at_or_past k (length rs)) absent
