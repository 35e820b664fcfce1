-- The place that the usage line tells.
use Rattle.std.proofs.Common.{◌≡◌, ℕ, List, [], ◌∷◌, None, Bool, true, false, IsSome, is_some, cond, codes, refl, sym, ap, arith, ◌∙◌}
use Rattle.std.proofs.lemmas.Bool.{false≢true}
use Rattle.pgx_shell.specs.Words.{form_of, action_of, Begins, IsUsage, usage_place}

-- a first word that asks for nothing begins no form
no_form : (word : List ℕ) (words : List (List ℕ)) → is_some (action_of word) ≡ false → IsSome (form_of (word ∷ words)) → ⊥
no_form word [] e s = false≢true (sym e ∙ s)
no_form word (other ∷ words) e s = false≢true s

-- nor do two words
no_second : (word other : List ℕ) (words : List (List ℕ)) → IsSome (form_of (word ∷ other ∷ words)) → ⊥
no_second word other words s = false≢true s

begins_nothing : Begins []
begins_nothing = (codes "once" ∷ [], refl)

usage_0 : (word : List ℕ) (words : List (List ℕ)) → is_some (action_of word) ≡ false → IsUsage (word ∷ words) 0
usage_0 word words e = record {
  within = omega arith;
  begins = begins_nothing;
  no_further = λ l b. no_form word b.0 e b.1;
}

usage_1 : (word other : List ℕ) (words : List (List ℕ)) → is_some (action_of word) ≡ true → IsUsage (word ∷ other ∷ words) 1
usage_1 word other words e = record {
  within = omega arith;
  begins = ([], e);
  no_further = λ l b. no_second word other b.0 b.1;
}

-- a test, with what it says
at_test : (b : Bool) (P : Bool → Type 0) → (b ≡ true → P true) → (b ≡ false → P false) → P b
at_test true P on off = on refl
at_test false P on off = off refl

form_none : (word : List ℕ) → is_some (action_of word) ≡ true → form_of (word ∷ []) ≡ None → ⊥
form_none word e none = false≢true (sym (ap is_some none) ∙ e)

-- the computed place is the place
pub usage_law : (words : List (List ℕ)) → form_of words ≡ None → IsUsage words (usage_place words)
usage_law [] none = record {
  within = omega arith;
  begins = begins_nothing;
  no_further = λ l b. absurd (omega arith);
}
usage_law (word ∷ []) none =
    at_test (is_some (action_of word)) (λ b. IsUsage (word ∷ []) (cond b 1 0)) (λ e. absurd (form_none word e none)) (λ e. usage_0 word [] e)
usage_law (word ∷ other ∷ words) none =
    at_test (is_some (action_of word)) (λ b. IsUsage (word ∷ other ∷ words) (cond b 1 0)) (λ e. usage_1 word other words e) (λ e. usage_0 word (other ∷ words) e)
