-- The names of open sources differ, since those of the script do.
use Rattle.std.proofs.Common.{◌≡◌, ◌≢◌, ◌∙◌, refl, sym, ap, ℕ, suc, ◌+◌, ◌<◌, ◌≤◌, Bool, true, false, List, [], ◌∷◌, length, map, get_or, arith, count_by}
use Rattle.std.specs.Prelude.{AllPairs, cond}
use Rattle.std.specs.Str.{bytes_eq}
use Rattle.std.proofs.lemmas.Slice.Eq.{bytes_eq-Decides}
use Rattle.graph_model.proofs.Rows.{count_cons}
use Rattle.catalogue_state.specs.Bound.{NamesDiffer}
use Rattle.catalogue_state.specs.declared.parts.SourceData.{SourceData}
use Rattle.script_read.specs.declared.script.SourceText.{SourceText}
use Rattle.source_open.specs.Opening.{names_of, opened_names}

module _ (n : List ℕ) where
  abbrev is_named : List ℕ → Bool
  is_named m = bytes_eq m n

  abbrev names : List SourceText → List (List ℕ)
  names sources = map (λ s. s.name) sources

  named_is : (m : List ℕ) → is_named m ≡ true → m ≡ n
  named_is m h = (bytes_eq-Decides m n).0 h

  none_more : (b : Bool) (all rest : ℕ) → all ≡ cond {A = ℕ} b 1 0 + rest → (b ≡ true → ⊥) → rest ≡ 0 → all ≡ 0
  none_more true all rest cons other none = absurd (other refl)
  none_more false all rest cons other none = omega arith

  -- none of the sources has this name
  none_named : (sources : List SourceText) → ((k : ℕ) (d : SourceText) → k < length sources → (get_or sources k d).name ≢ n) → count_by is_named (names sources) ≡ 0
  none_named [] h = refl
  none_named (s ∷ ss) h =
      none_more (is_named s.name) (count_by is_named (names (s ∷ ss))) (count_by is_named (names ss)) (count_cons is_named s.name (names ss))
      (λ e. h 0 s (omega arith) (named_is s.name e)) (none_named ss (λ k d within. h (suc k) d (omega arith)))

  once_more : (b : Bool) (all rest : ℕ) → all ≡ cond {A = ℕ} b 1 0 + rest → (b ≡ true → rest ≡ 0) → rest ≤ 1 → all ≤ 1
  once_more true all rest cons only few = let none = only refl in omega arith
  once_more false all rest cons only few = omega arith

  -- at most one of the sources has it
  named_once : (sources : List SourceText) → AllPairs (λ s t. s.name ≢ t.name) sources → count_by is_named (names sources) ≤ 1
  named_once [] h = let none : count_by is_named [] ≡ 0 = refl in omega arith
  named_once (s ∷ ss) h =
      once_more (is_named s.name) (count_by is_named (names (s ∷ ss))) (count_by is_named (names ss)) (count_cons is_named s.name (names ss))
      (λ e. none_named ss (λ k d within other. h 0 (suc k) d (omega arith) (omega arith) (named_is s.name e ∙ sym other)))
      (named_once ss (λ i j d before within. h (suc i) (suc j) d (omega arith) (omega arith)))

  -- a count by names is a count of names
  counts_names : (sources : List SourceData) → count_by (λ d. bytes_eq d.name n) sources ≡ count_by is_named (map (λ d. d.name) sources)
  counts_names [] = refl
  counts_names (d ∷ ds) =
      count_cons (λ d. bytes_eq d.name n) d ds ∙ ap (λ k. cond {A = ℕ} (is_named d.name) 1 0 + k) (counts_names ds)
      ∙ sym (count_cons is_named d.name (map (λ d. d.name) ds))

pub names_differ : (sources : List SourceText) (out : List SourceData) → AllPairs (λ s t. s.name ≢ t.name) sources → opened_names out ≡ names_of sources → NamesDiffer out
names_differ sources out differ same_names n =
    let same = counts_names n out ∙ ap (count_by (λ m. bytes_eq m n)) same_names in
    let once = named_once n sources differ in
    omega arith
