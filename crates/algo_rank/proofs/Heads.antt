-- heads, from their last
use Rattle.std.proofs.Common.{◌≡◌, ℕ, ◌+◌, ◌-◌, ◌<◌, ◌≤◌, inl, inr, List, [], ◌∷◌, ◌++◌, length, take, slice_index, ap, sym, ◌∙◌, subst, arith}
use Rattle.std.specs.Prelude.{Contains, AllPairs}
use Rattle.std.proofs.Math.Seq.{take-append_seam}
use Rattle.std.proofs.lemmas.Bool.{cases_lt}
use Rattle.std.proofs.lemmas.List.{take_all, take_more, get_or_default, length_push}
use Rattle.std.proofs.lemmas.List.Elements.{Contains-append_left, Contains-push_cases}
use Rattle.algo_rank.proofs.Labelling.{front_rises}

-- a list without its last
pub popped : (xs ys front : List ℕ) (h n : ℕ) → xs ≡ front ++ h ∷ [] → n ≡ length xs → ys ≡ take (n - 1) xs → ys ≡ front
popped xs ys front h n is long rest =
    let count : n - 1 ≡ length front = omega (arith, long, ap length is, length_push front h) in
    rest ∙ ap (take (n - 1)) is ∙ ap (λ k. take k (front ++ h ∷ [])) count ∙ take-append_seam front (h ∷ [])

-- where the last is past a place, those up to it are among the others
module _ (place : ℕ) (xs front : List ℕ) (h : ℕ) (is : xs ≡ front ++ h ∷ []) (past : place < h) where
  pub rise_popped : AllPairs (λ a b. a < b) xs → AllPairs (λ a b. a < b) front
  rise_popped rise = front_rises front h (subst (λ ys. AllPairs (λ a b. a < b) ys) is rise)

  pub some_popped : (k : ℕ) → Contains front k → Contains xs k
  some_popped k head = subst (λ ys. Contains ys k) (sym is) (Contains-append_left front (h ∷ []) k head)

  pub all_popped : (k : ℕ) → Contains xs k → k ≤ place → Contains front k
  all_popped k head low =
      elim (Contains-push_cases front h k (subst (λ ys. Contains ys k) is head)) [
        | inl old ↦ old
        | inr same ↦ absurd (omega (arith, same, low, past))
      ]

-- where the last is not past a place, none is
pub none_past : (xs : List ℕ) (place : ℕ) → AllPairs (λ a b. a < b) xs → (((front : List ℕ) × (h : ℕ) × (xs ≡ front ++ h ∷ []) × (place < h)) → ⊥) → (k : ℕ) → Contains xs k → k ≤ place
none_past xs place rise not k there =
    let n = length xs - 1 in
    let all : take (n + 1) xs ≡ xs = take_all (n + 1) xs (omega arith) in
    let end : xs ≡ take n xs ++ slice_index xs n ∷ [] = sym all ∙ take_more xs n 0 (omega (arith, there.1)) in
    let at : slice_index xs there.0 ≡ k = get_or_default xs there.0 0 k there.1 ∙ there.2 in
    elim (cases_lt place (slice_index xs n)) [
      | inl past ↦ absurd (not (take n xs, slice_index xs n, end, past))
      | inr low ↦
          elim (cases_lt there.0 n) [
            | inl before ↦ omega (arith, at, low, rise there.0 n 0 before (omega (arith, there.1)))
            | inr last ↦ (let same : there.0 ≡ n = omega (arith, last, there.1) in let is : slice_index xs n ≡ k = ap (slice_index xs) (sym same) ∙ at in omega (arith, is, low))
          ]
    ]
