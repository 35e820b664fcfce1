-- One view changes: what becomes of the lists of its parts, and of what each view keeps.
use Rattle.std.proofs.Common.{◌≡◌, ◌≢◌, ℕ, zero, suc, ◌+◌, ◌<◌, ◌≤◌, List, [], ◌∷◌, ◌++◌, map, length, get_or, set, sym, refl, ap, ◌∙◌, subst, ⊎_elim, arith}
use mathlib.Core.Option.{some, some-injective, some-ne-none}
use lib.ListN.{get_elem?}
use Rattle.atomic_table.proofs.Lists.{at_set, set_again, at_map}
use Rattle.turn_hall.proofs.Indexed.{map_set}
use Rattle.turn_hall.specs.Rule.{total}

module _ {A B : Type 0} (f : A → B) where
  pub same_map : (l : List A) (i : ℕ) (a b : A) → get_elem? l i ≡ some a → f b ≡ f a → map f (set l i b) ≡ map f l
  same_map l i a b at e = map_set f l i b ∙ set_again (map f l) i (f b) (at_map f l i a at ∙ ap some (sym e))

  pub from_map : (l : List A) (i : ℕ) (b : B) → get_elem? (map f l) i ≡ some b → (a : A) × (get_elem? l i ≡ some a) × (f a ≡ b)
  from_map [] i b e = absurd (some-ne-none b (sym e))
  from_map (x ∷ xs) zero b e = (x, refl, some-injective (f x) b e)
  from_map (x ∷ xs) (suc i) b e = from_map xs i b e

  pub map_end : (l : List A) (a : A) → map f (l ++ a ∷ []) ≡ map f l ++ f a ∷ []
  map_end [] a = refl
  map_end (x ∷ xs) a = λ k. f x ∷ map_end xs a k

module _ {A : Type 0} where
  pub each_set : (P Q : A → Type 0) (l : List A) (i : ℕ) (a : A) → ((j : ℕ) (b : A) → get_elem? l j ≡ some b → P b) → ((j : ℕ) (b : A) → j ≢ i → get_elem? l j ≡ some b → P b → Q b) → Q a
      → (j : ℕ) (b : A) → get_elem? (set l i a) j ≡ some b → Q b
  each_set P Q l i a p go q j b e = ⊎_elim (λ here. subst Q here.1 q) (λ else. go j b else.0 else.1 (p j b else.1)) (at_set l i j a b e)

at_word : (ws : List ℕ) (i : ℕ) → i < length ws → get_elem? ws i ≡ some (get_or ws i 0)
at_word [] i h = absurd (omega arith)
at_word (x ∷ xs) zero h = refl
at_word (x ∷ xs) (suc i) h = at_word xs i (omega arith)

pub same_word : (ws : List ℕ) (i : ℕ) → i < length ws → set ws i (get_or ws i 0) ≡ ws
same_word ws i h = set_again ws i (get_or ws i 0) (at_word ws i h)

pub total_set : (l : List ℕ) (i a b : ℕ) → get_elem? l i ≡ some a → total (set l i b) + a ≡ total l + b
total_set [] i a b e = absurd (some-ne-none a (sym e))
total_set (x ∷ xs) zero a b e = let p = some-injective x a e in omega arith
total_set (x ∷ xs) (suc i) a b e = let p = total_set xs i a b e in omega arith

pub total_end : (l : List ℕ) (a : ℕ) → total (l ++ a ∷ []) ≡ total l + a
total_end [] a = omega arith
total_end (x ∷ xs) a = let p = total_end xs a in omega arith

pub total_at : (l : List ℕ) (i a : ℕ) → get_elem? l i ≡ some a → a ≤ total l
total_at [] i a e = absurd (some-ne-none a (sym e))
total_at (x ∷ xs) zero a e = let p = some-injective x a e in omega arith
total_at (x ∷ xs) (suc i) a e = let p = total_at xs i a e in omega arith
