-- maps of lists
use Rattle.std.proofs.Common.{◌≡◌, ℕ, zero, suc, pos, List, [], ◌∷◌, All, length, map, slice_index_or, refl, ap, ◌∙◌, arith}
use Rattle.std.specs.Int.RustNames.{unsigned_abs}
use Rattle.std.specs.List.{zip}
use Rattle.std.proofs.lemmas.List.Elements.{All-head, All-tail}

pub map_pairs : {X Y Z : Type 0} (f : Y → Z) (h : X → Y) (xs : List X) → map f (map h xs) ≡ map (λ x. f (h x)) xs
map_pairs f h [] = refl
map_pairs f h (x ∷ xs) = ap (λ ys. f (h x) ∷ ys) (map_pairs f h xs)

pub map_same : {X Y : Type 0} (f g : X → Y) (xs : List X) → ((x : X) → f x ≡ g x) → map f xs ≡ map g xs
map_same f g [] same = refl
map_same f g (x ∷ xs) same = ap (λ y. y ∷ map f xs) (same x) ∙ ap (λ ys. g x ∷ ys) (map_same f g xs same)

-- maps that agree on what a list has
pub map_same_on : {X Y : Type 0} (P : X → Type 0) (f g : X → Y) (xs : List X) → All P xs → ((x : X) → P x → f x ≡ g x) → map f xs ≡ map g xs
map_same_on P f g [] all same = refl
map_same_on P f g (x ∷ xs) all same =
    ap (λ y. y ∷ map f xs) (same x (All-head P x xs all)) ∙ ap (λ ys. g x ∷ ys) (map_same_on P f g xs (All-tail P x xs all) same)

-- the second of a pair
pub second_at : (ps : List (ℕ × ℕ)) (e : ℕ) → slice_index_or (map (λ (p : ℕ × ℕ). p.1) ps) e 0 ≡ (slice_index_or ps e (0, 0)).1
second_at [] e = refl
second_at (p ∷ ps) zero = refl
second_at (p ∷ ps) (suc e) = second_at ps e

pub first_at : (ps : List (ℕ × ℕ)) (e : ℕ) → slice_index_or (map (λ (p : ℕ × ℕ). p.0) ps) e 0 ≡ (slice_index_or ps e (0, 0)).0
first_at [] e = refl
first_at (p ∷ ps) zero = refl
first_at (p ∷ ps) (suc e) = first_at ps e

pub seconds-zip : (xs ys : List ℕ) → length ys ≡ length xs → map (λ (p : ℕ × ℕ). p.1) (zip xs ys) ≡ ys
seconds-zip [] [] h = refl
seconds-zip [] (y ∷ ys) h = absurd (omega arith)
seconds-zip (x ∷ xs) [] h = absurd (omega arith)
seconds-zip (x ∷ xs) (y ∷ ys) h = ap (λ zs. y ∷ zs) (seconds-zip xs ys (omega arith))

-- numbers that were kept as INTEGERs
pub numbers_back : (ns : List ℕ) → map unsigned_abs (map pos ns) ≡ ns
numbers_back [] = refl
numbers_back (n ∷ ns) = ap (λ ms. n ∷ ms) (numbers_back ns)
