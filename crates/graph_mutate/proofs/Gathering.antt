-- items at places
use Rattle.std.proofs.Common.{◌≡◌, ℕ, zero, suc, ◌+◌, ◌<◌, ◌≤◌, List, [], ◌∷◌, ◌++◌, Option, Some, None, All, option_map, length, get_or, slice_get, map, take, refl, ap, sym, ◌∙◌, subst, arith, append_assoc}
use Rattle.std.specs.List.{cons_option, range_with_len}
use Rattle.std.proofs.lemmas.List.{take_more}
use Rattle.std.proofs.lemmas.List.Elements.{filter_map-append, All-push}
use Rattle.std.proofs.lemmas.Option.{slice_get-map}
use Rattle.graph_mutate.specs.Taken.{taken}

cons_map : {X Y : Type 0} (f : X → Y) (o : Option X) (xs : List X) → map f (cons_option o xs) ≡ cons_option (option_map f o) (map f xs)
cons_map f None xs = refl
cons_map f (Some x) xs = refl

pub map-taken : {X Y : Type 0} (f : X → Y) (xs : List X) (places : List ℕ) → map f (taken xs places) ≡ taken (map f xs) places
map-taken f xs [] = refl
map-taken f xs (p ∷ places) =
    cons_map f (slice_get xs p) (taken xs places) ∙ ap (λ ys. cons_option (option_map f (slice_get xs p)) ys) (map-taken f xs places)
    ∙ ap (λ o. cons_option o (taken (map f xs) places)) (sym (slice_get-map f xs p))

pub taken-append : {X : Type 0} (xs : List X) (ps qs : List ℕ) → taken xs (ps ++ qs) ≡ taken xs ps ++ taken xs qs
taken-append xs ps qs = filter_map-append (slice_get xs) ps qs

-- one place more
pub taken_push : {X : Type 0} (xs : List X) (places : List ℕ) (p : ℕ) (x : X) → slice_get xs p ≡ Some x → taken xs (places ++ p ∷ []) ≡ taken xs places ++ x ∷ []
taken_push xs places p x there = taken-append xs places (p ∷ []) ∙ ap (λ o. taken xs places ++ cons_option o []) there

-- a loop's step
pub taken_more : {X : Type 0} (xs : List X) (places : List ℕ) (i d : ℕ) (x : X) (before after : List X) → i < length places → slice_get xs (get_or places i d) ≡ Some x → before ≡ taken xs (take i places) → after ≡ before ++ x ∷ [] → after ≡ taken xs (take (i + 1) places)
taken_more xs places i d x before after within there so_far grown =
    grown ∙ ap (λ ys. ys ++ x ∷ []) so_far ∙ sym (taken_push xs (take i places) (get_or places i d) x there)
    ∙ ap (taken xs) (sym (take_more places i d within))

at_most : {X : Type 0} (o : Option X) (ys : List X) (n : ℕ) → length ys ≤ n → length (cons_option o ys) ≤ suc n
at_most None ys n e = omega arith
at_most (Some x) ys n e = omega arith

pub length-taken_le : {X : Type 0} (xs : List X) (places : List ℕ) → length (taken xs places) ≤ length places
length-taken_le xs [] = omega arith
length-taken_le xs (p ∷ places) = at_most (slice_get xs p) (taken xs places) (length places) (length-taken_le xs places)

one_more : {X : Type 0} (xs : List X) (p : ℕ) (ys : List X) → p < length xs → length (cons_option (slice_get xs p) ys) ≡ suc (length ys)
one_more [] p ys h = absurd (omega arith)
one_more (x ∷ xs) zero ys h = refl
one_more (x ∷ xs) (suc p) ys h = one_more xs p ys (omega arith)

-- as many as places, where all are within
pub length-taken : {X : Type 0} (xs : List X) (places : List ℕ) → All (λ p. p < length xs) places → length (taken xs places) ≡ length places
length-taken xs [] all = refl
length-taken xs (p ∷ places) all =
    one_more xs p (taken xs places) (all 0 p (omega arith)) ∙ ap (λ n. suc n) (length-taken xs places (λ i d l. all (suc i) d (omega arith)))

-- the items of the rest of a list
shifted : {X : Type 0} (x : X) (xs : List X) (a n : ℕ) → taken (x ∷ xs) (range_with_len (suc a) n) ≡ taken xs (range_with_len a n)
shifted x xs a zero = refl
shifted x xs a (suc n) =
    ap (λ b. cons_option (slice_get xs a) (taken (x ∷ xs) (range_with_len b n))) (let e : suc a + 1 ≡ suc (a + 1) = omega arith in e)
    ∙ ap (λ ys. cons_option (slice_get xs a) ys) (shifted x xs (a + 1) n)

-- all places give all items
pub taken_all : {X : Type 0} (xs : List X) → taken xs (range_with_len 0 (length xs)) ≡ xs
taken_all [] = refl
taken_all (x ∷ xs) = ap (λ ys. x ∷ ys) (ap (λ b. taken (x ∷ xs) (range_with_len b (length xs))) (let e : 0 + 1 ≡ suc 0 = omega arith in e) ∙ shifted x xs 0 (length xs) ∙ taken_all xs)

-- a loop's step behind other items
pub taken_onto : {X : Type 0} (xs : List X) (places : List ℕ) (i d : ℕ) (x : X) (old before after : List X) → i < length places → slice_get xs (get_or places i d) ≡ Some x → before ≡ old ++ taken xs (take i places) → after ≡ before ++ x ∷ [] → after ≡ old ++ taken xs (take (i + 1) places)
taken_onto xs places i d x old before after within there so_far grown =
    grown ∙ ap (λ ys. ys ++ x ∷ []) so_far ∙ append_assoc old (taken xs (take i places)) (x ∷ [])
    ∙ ap (λ ys. old ++ ys) (taken_more xs places i d x (taken xs (take i places)) (taken xs (take i places) ++ x ∷ []) within there refl refl)

pub within_push : (n : ℕ) (places after : List ℕ) (i : ℕ) → i < n → All (λ p. p < n) places → after ≡ places ++ i ∷ [] → All (λ p. p < n) after
within_push n places after i small all grown = subst (All (λ p. p < n)) (sym grown) (All-push (λ p. p < n) places i all small)
