-- The place of the first item that passes a test.
use Rattle.std.proofs.Common.{◌≡◌, ℕ, zero, suc, ◌+◌, ◌<◌, ◌≤◌, Bool, true, false, ◌||◌, not, List, [], ◌∷◌, ◌++◌, Option, Some, None, length, get_or, set, refl, ap, sym, ◌∙◌, arith, cond, map, count_by}
use Rattle.std.specs.List.{list_any, position, position_or_len}
use Rattle.std.specs.Prelude.{nat_lt, is_some}
use Rattle.std.proofs.lemmas.Bool.Decides.{nat_tests}
use Rattle.std.proofs.lemmas.List.{length-map, map-set, set-get_or, get_or-map, set_past, length_push}
use Rattle.graph_model.proofs.Rows.{first_within, none_counted, any_push_apart, any_last, any_push, count_cons}

some_if : (b : Bool) (n : ℕ) → b ≡ true → cond b (Some n) None ≡ Some n
some_if true n e = refl
some_if false n e = cc

none_if : (b : Bool) (n : ℕ) → b ≡ false → cond b (Some n) None ≡ None
none_if true n e = cc
none_if false n e = refl

-- what passes somewhere has a place
pub position_there : {X : Type 0} (p : X → Bool) (xs : List X) → list_any p xs ≡ true → position p xs ≡ Some (position_or_len p xs)
position_there p xs e =
    let within : position_or_len p xs < length xs = first_within p xs e in
    some_if _ _ (grind (arith, nat_tests))

length_by : (b any : Bool) (n m : ℕ) → (any ≡ false → n ≡ m) → (b || any) ≡ false → cond {A = ℕ} (not b) (1 + n) 0 ≡ suc m
length_by true any n m f e = cc
length_by false any n m f e = omega (arith, f e)

nowhere : {X : Type 0} (p : X → Bool) (xs : List X) → list_any p xs ≡ false → position_or_len p xs ≡ length xs
nowhere p [] e = refl
nowhere p (x ∷ xs) e = length_by (p x) (list_any p xs) _ _ (nowhere p xs) e

-- what passes nowhere has none
pub position_nowhere : {X : Type 0} (p : X → Bool) (xs : List X) → list_any p xs ≡ false → position p xs ≡ None
position_nowhere p xs e =
    let past : position_or_len p xs ≡ length xs = nowhere p xs e in
    none_if _ _ (grind (arith, nat_tests))

pub position_gone : {X : Type 0} (p : X → Bool) (xs : List X) → count_by p xs ≡ 0 → position p xs ≡ None
position_gone p xs e = position_nowhere p xs (none_counted p xs e)

some_any_by : {X : Type 0} (p : X → Bool) (xs : List X) (b : Bool) → list_any p xs ≡ b → is_some (position p xs) ≡ b
some_any_by p xs true e = ap is_some (position_there p xs e)
some_any_by p xs false e = ap is_some (position_nowhere p xs e)

pub position_any : {X : Type 0} (p : X → Bool) (xs : List X) → is_some (position p xs) ≡ list_any p xs
position_any p xs = some_any_by p xs (list_any p xs) refl

-- ---- items that pass alike

first_map : {X : Type 0} (p : X → Bool) (xs : List X) → position_or_len p xs ≡ position_or_len (λ b. b) (map p xs)
first_map p [] = refl
first_map p (x ∷ xs) = ap (λ n. cond {A = ℕ} (not (p x)) (1 + n) 0) (first_map p xs)

pub position_map : {X : Type 0} (p : X → Bool) (xs : List X) → position p xs ≡ position (λ b. b) (map p xs)
position_map p xs =
    ap (λ n. cond (nat_lt n (length xs)) (Some n) None) (first_map p xs)
    ∙ ap (λ m. cond (nat_lt (position_or_len (λ b. b) (map p xs)) m) (Some (position_or_len (λ b. b) (map p xs))) None) (sym (length-map xs p))

pub any_of_map : {X Y : Type 0} (q : Y → Bool) (f : X → Y) (xs : List X) → list_any q (map f xs) ≡ list_any (λ x. q (f x)) xs
any_of_map q f [] = refl
any_of_map q f (x ∷ xs) = ap (λ b. q (f x) || b) (any_of_map q f xs)

pub count_of_map : {X Y : Type 0} (q : Y → Bool) (f : X → Y) (xs : List X) → count_by q (map f xs) ≡ count_by (λ x. q (f x)) xs
count_of_map q f [] = refl
count_of_map q f (x ∷ xs) = omega (arith, count_cons q (f x) (map f xs), count_cons (λ y. q (f y)) x xs, count_of_map q f xs)

-- an item in whose place another one stands that passes alike
pub map_set_same : {X Y : Type 0} (f : X → Y) (xs : List X) (i : ℕ) (x d : X) → f x ≡ f (get_or xs i d) → map f (set xs i x) ≡ map f xs
map_set_same f [] i x d e = refl
map_set_same f (y ∷ xs) zero x d e = ap (λ z. z ∷ map f xs) e
map_set_same f (y ∷ xs) (suc i) x d e = ap (λ zs. f y ∷ zs) (map_set_same f xs i x d e)

pub position_set_same : {X : Type 0} (p : X → Bool) (xs : List X) (i : ℕ) (x d : X) → p x ≡ p (get_or xs i d) → position p (set xs i x) ≡ position p xs
position_set_same p xs i x d e =
    position_map p (set xs i x) ∙ ap (position (λ b. b)) (map_set_same p xs i x d e) ∙ sym (position_map p xs)

-- ---- an item more

push_by : (b any : Bool) (n m : ℕ) → (any ≡ true → n ≡ m) → (b || any) ≡ true → cond {A = ℕ} (not b) (1 + n) 0 ≡ cond {A = ℕ} (not b) (1 + m) 0
push_by true any n m f e = refl
push_by false any n m f e = ap (λ k. 1 + k) (f e)

first_push : {X : Type 0} (p : X → Bool) (xs : List X) (x : X) → list_any p xs ≡ true → position_or_len p (xs ++ x ∷ []) ≡ position_or_len p xs
first_push p [] x e = cc
first_push p (y ∷ xs) x e = push_by (p y) (list_any p xs) _ _ (first_push p xs x) e

last_by : (b any : Bool) (n m : ℕ) → (any ≡ false → n ≡ m) → (b || any) ≡ false → cond {A = ℕ} (not b) (1 + n) 0 ≡ suc m
last_by true any n m f e = cc
last_by false any n m f e = omega (arith, f e)

here_by : (b : Bool) (n : ℕ) → b ≡ true → cond {A = ℕ} (not b) (1 + n) 0 ≡ 0
here_by true n e = refl
here_by false n e = cc

first_last : {X : Type 0} (p : X → Bool) (xs : List X) (x : X) → list_any p xs ≡ false → p x ≡ true → position_or_len p (xs ++ x ∷ []) ≡ length xs
first_last p [] x e f = here_by (p x) 0 f
first_last p (y ∷ xs) x e f = last_by (p y) (list_any p xs) _ _ (λ h. first_last p xs x h f) e

pub position_last : {X : Type 0} (p : X → Bool) (xs : List X) (x : X) → list_any p xs ≡ false → p x ≡ true → position p (xs ++ x ∷ []) ≡ Some (length xs)
position_last p xs x e f = position_there p (xs ++ x ∷ []) (any_last p xs x f) ∙ ap Some (first_last p xs x e f)

apart_by : {X : Type 0} (p : X → Bool) (xs : List X) (x : X) (b : Bool) → list_any p xs ≡ b → p x ≡ false → position p (xs ++ x ∷ []) ≡ position p xs
apart_by p xs x true e f = position_there p (xs ++ x ∷ []) (any_push p xs x e) ∙ ap Some (first_push p xs x e) ∙ sym (position_there p xs e)
apart_by p xs x false e f = position_nowhere p (xs ++ x ∷ []) (any_push_apart p xs x f ∙ e) ∙ sym (position_nowhere p xs e)

pub position_push : {X : Type 0} (p : X → Bool) (xs : List X) (x : X) → p x ≡ false → position p (xs ++ x ∷ []) ≡ position p xs
position_push p xs x f = apart_by p xs x (list_any p xs) refl f
