-- Two lists side by side, and chains of causes.
use Rattle.std.proofs.Common.{◌≡◌, ℕ, zero, suc, Bool, true, false, List, [], ◌∷◌, Option, Some, None, length, get_or, set, slice_get, replicate, if◌then◌else◌, refl, ap}
use Rattle.std.specs.List.{AllZip, list_any, zip}
use Rattle.graph_model.proofs.Rows.{or_false}

-- a chain of causes that gives none tells that no test held
pub no_cause : {A : Type 0} (b : Bool) (x : A) (o : Option A) → (if b then Some x else o) ≡ None → (b ≡ false) × (o ≡ None)
no_cause true x o e = cc
no_cause false x o e = (refl, e)

-- a cause whose test does not hold is passed over
pub passed_over : {A : Type 0} (b : Bool) (x : A) (r o : Option A) → b ≡ false → r ≡ o → r ≡ (if b then Some x else o)
passed_over true x r o e f = cc
passed_over false x r o e f = f

pub AllZip-set : {A B : Type 0} (R : A → B → Type 0) (xs : List A) (ys : List B) (i : ℕ) (y d : B) → AllZip R xs ys → ((x : A) → slice_get xs i ≡ Some x → R x (get_or ys i d) → R x y) → AllZip R xs (set ys i y)
AllZip-set R [] [] i y d h f = h
AllZip-set R [] (z ∷ ys) i y d h f = absurd h
AllZip-set R (x ∷ xs) [] i y d h f = absurd h
AllZip-set R (x ∷ xs) (z ∷ ys) zero y d h f = (f x refl h.0, h.1)
AllZip-set R (x ∷ xs) (z ∷ ys) (suc i) y d h f = (h.0, AllZip-set R xs ys i y d h.1 f)

-- the relation becomes another one where no pair passes a test
pub AllZip_where : {A B : Type 0} (R S : A → B → Type 0) (p : A × B → Bool) (xs : List A) (ys : List B) → list_any p (zip xs ys) ≡ false → ((x : A) (y : B) → p (x, y) ≡ false → R x y → S x y) → AllZip R xs ys → AllZip S xs ys
AllZip_where R S p [] [] e f h = h
AllZip_where R S p [] (y ∷ ys) e f h = absurd h
AllZip_where R S p (x ∷ xs) [] e f h = absurd h
AllZip_where R S p (x ∷ xs) (y ∷ ys) e f h =
    let parts = or_false (p (x, y)) (list_any p (zip xs ys)) e in
    (f x y parts.0 h.0, AllZip_where R S p xs ys parts.1 f h.1)

pub AllZip-weaker : {A B : Type 0} (R S : A → B → Type 0) (xs : List A) (ys : List B) → ((x : A) (y : B) → R x y → S x y) → AllZip R xs ys → AllZip S xs ys
AllZip-weaker R S [] [] f h = h
AllZip-weaker R S [] (z ∷ ys) f h = absurd h
AllZip-weaker R S (x ∷ xs) [] f h = absurd h
AllZip-weaker R S (x ∷ xs) (z ∷ ys) f h = (f x z h.0, AllZip-weaker R S xs ys f h.1)

pub AllZip-length : {A B : Type 0} (R : A → B → Type 0) (xs : List A) (ys : List B) → AllZip R xs ys → length xs ≡ length ys
AllZip-length R [] [] h = refl
AllZip-length R [] (z ∷ ys) h = absurd h
AllZip-length R (x ∷ xs) [] h = absurd h
AllZip-length R (x ∷ xs) (z ∷ ys) h = ap (λ n. suc n) (AllZip-length R xs ys h.1)

pub AllZip_empty : {A B : Type 0} (R : A → List B → Type 0) (xs : List A) → ((x : A) → R x []) → AllZip R xs (replicate (length xs) [])
AllZip_empty R [] f = tt
AllZip_empty R (x ∷ xs) f = (f x, AllZip_empty R xs f)
