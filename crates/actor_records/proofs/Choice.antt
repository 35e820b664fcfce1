-- Facts that a test chooses between, and functions changed at one number.
use Rattle.std.proofs.Common.{◌≡◌, ◌≢◌, ℕ, Bool, true, false, if◌then◌else◌, eqb, eq-eqb, ne_eqb, sym, ap, subst, refl}
use Rattle.std.proofs.lemmas.Bool.{eqb-false}
use Rattle.std.specs.Bool.{MatchBool}
use Rattle.actor_records.specs.Records.{updated}

-- from either fact
pub from_either : (b : Bool) {P Q G : Type 0} → (P → G) → (Q → G) → MatchBool b P Q → G
from_either true f g x = f x
from_either false f g x = g x

-- from either fact, knowing the test
pub by_test : (b : Bool) {P Q G : Type 0} → (b ≡ true → P → G) → (b ≡ false → Q → G) → MatchBool b P Q → G
by_test true f g x = f refl x
by_test false f g x = g refl x

-- each fact turned into another
pub either_turned : (b : Bool) {P Q P' Q' : Type 0} → (P → P') → (Q → Q') → MatchBool b P Q → MatchBool b P' Q'
either_turned true f g x = f x
either_turned false f g x = g x

-- the fact at a test that is known
pub choose_first : {b : Bool} {P : Type 0} (Q : Type 0) → b ≡ true → P → MatchBool b P Q
choose_first {b} {P} Q t x = subst (λ c. MatchBool c P Q) (sym t) x

pub choose_second : {b : Bool} (P : Type 0) {Q : Type 0} → b ≡ false → Q → MatchBool b P Q
choose_second {b} P {Q} t x = subst (λ c. MatchBool c P Q) (sym t) x

pub different : (k w : ℕ) → eqb k w ≡ false → k ≢ w
different k w t = eqb-false k w t

module _ {X : Type 0} (f : ℕ → X) where
  pub updated_at : (k w : ℕ) (x : X) → k ≡ w → updated f k x w ≡ x
  updated_at k w x same = ap (λ (b : Bool). if b then x else f w) (eq-eqb k w same)

  pub updated_here : (k : ℕ) (x : X) → updated f k x k ≡ x
  updated_here k x = updated_at k k x refl

  pub updated_else : (k w : ℕ) (x : X) → k ≢ w → updated f k x w ≡ f w
  updated_else k w x other = ap (λ (b : Bool). if b then x else f w) (ne_eqb k w other)
