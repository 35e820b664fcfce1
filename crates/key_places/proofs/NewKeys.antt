-- A key that stands nowhere, put at a place.
use Rattle.std.proofs.Common.{◌≡◌, ℕ, ℤ, Bool, true, false, Option, Some, None, is_some, cond, refl, sym, ap, ◌∙◌}
use Rattle.std.specs.Option.{option_or}
use Rattle.std.specs.Ordering.{int_eq}
use Rattle.std.proofs.lemmas.Bool.Decides.{Decides-int_eq}

none_from : (o : Option ℕ) → is_some o ≡ false → o ≡ None
none_from None e = refl
none_from (Some place) e = cc

or_none : (o : Option ℕ) → o ≡ option_or o None
or_none None = refl
or_none (Some place) = refl

put_by : (now : ℤ → Option ℕ) (key k : ℤ) (place : ℕ) (b : Bool) → int_eq key k ≡ b → now key ≡ None → cond b (Some place) (now k) ≡ option_or (now k) (cond b (Some place) None)
put_by now key k place true e none = sym (ap (λ o. option_or o (Some place)) (sym (ap now ((Decides-int_eq key k).0 e)) ∙ none))
put_by now key k place false e none = or_none (now k)

pub put_new : (now new : ℤ → Option ℕ) (key : ℤ) (place : ℕ) → is_some (now key) ≡ false → ((k : ℤ) → new k ≡ cond (int_eq key k) (Some place) (now k)) → (k : ℤ) → new k ≡ option_or (now k) (cond (int_eq key k) (Some place) None)
put_new now new key place absent puts k = puts k ∙ put_by now key k place (int_eq key k) refl (none_from (now key) absent)
