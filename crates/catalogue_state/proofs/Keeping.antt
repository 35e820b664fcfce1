-- What holds of the answer to a call, where it holds of each refusal and of the last line.
use Rattle.std.proofs.Common.{◌≡◌, Option, Some, None, Bool, true, false, refl, sym}
use Rattle.catalogue_state.specs.declared.reply.Refusal.{Refusal}
use Rattle.catalogue_state.specs.State.{State}
use Rattle.catalogue_state.specs.Step.{Answer, refuse, unless, given, unless_refused}

module _ (P : Answer → Type 0) (m : State) (base : (r : Refusal) → P (refuse m r)) where
  pub unless_keeps : (b : Bool) (r : Refusal) (k : Answer) → P k → P (unless m b r k)
  unfolding unless
  unless_keeps true r k h = base r
  unless_keeps false r k h = h

  unless_then_at : (b : Bool) (r : Refusal) (k : Answer) → (b ≡ false → P k) → (c : Bool) → c ≡ b → P (unless m c r k)
  unfolding unless
  unless_then_at b r k h true e = base r
  unless_then_at b r k h false e = h (sym e)

  -- the same where what follows needs that the test does not hold
  pub unless_then_keeps : (b : Bool) (r : Refusal) (k : Answer) → (b ≡ false → P k) → P (unless m b r k)
  unless_then_keeps b r k h = unless_then_at b r k h b refl

  pub given_keeps : {X : Type 0} (o : Option X) (r : Refusal) (k : X → Answer) → ((x : X) → o ≡ Some x → P (k x)) → P (given m o r k)
  unfolding given
  given_keeps None r k h = base r
  given_keeps (Some x) r k h = h x refl

  pub unless_refused_keeps : (o : Option Refusal) (k : Answer) → (o ≡ None → P k) → P (unless_refused m o k)
  unfolding unless_refused
  unless_refused_keeps None k h = h refl
  unless_refused_keeps (Some r) k h = base r
