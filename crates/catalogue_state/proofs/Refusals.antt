-- A refused call leaves the state.
use Rattle.std.proofs.Common.{◌≡◌, ℕ, refl}
use Rattle.catalogue_state.specs.declared.ask.Ask.{Ask}
use Rattle.catalogue_state.specs.declared.ask.Ask.TheVariants.{OpenSession, CloseSession, Peek, Place, Derive, Publish, Unpublish, Get, Checkout, Append, Release, Columns, Lines}
use Rattle.catalogue_state.specs.declared.reply.Reply.TheVariants.{Refused}
use Rattle.catalogue_state.specs.declared.reply.Refusal.{Refusal}
use Rattle.catalogue_state.specs.State.{State}
use Rattle.catalogue_state.specs.Step.{Answer, step}
use Rattle.catalogue_state.proofs.Keeping.{unless_keeps, given_keeps, unless_refused_keeps}

module _ (m : State) where
  abbrev Stays : Answer → Type 0
  Stays a = (r : Refusal) → a.0 ≡ Refused r → a.1 ≡ m

  left : (q r : Refusal) → Refused q ≡ Refused r → m ≡ m
  left q r e = refl

  pub refusal_stays : (who : ℕ) (ask : Ask) → Stays (step m who ask)
  refusal_stays who OpenSession = unless_keeps Stays m left _ _ _ (unless_keeps Stays m left _ _ _ (λ r e. absurd (cc)))
  refusal_stays who CloseSession = given_keeps Stays m left _ _ _ (λ s is r e. absurd (cc))
  refusal_stays who (Peek source) = given_keeps Stays m left _ _ _ (λ s is r e. refl)
  refusal_stays who (Place name source front) =
      given_keeps Stays m left _ _ _ (λ s is. given_keeps Stays m left _ _ _ (λ from js.
      unless_keeps Stays m left _ _ _ (unless_keeps Stays m left _ _ _ (unless_keeps Stays m left _ _ _ (λ r e. absurd (cc))))))
  refusal_stays who (Derive name base how) =
      given_keeps Stays m left _ _ _ (λ s is. given_keeps Stays m left _ _ _ (λ b js.
      unless_keeps Stays m left _ _ _ (unless_keeps Stays m left _ _ _ (unless_refused_keeps Stays m left _ _ (λ ks r e. absurd (cc))))))
  refusal_stays who (Publish name line keep threshold) =
      given_keeps Stays m left _ _ _ (λ s is. given_keeps Stays m left _ _ _ (λ h js. given_keeps Stays m left _ _ _ (λ source ks.
      unless_keeps Stays m left _ _ _ (unless_keeps Stays m left _ _ _ (λ r e. absurd (cc))))))
  refusal_stays who (Unpublish line) =
      given_keeps Stays m left _ _ _ (λ s is. given_keeps Stays m left _ _ _ (λ l js. unless_keeps Stays m left _ _ _ (λ r e. absurd (cc))))
  refusal_stays who (Get line name) =
      given_keeps Stays m left _ _ _ (λ s is. given_keeps Stays m left _ _ _ (λ l js. unless_keeps Stays m left _ _ _ (unless_keeps Stays m left _ _ _ (
      given_keeps Stays m left _ _ _ (λ snap ks r e. absurd (cc))))))
  refusal_stays who (Checkout name target) =
      given_keeps Stays m left _ _ _ (λ s is. given_keeps Stays m left _ _ _ (λ h js. given_keeps Stays m left _ _ _ (λ line ks.
      given_keeps Stays m left _ _ _ (λ l ls. given_keeps Stays m left _ _ _ (λ snap ns r e. absurd (cc))))))
  refusal_stays who (Append name changes) =
      given_keeps Stays m left _ _ _ (λ s is. given_keeps Stays m left _ _ _ (λ h js. given_keeps Stays m left _ _ _ (λ line ks.
      given_keeps Stays m left _ _ _ (λ l ls. unless_keeps Stays m left _ _ _ (given_keeps Stays m left _ _ _ (λ last ns.
      unless_keeps Stays m left _ _ _ (unless_refused_keeps Stays m left _ _ (λ os r e. absurd (cc)))))))))
  refusal_stays who (Release name) = given_keeps Stays m left _ _ _ (λ s is. given_keeps Stays m left _ _ _ (λ h js r e. absurd (cc)))
  refusal_stays who Columns = λ r e. refl
  refusal_stays who Lines = λ r e. refl
