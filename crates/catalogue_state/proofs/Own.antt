-- A call of another caller keeps a session.
use Rattle.std.proofs.Common.{◌≡◌, ◌≢◌, ℕ, List, [], ◌∷◌, ◌++◌, Bool, true, false, refl, ap, ◌∙◌, arith, eqb}
use Rattle.std.specs.Prelude.{find}
use Rattle.std.proofs.lemmas.Bool.Decides.{nat_tests}
use Rattle.turn_hall.specs.declared.entry.Entry.{Entry}
use Rattle.turn_hall.specs.Replay.{replay, entries_of}
use Rattle.catalogue_state.specs.declared.ask.Ask.{Ask}
use Rattle.catalogue_state.specs.declared.ask.Ask.TheVariants.{OpenSession, CloseSession, Peek, Place, Derive, Publish, Unpublish, Get, Checkout, Append, Release, Columns, Lines}
use Rattle.catalogue_state.specs.declared.reply.Reply.{Reply}
use Rattle.catalogue_state.specs.declared.parts.Session.{Session}
use Rattle.catalogue_state.specs.State.{State, change_first, drop_first, of_who, session_of, holds, held_in}
use Rattle.catalogue_state.specs.Step.{Answer, step}
use Rattle.catalogue_state.proofs.Keeping.{unless_keeps, given_keeps, unless_refused_keeps}
use Rattle.catalogue_state.proofs.Others.{find_change_other, find_drop_other}

module _ (who other : ℕ) (differ : other ≢ who) where
  apart : (s : Session) → of_who other s ≡ true → of_who who s ≡ true → ⊥
  apart s p q = differ (grind (arith, nat_tests))

  not_of : (s : Session) → of_who other s ≡ true → of_who who s ≡ false
  not_of s p = grind (arith, nat_tests)

  changed : (ss : List Session) (f : Session → Session) → ((s : Session) → (f s).who ≡ s.who) → find (of_who who) (change_first (of_who other) f ss) ≡ find (of_who who) ss
  changed ss f same = find_change_other (of_who other) (of_who who) f ss apart (λ s p. ap (λ x. eqb x who) (same s) ∙ not_of s p)

  closed : (ss : List Session) → find (of_who who) (drop_first (of_who other) ss) ≡ find (of_who who) ss
  closed ss = find_drop_other (of_who other) (of_who who) ss apart

  opened_at : (s : Session) (ss : List Session) (b : Bool) → of_who who s ≡ b
      → find (of_who who) (ss ++ record { who = other; held = [] } ∷ []) ≡ find (of_who who) ss
      → find (of_who who) (s ∷ ss ++ record { who = other; held = [] } ∷ []) ≡ find (of_who who) (s ∷ ss)
  opened_at s ss true e ih = rw e refl
  opened_at s ss false e ih = rw e ih

  opened : (ss : List Session) → find (of_who who) (ss ++ record { who = other; held = [] } ∷ []) ≡ find (of_who who) ss
  opened [] = let ne : eqb other who ≡ false = grind (arith, nat_tests) in rw ne refl
  opened (s ∷ ss) = opened_at s ss (of_who who s) refl (opened ss)

  abbrev Kept : State → Answer → Type 0
  Kept m a = session_of a.1 who ≡ session_of m who

  pub session_stays : (m : State) (ask : Ask) → session_of (step m other ask).1 who ≡ session_of m who
  session_stays m OpenSession = unless_keeps (Kept m) m (λ r. refl) _ _ _ (unless_keeps (Kept m) m (λ r. refl) _ _ _ (opened m.sessions))
  session_stays m CloseSession = given_keeps (Kept m) m (λ r. refl) _ _ _ (λ s is. closed m.sessions)
  session_stays m (Peek source) = given_keeps (Kept m) m (λ r. refl) _ _ _ (λ s is. refl)
  session_stays m (Place name source front) =
      given_keeps (Kept m) m (λ r. refl) _ _ _ (λ s is. given_keeps (Kept m) m (λ r. refl) _ _ _ (λ from js.
      unless_keeps (Kept m) m (λ r. refl) _ _ _ (unless_keeps (Kept m) m (λ r. refl) _ _ _ (unless_keeps (Kept m) m (λ r. refl) _ _ _
      (changed m.sessions _ (λ t. refl))))))
  session_stays m (Derive name base how) =
      given_keeps (Kept m) m (λ r. refl) _ _ _ (λ s is. given_keeps (Kept m) m (λ r. refl) _ _ _ (λ b js.
      unless_keeps (Kept m) m (λ r. refl) _ _ _ (unless_keeps (Kept m) m (λ r. refl) _ _ _ (unless_refused_keeps (Kept m) m (λ r. refl) _ _ (λ ks.
      changed m.sessions _ (λ t. refl))))))
  session_stays m (Publish name line keep threshold) =
      given_keeps (Kept m) m (λ r. refl) _ _ _ (λ s is. given_keeps (Kept m) m (λ r. refl) _ _ _ (λ h js. given_keeps (Kept m) m (λ r. refl) _ _ _ (λ source ks.
      unless_keeps (Kept m) m (λ r. refl) _ _ _ (unless_keeps (Kept m) m (λ r. refl) _ _ _ (changed m.sessions _ (λ t. refl))))))
  session_stays m (Unpublish line) =
      given_keeps (Kept m) m (λ r. refl) _ _ _ (λ s is. given_keeps (Kept m) m (λ r. refl) _ _ _ (λ l js. unless_keeps (Kept m) m (λ r. refl) _ _ _ (refl)))
  session_stays m (Get line name) =
      given_keeps (Kept m) m (λ r. refl) _ _ _ (λ s is. given_keeps (Kept m) m (λ r. refl) _ _ _ (λ l js. unless_keeps (Kept m) m (λ r. refl) _ _ _ (unless_keeps (Kept m) m (λ r. refl) _ _ _ (
      given_keeps (Kept m) m (λ r. refl) _ _ _ (λ snap ks. changed m.sessions _ (λ t. refl))))))
  session_stays m (Checkout name target) =
      given_keeps (Kept m) m (λ r. refl) _ _ _ (λ s is. given_keeps (Kept m) m (λ r. refl) _ _ _ (λ h js. given_keeps (Kept m) m (λ r. refl) _ _ _ (λ line ks.
      given_keeps (Kept m) m (λ r. refl) _ _ _ (λ l ls. given_keeps (Kept m) m (λ r. refl) _ _ _ (λ snap ns. changed m.sessions _ (λ t. refl))))))
  session_stays m (Append name changes) =
      given_keeps (Kept m) m (λ r. refl) _ _ _ (λ s is. given_keeps (Kept m) m (λ r. refl) _ _ _ (λ h js. given_keeps (Kept m) m (λ r. refl) _ _ _ (λ line ks.
      given_keeps (Kept m) m (λ r. refl) _ _ _ (λ l ls. unless_keeps (Kept m) m (λ r. refl) _ _ _ (given_keeps (Kept m) m (λ r. refl) _ _ _ (λ last ns.
      unless_keeps (Kept m) m (λ r. refl) _ _ _ (unless_refused_keeps (Kept m) m (λ r. refl) _ _ (λ os. refl))))))))
  session_stays m (Release name) =
      given_keeps (Kept m) m (λ r. refl) _ _ _ (λ s is. given_keeps (Kept m) m (λ r. refl) _ _ _ (λ h js. changed m.sessions _ (λ t. refl)))
  session_stays m Columns = refl
  session_stays m Lines = refl

  -- what another caller's call leaves of what a caller holds
  pub held_stays : (m : State) (ask : Ask) → holds (step m other ask).1 who ≡ holds m who
  held_stays m ask = ap held_in (session_stays m ask)

other_entries_at : (who : ℕ) (e : Entry Ask Reply) (es : List (Entry Ask Reply)) (b : Bool) → eqb e.who who ≡ b → entries_of who (e ∷ es) ≡ [] → (e.who ≢ who) × (entries_of who es ≡ [])
other_entries_at who e es true is none = let h = rw is at none in absurd (cc)
other_entries_at who e es false is none = (λ same. grind (arith, nat_tests), rw is at none)

-- a history without entries of a caller leaves what it holds
pub held_stays_along : (m : State) (who : ℕ) (es : List (Entry Ask Reply)) → entries_of who es ≡ [] → holds (replay step m es) who ≡ holds m who
held_stays_along m who [] none = refl
held_stays_along m who (e ∷ es) none =
    let parts = other_entries_at who e es (eqb e.who who) refl none in
    held_stays_along (step m e.who e.note).1 who es parts.1 ∙ held_stays who e.who parts.0 m e.note
