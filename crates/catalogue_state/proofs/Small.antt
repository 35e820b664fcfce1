-- Snapshots in use have at most 2,208 slots, as opening graphs have.
use Rattle.std.proofs.Common.{◌≡◌, ℕ, ◌≤◌, List, [], ◌∷◌, ◌++◌, inl, inr, Some, None, refl, sym, ap, subst, arith, length}
use Rattle.std.specs.Prelude.{take, Contains}
use Rattle.std.proofs.lemmas.List.Elements.{Contains-append_cases}
use Rattle.graph_slots.specs.Slots.{slots}
use Rattle.graph_slots.proofs.More.{schema_stays}
use Rattle.catalogue_state.specs.declared.ask.Ask.{Ask}
use Rattle.catalogue_state.specs.declared.ask.Ask.TheVariants.{OpenSession, CloseSession, Peek, Place, Derive, Publish, Unpublish, Get, Checkout, Append, Release, Columns, Lines}
use Rattle.catalogue_state.specs.declared.ask.How.{How}
use Rattle.catalogue_state.specs.declared.ask.How.TheVariants.{Changes}
use Rattle.catalogue_state.specs.declared.reply.Refusal.{Refusal}
use Rattle.catalogue_state.specs.declared.parts.Source.{Source}
use Rattle.catalogue_state.specs.declared.parts.Snap.{Snap}
use Rattle.catalogue_state.specs.declared.parts.Line.{Line}
use Rattle.catalogue_state.specs.declared.parts.Held.{Held}
use Rattle.catalogue_state.specs.declared.parts.Session.{Session}
use Rattle.catalogue_state.specs.State.{Name, State, of_who, named, from_source, from_line, session_of, held_of, change_first, drop_first, roots}
use Rattle.catalogue_state.specs.Step.{Answer, step, placed, derived, hold_more, let_go, private_graph, pin, to_pin, to_snap, pin_as, move_to, with_latest, kept_count}
use Rattle.catalogue_state.specs.Bound.{opening, HasSmall}
use Rattle.catalogue_state.proofs.Keeping.{unless_keeps, given_keeps, unless_refused_keeps}
use Rattle.catalogue_state.proofs.Lists.{Each, of_find, here, cases, in_none, in_drop, each_none, each_cons, each_changed, each_found, each_dropped, each_push}
use Rattle.catalogue_state.proofs.Latest.{of_latest, of_target}
use Rattle.catalogue_state.proofs.Roots.{InLines, InSessions, each_root, in_lines, in_sessions}
use Rattle.catalogue_state.proofs.Deriving.{slots_derived}

-- a snapshot within the limit of slots
abbrev pub IsSmall : Snap → Type 0
IsSmall b = length (slots b.shot.schema) ≤ 2208

-- opening graphs and snapshots in use are
pub record AreSmall (m : State) : Type 0 where
  pub sources : HasSmall m
  pub roots : Each IsSmall (roots m)

-- before any call none is in use
pub opening_small : (m : State) → opening m ≡ m → HasSmall m → AreSmall m
opening_small m first small = record {
  sources = small;
  roots = λ b h. absurd (in_none b (subst (λ (s : State). Contains (roots s) b) (sym first) h));
}

small_placed : (m : State) (from : Source) (front : ℕ) → length (slots from.data.opening.schema) ≤ 2208 → IsSmall (placed m from front)
small_placed m from front few = omega (arith, few, ap (λ s. length (slots s)) (schema_stays from.data.opening (take front from.data.changes)))

small_derived : (m : State) (base : Snap) (how : How) → IsSmall base → IsSmall (derived m base how)
small_derived m base how few = omega (arith, few, slots_derived how base.shot)

-- the last of a list and one more
small_latest : (snap : Snap) (l : Line) → IsSmall snap → Each IsSmall l.snaps → Each IsSmall (with_latest snap l).snaps
small_latest snap l new old b h = each_push IsSmall l.snaps snap old new b (in_drop _ (l.snaps ++ snap ∷ []) b h)

module _ (m : State) (small : AreSmall m) where
  ls : InLines IsSmall m.lines
  ls = in_lines IsSmall m.lines m.sessions small.roots

  ss : InSessions IsSmall m.sessions
  ss = in_sessions IsSmall m.lines m.sessions small.roots

  -- a graph that a caller holds
  pub held_small : (who : ℕ) (s : Session) (name : Name) (h : Held) → session_of m who ≡ Some s → held_of s name ≡ Some h → IsSmall h.snap
  held_small who s name h is has = ss s (of_find (of_who who) m.sessions s is) h (of_find (named name) s.held h has)

  all_small : (n : State) → n.sources ≡ m.sources → InLines IsSmall n.lines → InSessions IsSmall n.sessions → AreSmall n
  all_small n same lines sessions = record {
    sources = λ s h. small.sources s (subst (λ l. Contains l s) same h);
    roots = each_root IsSmall n.lines n.sessions lines sessions;
  }

  abbrev Small : Answer → Type 0
  Small a = AreSmall a.1

  abbrev OfHeld : Held → Type 0
  OfHeld h = IsSmall h.snap

  abbrev OfSession : Session → Type 0
  OfSession s = Each OfHeld s.held

  abbrev OfLine : Line → Type 0
  OfLine l = Each IsSmall l.snaps

  kept : (r : Refusal) → AreSmall m
  kept r = small

  holds_more : (who : ℕ) (h : Held) → IsSmall h.snap → Each OfSession (change_first (of_who who) (hold_more h) m.sessions)
  holds_more who h few = each_changed OfSession (of_who who) (hold_more h) (λ s all. each_push OfHeld s.held h all few) m.sessions ss

  pub step_small : (who : ℕ) (ask : Ask) → AreSmall (step m who ask).1
  step_small who OpenSession =
      unless_keeps Small m kept _ _ _ (unless_keeps Small m kept _ _ _ (all_small _ refl ls (each_push OfSession m.sessions _ ss (each_none OfHeld))))
  step_small who CloseSession = given_keeps Small m kept _ _ _ (λ s is. all_small _ refl ls (each_dropped OfSession (of_who who) m.sessions ss))
  step_small who (Peek source) = given_keeps Small m kept _ _ _ (λ s is. small)
  step_small who (Place name source front) =
      given_keeps Small m kept _ _ _ (λ s is. given_keeps Small m kept _ _ _ (λ from js.
      unless_keeps Small m kept _ _ _ (unless_keeps Small m kept _ _ _ (unless_keeps Small m kept _ _ _
      (all_small _ refl ls (holds_more who (private_graph name (Some source) (placed m from front)) (small_placed m from front (small.sources from (of_find (from_source source) m.sources from js)))))))))
  step_small who (Derive name base how) =
      given_keeps Small m kept _ _ _ (λ s is. given_keeps Small m kept _ _ _ (λ b js.
      unless_keeps Small m kept _ _ _ (unless_keeps Small m kept _ _ _ (unless_refused_keeps Small m kept _ _ (λ ks.
      all_small _ refl ls (holds_more who (private_graph name None (derived m b.snap how)) (small_derived m b.snap how (held_small who s base b is js))))))))
  step_small who (Publish name line keep threshold) =
      given_keeps Small m kept _ _ _ (λ s is. given_keeps Small m kept _ _ _ (λ h js. given_keeps Small m kept _ _ _ (λ source ks.
      unless_keeps Small m kept _ _ _ (unless_keeps Small m kept _ _ _ (all_small _ refl
      (each_push OfLine m.lines _ ls (each_cons IsSmall h.snap [] (held_small who s name h is js) (each_none IsSmall)))
      (each_changed OfSession (of_who who) (pin_as name line) (λ t all. each_changed OfHeld (named name) (to_pin line) (λ x few. few) t.held all) m.sessions ss))))))
  step_small who (Unpublish line) =
      given_keeps Small m kept _ _ _ (λ s is. given_keeps Small m kept _ _ _ (λ l js. unless_keeps Small m kept _ _ _ (all_small _ refl (each_dropped OfLine (from_line line) m.lines ls) ss)))
  step_small who (Get line name) =
      given_keeps Small m kept _ _ _ (λ s is. given_keeps Small m kept _ _ _ (λ l js. unless_keeps Small m kept _ _ _ (unless_keeps Small m kept _ _ _ (
      given_keeps Small m kept _ _ _ (λ snap ks. all_small _ refl ls (holds_more who (pin name line snap) (ls l (of_find (from_line line) m.lines l js) snap (of_latest l.snaps snap ks))))))))
  step_small who (Checkout name target) =
      given_keeps Small m kept _ _ _ (λ s is. given_keeps Small m kept _ _ _ (λ h js. given_keeps Small m kept _ _ _ (λ line ks.
      given_keeps Small m kept _ _ _ (λ l js'. given_keeps Small m kept _ _ _ (λ snap ns.
      let few : IsSmall snap = ls l (of_find (from_line line) m.lines l js') snap (of_target target l.snaps snap ns) in
      all_small _ refl ls (each_changed OfSession (of_who who) (move_to name snap) (λ t all. each_changed OfHeld (named name) (to_snap snap) (λ x old. few) t.held all) m.sessions ss))))))
  step_small who (Append name changes) =
      given_keeps Small m kept _ _ _ (λ s is. given_keeps Small m kept _ _ _ (λ h js. given_keeps Small m kept _ _ _ (λ line ks.
      given_keeps Small m kept _ _ _ (λ l js'. unless_keeps Small m kept _ _ _ (given_keeps Small m kept _ _ _ (λ last ns.
      unless_keeps Small m kept _ _ _ (unless_refused_keeps Small m kept _ _ (λ os.
      let new : IsSmall (derived m h.snap (Changes changes)) = small_derived m h.snap (Changes changes) (held_small who s name h is js) in
      all_small _ refl (each_changed OfLine (from_line line) (with_latest (derived m h.snap (Changes changes))) (λ x old. small_latest _ x new old) m.lines ls) ss))))))))
  step_small who (Release name) =
      given_keeps Small m kept _ _ _ (λ s is. given_keeps Small m kept _ _ _ (λ h js.
      all_small _ refl ls (each_changed OfSession (of_who who) (let_go name) (λ t all. each_dropped OfHeld (named name) t.held all) m.sessions ss)))
  step_small who Columns = small
  step_small who Lines = small
