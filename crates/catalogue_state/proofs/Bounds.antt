-- How far the numbers of snapshots and columns come: a step leaves the opening state, raises the next snapshot id by at most one, and
-- the next column number by at most 2,208 for it. So after fewer than 33,554,432 calls there are numbers left.
use Rattle.std.proofs.Common.{◌≡◌, ℕ, ◌+◌, ◌*◌, ◌<◌, ◌≤◌, List, [], ◌∷◌, refl, ap, arith, length}
use Rattle.std.specs.Prelude.{take}
use Rattle.std.proofs.lemmas.List.FromFn.{length-range_with_len}
use Rattle.graph_model.specs.Change.{after}
use Rattle.graph_slots.specs.Slots.{slots}
use Rattle.graph_slots.proofs.More.{schema_stays}
use Rattle.turn_hall.specs.declared.entry.Entry.{Entry}
use Rattle.turn_hall.specs.Replay.{replay}
use Rattle.catalogue_state.specs.declared.ask.Ask.{Ask}
use Rattle.catalogue_state.specs.declared.ask.Ask.TheVariants.{OpenSession, CloseSession, Peek, Place, Derive, Publish, Unpublish, Get, Checkout, Append, Release, Columns, Lines}
use Rattle.catalogue_state.specs.declared.ask.How.{How}
use Rattle.catalogue_state.specs.declared.ask.How.TheVariants.{Changes}
use Rattle.catalogue_state.specs.declared.reply.Reply.{Reply}
use Rattle.catalogue_state.specs.declared.parts.Source.{Source}
use Rattle.catalogue_state.specs.declared.parts.Snap.{Snap}
use Rattle.catalogue_state.specs.declared.parts.Held.{Held}
use Rattle.catalogue_state.specs.declared.parts.Session.{Session}
use Rattle.catalogue_state.specs.State.{Name, State, of_who, from_source, session_of, held_of}
use Rattle.catalogue_state.specs.Step.{Answer, step, placed, new_columns}
use Rattle.catalogue_state.specs.Bound.{opening, HasSmall, IsReady}
use Rattle.catalogue_state.proofs.Keeping.{unless_keeps, given_keeps, unless_refused_keeps}
use Rattle.catalogue_state.proofs.Lists.{of_find, in_none}
use Rattle.catalogue_state.proofs.Small.{IsSmall, AreSmall, opening_small, held_small, step_small}
use Rattle.catalogue_state.proofs.Deriving.{few_new}

-- ---- what a step adds

-- what one step may add; it adds up along a history
record IsRaised (m n : State) : Type 0 where
  sids : n.next_sid ≤ m.next_sid + 1
  columns : n.next_column + 2208 * m.next_sid ≤ m.next_column + 2208 * n.next_sid

module _ (m : State) where
  abbrev Opens : Answer → Type 0
  Opens a = opening a.1 ≡ opening m

  pub opening_stays : (who : ℕ) (ask : Ask) → opening (step m who ask).1 ≡ opening m
  opening_stays who OpenSession = unless_keeps Opens m (λ r. refl) _ _ _ (unless_keeps Opens m (λ r. refl) _ _ _ refl)
  opening_stays who CloseSession = given_keeps Opens m (λ r. refl) _ _ _ (λ s is. refl)
  opening_stays who (Peek source) = given_keeps Opens m (λ r. refl) _ _ _ (λ s is. refl)
  opening_stays who (Place name source front) =
      given_keeps Opens m (λ r. refl) _ _ _ (λ s is. given_keeps Opens m (λ r. refl) _ _ _ (λ from js.
      unless_keeps Opens m (λ r. refl) _ _ _ (unless_keeps Opens m (λ r. refl) _ _ _ (unless_keeps Opens m (λ r. refl) _ _ _ refl))))
  opening_stays who (Derive name base how) =
      given_keeps Opens m (λ r. refl) _ _ _ (λ s is. given_keeps Opens m (λ r. refl) _ _ _ (λ b js.
      unless_keeps Opens m (λ r. refl) _ _ _ (unless_keeps Opens m (λ r. refl) _ _ _ (unless_refused_keeps Opens m (λ r. refl) _ _ (λ ks. refl)))))
  opening_stays who (Publish name line keep threshold) =
      given_keeps Opens m (λ r. refl) _ _ _ (λ s is. given_keeps Opens m (λ r. refl) _ _ _ (λ h js. given_keeps Opens m (λ r. refl) _ _ _ (λ source ks.
      unless_keeps Opens m (λ r. refl) _ _ _ (unless_keeps Opens m (λ r. refl) _ _ _ (refl)))))
  opening_stays who (Unpublish line) =
      given_keeps Opens m (λ r. refl) _ _ _ (λ s is. given_keeps Opens m (λ r. refl) _ _ _ (λ l js. unless_keeps Opens m (λ r. refl) _ _ _ (refl)))
  opening_stays who (Get line name) =
      given_keeps Opens m (λ r. refl) _ _ _ (λ s is. given_keeps Opens m (λ r. refl) _ _ _ (λ l js. unless_keeps Opens m (λ r. refl) _ _ _ (unless_keeps Opens m (λ r. refl) _ _ _ (
      given_keeps Opens m (λ r. refl) _ _ _ (λ snap ks. refl)))))
  opening_stays who (Checkout name target) =
      given_keeps Opens m (λ r. refl) _ _ _ (λ s is. given_keeps Opens m (λ r. refl) _ _ _ (λ h js. given_keeps Opens m (λ r. refl) _ _ _ (λ line ks.
      given_keeps Opens m (λ r. refl) _ _ _ (λ l ls. given_keeps Opens m (λ r. refl) _ _ _ (λ snap ns. refl)))))
  opening_stays who (Append name changes) =
      given_keeps Opens m (λ r. refl) _ _ _ (λ s is. given_keeps Opens m (λ r. refl) _ _ _ (λ h js. given_keeps Opens m (λ r. refl) _ _ _ (λ line ks.
      given_keeps Opens m (λ r. refl) _ _ _ (λ l ls. unless_keeps Opens m (λ r. refl) _ _ _ (given_keeps Opens m (λ r. refl) _ _ _ (λ last ns.
      unless_keeps Opens m (λ r. refl) _ _ _ (unless_refused_keeps Opens m (λ r. refl) _ _ (λ os. refl))))))))
  opening_stays who (Release name) = given_keeps Opens m (λ r. refl) _ _ _ (λ s is. given_keeps Opens m (λ r. refl) _ _ _ (λ h js. refl))
  opening_stays who Columns = refl
  opening_stays who Lines = refl

  same : IsRaised m m
  same = record { sids = omega arith; columns = omega arith }

  abbrev Up : Answer → Type 0
  Up a = IsRaised m a.1

  few_placed : (from : Source) (front : ℕ) → length (slots from.data.opening.schema) ≤ 2208 → length (placed m from front).columns ≤ 2208
  few_placed from front few =
      let g = after from.data.opening from.data.changes front in
      omega (arith, few, length-range_with_len m.next_column (length (slots g.schema)), ap (λ s. length (slots s)) (schema_stays from.data.opening (take front from.data.changes)))

  few_derived : (how : How) (base : Snap) → IsSmall base → new_columns base how ≤ 2208
  few_derived how base few = omega (arith, few, few_new how base.shot)

  step_raises : (who : ℕ) (ask : Ask) → AreSmall m → IsRaised m (step m who ask).1
  step_raises who OpenSession small = unless_keeps Up m (λ r. same) _ _ _ (unless_keeps Up m (λ r. same) _ _ _ (record { sids = omega arith; columns = omega arith }))
  step_raises who CloseSession small = given_keeps Up m (λ r. same) _ _ _ (λ s is. record { sids = omega arith; columns = omega arith })
  step_raises who (Peek source) small = given_keeps Up m (λ r. same) _ _ _ (λ s is. same)
  step_raises who (Place name source front) small =
      given_keeps Up m (λ r. same) _ _ _ (λ s is. given_keeps Up m (λ r. same) _ _ _ (λ from js.
      unless_keeps Up m (λ r. same) _ _ _ (unless_keeps Up m (λ r. same) _ _ _ (unless_keeps Up m (λ r. same) _ _ _
      (record { sids = omega arith; columns = omega (arith, few_placed from front (small.sources from (of_find (from_source source) m.sources from js))) })))))
  step_raises who (Derive name base how) small =
      given_keeps Up m (λ r. same) _ _ _ (λ s is. given_keeps Up m (λ r. same) _ _ _ (λ b js.
      unless_keeps Up m (λ r. same) _ _ _ (unless_keeps Up m (λ r. same) _ _ _ (unless_refused_keeps Up m (λ r. same) _ _ (λ ks.
      record { sids = omega arith; columns = omega (arith, few_derived how b.snap (held_small m small who s base b is js)) })))))
  step_raises who (Publish name line keep threshold) small =
      given_keeps Up m (λ r. same) _ _ _ (λ s is. given_keeps Up m (λ r. same) _ _ _ (λ h js. given_keeps Up m (λ r. same) _ _ _ (λ source ks.
      unless_keeps Up m (λ r. same) _ _ _ (unless_keeps Up m (λ r. same) _ _ _ (record { sids = omega arith; columns = omega arith })))))
  step_raises who (Unpublish line) small =
      given_keeps Up m (λ r. same) _ _ _ (λ s is. given_keeps Up m (λ r. same) _ _ _ (λ l js. unless_keeps Up m (λ r. same) _ _ _ (record { sids = omega arith; columns = omega arith })))
  step_raises who (Get line name) small =
      given_keeps Up m (λ r. same) _ _ _ (λ s is. given_keeps Up m (λ r. same) _ _ _ (λ l js. unless_keeps Up m (λ r. same) _ _ _ (unless_keeps Up m (λ r. same) _ _ _ (
      given_keeps Up m (λ r. same) _ _ _ (λ snap ks. record { sids = omega arith; columns = omega arith })))))
  step_raises who (Checkout name target) small =
      given_keeps Up m (λ r. same) _ _ _ (λ s is. given_keeps Up m (λ r. same) _ _ _ (λ h js. given_keeps Up m (λ r. same) _ _ _ (λ line ks.
      given_keeps Up m (λ r. same) _ _ _ (λ l ls. given_keeps Up m (λ r. same) _ _ _ (λ snap ns. record { sids = omega arith; columns = omega arith })))))
  step_raises who (Append name changes) small =
      given_keeps Up m (λ r. same) _ _ _ (λ s is. given_keeps Up m (λ r. same) _ _ _ (λ h js. given_keeps Up m (λ r. same) _ _ _ (λ line ks.
      given_keeps Up m (λ r. same) _ _ _ (λ l ls. unless_keeps Up m (λ r. same) _ _ _ (given_keeps Up m (λ r. same) _ _ _ (λ last ns.
      unless_keeps Up m (λ r. same) _ _ _ (unless_refused_keeps Up m (λ r. same) _ _ (λ os.
      record { sids = omega arith; columns = omega (arith, few_derived (Changes changes) h.snap (held_small m small who s name h is js)) }))))))))
  step_raises who (Release name) small =
      given_keeps Up m (λ r. same) _ _ _ (λ s is. given_keeps Up m (λ r. same) _ _ _ (λ h js. record { sids = omega arith; columns = omega arith }))
  step_raises who Columns small = same
  step_raises who Lines small = same

-- along a history
raised_then : (a b c : State) → IsRaised a b → (k : ℕ) → (c.next_sid ≤ b.next_sid + k) × (c.next_column + 2208 * b.next_sid ≤ b.next_column + 2208 * c.next_sid)
    → (c.next_sid ≤ a.next_sid + (k + 1)) × (c.next_column + 2208 * a.next_sid ≤ a.next_column + 2208 * c.next_sid)
raised_then a b c r k h = (omega (arith, r.sids, h.0), omega (arith, r.columns, h.1))

replay_raises : (m : State) (es : List (Entry Ask Reply)) → AreSmall m
    → ((replay step m es).next_sid ≤ m.next_sid + length es) × ((replay step m es).next_column + 2208 * m.next_sid ≤ m.next_column + 2208 * (replay step m es).next_sid)
replay_raises m [] small = (omega arith, omega arith)
replay_raises m (e ∷ es) small =
    let n = (step m e.who e.note).1 in
    let rest = raised_then m n (replay step n es) (step_raises m e.who e.note small) (length es) (replay_raises n es (step_small m small e.who e.note)) in
    (omega (arith, rest.0), rest.1)

-- after fewer than 33,554,432 calls there are numbers left
pub calls_get_ready : (m : State) (es : List (Entry Ask Reply)) → opening m ≡ m → HasSmall m → length es < 33554432 → IsReady (replay step m es)
calls_get_ready m es first small short =
    let all = replay_raises m es (opening_small m first small) in
    let sid : 1 ≡ m.next_sid = ap (λ (x : State). x.next_sid) first in
    let column : 1 ≡ m.next_column = ap (λ (x : State). x.next_column) first in
    record { sids = omega (arith, all.0, sid, short); columns = omega (arith, all.1, sid, column) }
