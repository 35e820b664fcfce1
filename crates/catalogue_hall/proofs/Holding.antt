-- What a session holds after a call of its own.
use Rattle.std.proofs.Common.{◌≡◌, ℕ, ◌++◌, List, [], ◌∷◌, Option, Some, None, Bool, true, false, refl, sym, ap, subst, ◌∙◌, map, cond, length}
use Rattle.std.specs.Prelude.{is_some, option_and_then}
use Rattle.std.specs.Str.{bytes_eq}
use Rattle.std.proofs.lemmas.Bool.{eq-eqb}
use Rattle.std.proofs.lemmas.List.{map_push}
use Rattle.turn_hall.specs.declared.entry.Entry.{Entry}
use Rattle.turn_hall.specs.Replay.{replay, entry}
use Rattle.turn_hall.proofs.Histories.{replay-append}
use Rattle.catalogue_state.specs.declared.ask.Ask.{Ask}
use Rattle.catalogue_state.specs.declared.ask.Ask.TheVariants.{OpenSession, CloseSession, Peek, Place, Derive, Publish, Unpublish, Get, Checkout, Append, Release, Columns, Lines}
use Rattle.catalogue_state.specs.declared.ask.Target.{Target}
use Rattle.catalogue_state.specs.declared.reply.Reply.{Reply}
use Rattle.catalogue_state.specs.declared.reply.Reply.TheVariants.{Sid}
use Rattle.catalogue_state.specs.declared.reply.Refusal.{Refusal}
use Rattle.catalogue_state.specs.declared.call.Gift.{Gift}
use Rattle.catalogue_state.specs.declared.call.Gift.TheVariants as gift
use Rattle.catalogue_state.specs.declared.parts.Snap.{Snap}
use Rattle.catalogue_state.specs.declared.parts.Held.{Held}
use Rattle.catalogue_state.specs.declared.parts.Session.{Session}
use Rattle.catalogue_state.specs.State.{Name, State, of_who, named, session_of, held_of, held_in, holds, change_first, drop_first}
use Rattle.catalogue_state.specs.Step.{Answer, refuse, unless, step, let_go, private_graph, drawn, placed, derived, new_columns, to_pin, to_snap, pin_as, move_to, pin, with_session}
use Rattle.catalogue_state.specs.Gift.{gift_of, snap_gift, held_under}
use Rattle.catalogue.specs.Kept.{IsKept as IsSound}
use Rattle.catalogue_state.proofs.Keeping.{given_keeps, unless_keeps, unless_refused_keeps}
use Rattle.catalogue_state.proofs.Counts.{only_one_dropped}
use Rattle.catalogue.proofs.Drawing.{find_changed, find_push, session_drawn, held_drawn}
use Rattle.catalogue_hall.specs.declared.held.Named.{Named}
use Rattle.catalogue_hall.specs.History.{named_of, is_named, held_by}
use Rattle.catalogue_hall.specs.Told.{held_after, with_snap}

-- what holds of an answer, where it holds of the refusal and, where the test failed, of what follows
unless_where : (P : Answer → Type 0) (m : State) (b : Bool) (r : Refusal) (k : Answer) → P (refuse m r) → (b ≡ false → P k) → P (unless m b r k)
unfolding unless
unless_where P m true r k base rest = base
unless_where P m false r k base rest = rest refl

nothing_found : {X : Type 0} (o : Option X) → is_some o ≡ false → o ≡ None
nothing_found None e = refl
nothing_found (Some x) e = absurd (cc)

drop_at : (name : Name) (h : Held) (held : List Held) (b : Bool) → named name h ≡ b → drop_first (is_named name) (map named_of held) ≡ map named_of (drop_first (named name) held)
    → cond b (map named_of held) (named_of h ∷ drop_first (is_named name) (map named_of held)) ≡ map named_of (cond b held (h ∷ drop_first (named name) held))
drop_at name h held true e ih = refl
drop_at name h held false e ih = ap (λ l. named_of h ∷ l) ih

-- a graph is taken out by its name
drop_named : (name : Name) (held : List Held) → drop_first (is_named name) (map named_of held) ≡ map named_of (drop_first (named name) held)
drop_named name [] = refl
drop_named name (h ∷ held) = drop_at name h held (bytes_eq h.name name) refl (drop_named name held)

move_at : (name : Name) (snap : Snap) (h : Held) (held : List Held) (b : Bool) → named name h ≡ b
    → change_first (is_named name) (with_snap snap) (map named_of held) ≡ map named_of (change_first (named name) (to_snap snap) held)
    → cond b (with_snap snap (named_of h) ∷ map named_of held) (named_of h ∷ change_first (is_named name) (with_snap snap) (map named_of held))
    ≡ map named_of (cond b (to_snap snap h ∷ held) (h ∷ change_first (named name) (to_snap snap) held))
move_at name snap h held true e ih = refl
move_at name snap h held false e ih = ap (λ l. named_of h ∷ l) ih

-- a snapshot is put under a name
move_named : (name : Name) (snap : Snap) (held : List Held)
    → change_first (is_named name) (with_snap snap) (map named_of held) ≡ map named_of (change_first (named name) (to_snap snap) held)
move_named name snap [] = refl
move_named name snap (h ∷ held) = move_at name snap h held (bytes_eq h.name name) refl (move_named name snap held)

pin_at : (name line : Name) (h : Held) (held : List Held) (b : Bool) → map named_of held ≡ map named_of (change_first (named name) (to_pin line) held)
    → named_of h ∷ map named_of held ≡ map named_of (cond b (to_pin line h ∷ held) (h ∷ change_first (named name) (to_pin line) held))
pin_at name line h held true ih = refl
pin_at name line h held false ih = ap (λ l. named_of h ∷ l) ih

-- a graph that is held as a pin keeps its name and its snapshot
pin_named : (name line : Name) (held : List Held) → map named_of held ≡ map named_of (change_first (named name) (to_pin line) held)
pin_named name line [] = refl
pin_named name line (h ∷ held) = pin_at name line h held (named name h) (pin_named name line held)

module _ (m : State) (who : ℕ) (sound : IsSound m) where
  abbrev before : List Named
  before = map named_of (holds m who)

  abbrev Tells : Ask → Answer → Type 0
  Tells ask a = held_after before ask a.0 (gift_of a.1 who ask a.0) ≡ map named_of (holds a.1 who)

  before_is : (s : Session) → session_of m who ≡ Some s → before ≡ map named_of s.held
  before_is s is = ap (λ (o : Option Session). map named_of (held_in o)) is

  -- the graphs of the session after one more came
  after_is : (h : Held) (new : ℕ) (s : Session) → session_of m who ≡ Some s → before ++ named_of h ∷ [] ≡ map named_of (holds (drawn m who h new) who)
  after_is h new s is =
      ap (λ l. l ++ named_of h ∷ []) (before_is s is) ∙ sym (map_push named_of s.held h)
      ∙ sym (ap (λ (o : Option Session). map named_of (held_in o)) (session_drawn m who h new s is))

  -- a call that brings a graph
  came : (ask : Ask) (h : Held) (sid new : ℕ) (s : Session) → session_of m who ≡ Some s → is_some (held_of s h.name) ≡ false
      → held_after before ask (Sid sid) (gift.Snap h.snap) ≡ before ++ named_of h ∷ [] → ((n : State) → gift_of n who ask (Sid sid) ≡ snap_gift (held_under n who h.name)) → Tells ask (Sid sid, drawn m who h new)
  came ask h sid new s is free after gives =
      let there = ap snap_gift (held_drawn m who h new s is (nothing_found (held_of s h.name) free)) in
      ap (held_after before ask (Sid sid)) (gives (drawn m who h new) ∙ there) ∙ after ∙ after_is h new s is

  -- a graph that was published
  pinned : (name line : Name) (s : Session) → session_of m who ≡ Some s → before ≡ map named_of (holds (with_session m who (pin_as name line)) who)
  pinned name line s is =
      before_is s is ∙ pin_named name line s.held
      ∙ sym (ap (λ (o : Option Session). map named_of (held_in o)) (find_changed (of_who who) (pin_as name line) s m.sessions (λ x. refl) is))

  -- a pin that moved
  moved : (name : Name) (target : Target) (snap : Snap) (s : Session) (h : Held) → session_of m who ≡ Some s → held_of s name ≡ Some h
      → Tells (Checkout name target) (Sid snap.sid, with_session m who (move_to name snap))
  moved name target snap s h is has =
      let n = with_session m who (move_to name snap) in
      let now : session_of n who ≡ Some (move_to name snap s) = find_changed (of_who who) (move_to name snap) s m.sessions (λ x. refl) is in
      let there : held_under n who name ≡ Some (to_snap snap h)
      = ap (option_and_then (λ (t : Session). held_of t name)) now ∙ find_changed (named name) (to_snap snap) h s.held (λ x. refl) has in
      ap (λ (o : Option Held). held_after before (Checkout name target) (Sid snap.sid) (snap_gift o)) there
      ∙ ap (change_first (is_named name) (with_snap snap)) (before_is s is) ∙ move_named name snap s.held
      ∙ sym (ap (λ (o : Option Session). map named_of (held_in o)) now)

  tells : (ask : Ask) → Tells ask (step m who ask)
  tells OpenSession =
      unless_where (Tells OpenSession) m _ _ _ refl (λ closed. unless_where (Tells OpenSession) m _ _ _ refl (λ room.
      let none = nothing_found (session_of m who) closed in
      let now = find_push (of_who who) (record { who = who; held = [] }) m.sessions (eq-eqb who who refl) none in
      ap (λ (o : Option Session). map named_of (held_in o)) none ∙ sym (ap (λ (o : Option Session). map named_of (held_in o)) now)))
  tells CloseSession =
      given_keeps (Tells CloseSession) m (λ r. refl) _ _ _ (λ s is.
      sym (ap (λ (o : Option Session). map named_of (held_in o)) (only_one_dropped (of_who who) m.sessions (sound.one_each who))))
  tells (Peek source) = given_keeps (Tells (Peek source)) m (λ r. refl) _ _ _ (λ from js. refl)
  tells (Place name source front) =
      let T = Tells (Place name source front) in
      given_keeps T m (λ r. refl) _ _ _ (λ s is. given_keeps T m (λ r. refl) _ _ _ (λ from js.
      unless_where T m _ _ _ refl (λ free. unless_where T m _ _ _ refl (λ seen. unless_where T m _ _ _ refl (λ room.
      let snap = placed m from front in
      came (Place name source front) (private_graph name (Some source) snap) snap.sid (length snap.columns) s is free refl (λ n. refl))))))
  tells (Derive name base how) =
      let T = Tells (Derive name base how) in
      given_keeps T m (λ r. refl) _ _ _ (λ s is. given_keeps T m (λ r. refl) _ _ _ (λ b js.
      unless_where T m _ _ _ refl (λ free. unless_where T m _ _ _ refl (λ room. unless_refused_keeps T m (λ r. refl) _ _ (λ ks.
      let snap = derived m b.snap how in
      came (Derive name base how) (private_graph name None snap) snap.sid (new_columns b.snap how) s is free refl (λ n. refl))))))
  tells (Publish name line keep threshold) =
      let T = Tells (Publish name line keep threshold) in
      given_keeps T m (λ r. refl) _ _ _ (λ s is. given_keeps T m (λ r. refl) _ _ _ (λ h js. given_keeps T m (λ r. refl) _ _ _ (λ source ks.
      unless_where T m _ _ _ refl (λ free. unless_where T m _ _ _ refl (λ room. pinned name line s is)))))
  tells (Unpublish line) =
      let T = Tells (Unpublish line) in
      given_keeps T m (λ r. refl) _ _ _ (λ s is. given_keeps T m (λ r. refl) _ _ _ (λ l js. unless_where T m _ _ _ refl (λ own. refl)))
  tells (Get line name) =
      let T = Tells (Get line name) in
      given_keeps T m (λ r. refl) _ _ _ (λ s is. given_keeps T m (λ r. refl) _ _ _ (λ l js.
      unless_where T m _ _ _ refl (λ free. unless_where T m _ _ _ refl (λ room. given_keeps T m (λ r. refl) _ _ _ (λ snap ks.
      came (Get line name) (pin name line snap) snap.sid 0 s is free refl (λ n. refl))))))
  tells (Checkout name target) =
      let T = Tells (Checkout name target) in
      given_keeps T m (λ r. refl) _ _ _ (λ s is. given_keeps T m (λ r. refl) _ _ _ (λ h js. given_keeps T m (λ r. refl) _ _ _ (λ line ks.
      given_keeps T m (λ r. refl) _ _ _ (λ l ls. given_keeps T m (λ r. refl) _ _ _ (λ snap ms. moved name target snap s h is js)))))
  tells (Append name changes) =
      let T = Tells (Append name changes) in
      given_keeps T m (λ r. refl) _ _ _ (λ s is. given_keeps T m (λ r. refl) _ _ _ (λ h js. given_keeps T m (λ r. refl) _ _ _ (λ line ks.
      given_keeps T m (λ r. refl) _ _ _ (λ l ls. unless_keeps T m (λ r. refl) _ _ _ (given_keeps T m (λ r. refl) _ _ _ (λ last ns.
      unless_keeps T m (λ r. refl) _ _ _ (unless_refused_keeps T m (λ r. refl) _ _ (λ os. refl))))))))
  tells (Release name) =
      let T = Tells (Release name) in
      given_keeps T m (λ r. refl) _ _ _ (λ s is. given_keeps T m (λ r. refl) _ _ _ (λ h js.
      ap (drop_first (is_named name)) (before_is s is) ∙ drop_named name s.held
      ∙ sym (ap (λ (o : Option Session). map named_of (held_in o)) (find_changed (of_who who) (let_go name) s m.sessions (λ x. refl) is))))
  tells Columns = refl
  tells Lines = refl

-- what a call tells its caller is what it holds after the history with that call
pub told_is_held : (start : State) (book : List (Entry Ask Reply)) (who : ℕ) (ask : Ask) (reply : Reply) (given : Gift) (held : List Named)
    → IsSound (replay step start book) → reply ≡ (step (replay step start book) who ask).0
    → given ≡ gift_of (replay step start (book ++ entry who ask reply ∷ [])) who ask reply → held ≡ held_by (record { start = start; book = book }) who
    → held_after held ask reply given ≡ held_by (record { start = start; book = book ++ entry who ask reply ∷ [] }) who
told_is_held start book who ask reply given held sound replied gives is =
    let m = replay step start book in
    let a = step m who ask in
    let leads : replay step start (book ++ entry who ask reply ∷ []) ≡ a.1 = replay-append step start book (entry who ask reply ∷ []) in
    let told : held_after (before m who sound) ask reply (gift_of a.1 who ask reply) ≡ map named_of (holds a.1 who)
    = subst (λ (r : Reply). held_after (before m who sound) ask r (gift_of a.1 who ask r) ≡ map named_of (holds a.1 who)) (sym replied) (tells m who sound ask) in
    ap (λ l. held_after l ask reply given) is ∙ ap (held_after (before m who sound) ask reply) (gives ∙ ap (λ n. gift_of n who ask reply) leads) ∙ told ∙ ap (λ n. map named_of (holds n who)) (sym leads)
