-- A graph that comes, and what is handed out for it.
use Rattle.std.proofs.Common.{◌≡◌, ℕ, ◌++◌, List, [], ◌∷◌, Option, Some, None, Bool, true, false, Result, Ok, Err, refl, sym, ap, ◌∙◌, cond}
use Rattle.std.specs.Prelude.{find, option_and_then, IfOk}
use Rattle.std.specs.Str.{bytes_eq}
use Rattle.std.proofs.lemmas.Slice.Eq.{bytes_eq-Decides}
use Rattle.std.proofs.lemmas.Option.{none-some, same_Some}
use Rattle.catalogue_state.specs.declared.ask.Ask.{Ask}
use Rattle.catalogue_state.specs.declared.ask.Ask.TheVariants.{Peek}
use Rattle.column_types.specs.declared.fault.NoMemory.{NoMemory}
use Rattle.catalogue_state.specs.declared.call.Gift.TheVariants as gift
use Rattle.catalogue_state.specs.declared.reply.Reply.TheVariants.{Sid, Refused}
use Rattle.catalogue_state.specs.declared.reply.Refusal.{Refusal}
use Rattle.catalogue_state.specs.declared.reply.Refusal.TheVariants.{NoSource}
use Rattle.catalogue.specs.declared.response.Fault.{Fault}
use Rattle.catalogue.specs.declared.response.Fault.TheVariants as fault
use Rattle.catalogue_state.specs.declared.parts.Snap.{Snap}
use Rattle.catalogue_state.specs.declared.parts.Held.{Held}
use Rattle.catalogue_state.specs.declared.parts.Session.{Session}
use Rattle.catalogue.specs.declared.response.Response.{Response}
use Rattle.catalogue_state.specs.State.{Name, State, of_who, named, session_of, source_of, held_of, change_first}
use Rattle.catalogue_state.specs.Step.{Answer, given, step, hold_more, private_graph, drawn, with_session, move_to, to_snap}
use Rattle.catalogue_state.specs.Gift.{gift_of, snap_gift, held_under}
use Rattle.catalogue.specs.Kept.{MayHold}
use Rattle.catalogue.specs.Response.{IsServed, Tests, IsRefusal, TellsRefusal, refusal_response, sid_response}

module _ {X : Type 0} (p : X → Bool) where
  -- the item that is found after it was changed, and after one more was put behind
  change_at : (f : X → X) (x y : X) (xs : List X) (b : Bool) → p x ≡ b → ((z : X) → p (f z) ≡ p z) → find p (x ∷ xs) ≡ Some y
      → (find p xs ≡ Some y → find p (change_first p f xs) ≡ Some (f y)) → find p (cond (p x) (f x ∷ xs) (x ∷ change_first p f xs)) ≡ Some (f y)
  change_at f x y xs true e same is ih =
      let q : x ≡ y = same_Some x y (rw e at is) in
      rw (e, same x, e) (ap (λ z. Some (f z)) q)
  change_at f x y xs false e same is ih = rw (e, e) (ih (rw e at is))

  pub find_changed : (f : X → X) (y : X) (xs : List X) → ((z : X) → p (f z) ≡ p z) → find p xs ≡ Some y → find p (change_first p f xs) ≡ Some (f y)
  find_changed f y [] same is = absurd (none-some y is)
  find_changed f y (x ∷ xs) same is = change_at f x y xs (p x) refl same is (find_changed f y xs same)

  push_at : (x y : X) (xs : List X) (b : Bool) → p x ≡ b → find p (x ∷ xs) ≡ None → (find p xs ≡ None → find p (xs ++ y ∷ []) ≡ Some y) → find p (x ∷ xs ++ y ∷ []) ≡ Some y
  push_at x y xs true e is ih = absurd (none-some x (sym (rw e at is)))
  push_at x y xs false e is ih = rw e (ih (rw e at is))

  pub find_push : (y : X) (xs : List X) → p y ≡ true → find p xs ≡ None → find p (xs ++ y ∷ []) ≡ Some y
  find_push y [] is none = rw is refl
  find_push y (x ∷ xs) is none = push_at x y xs (p x) refl none (find_push y xs is)

own_name : (name : Name) → bytes_eq name name ≡ true
own_name name = (bytes_eq-Decides name name).1 refl

-- the session that holds one more graph
pub session_drawn : (m : State) (who : ℕ) (h : Held) (new : ℕ) (s : Session) → session_of m who ≡ Some s → session_of (drawn m who h new) who ≡ Some (hold_more h s)
session_drawn m who h new s is = find_changed (of_who who) (hold_more h) s m.sessions (λ x. refl) is

-- it holds the graph under its name, where it held none of that name before
pub held_drawn : (m : State) (who : ℕ) (h : Held) (new : ℕ) (s : Session) → session_of m who ≡ Some s → held_of s h.name ≡ None → held_under (drawn m who h new) who h.name ≡ Some h
held_drawn m who h new s is free =
    ap (option_and_then (λ (t : Session). held_of t h.name)) (session_drawn m who h new s is) ∙ find_push (named h.name) h s.held (own_name h.name) free

module _ (m : State) (who : ℕ) (name : Name) (source : Option Name) (snap : Snap) (new : ℕ) (may : MayHold m who name snap new) where
  abbrev graph : Held
  graph = private_graph name source snap

  -- a call that draws the snapshot is served by the response that tells its id and hands it out
  pub drawn_served : (ask : Ask) (h : Held) (n : State) (r : Response) → h ≡ graph → step m who ask ≡ (Sid snap.sid, drawn m who graph new)
      → ((s : State) (k : ℕ) → gift_of s who ask (Sid k) ≡ snap_gift (held_under s who name)) → r ≡ sid_response h.snap → n ≡ drawn m who h new → IsServed m who ask n r
  drawn_served ask h n r is steps gives told after =
      let told' : r ≡ sid_response snap = told ∙ ap (λ (x : Held). sid_response x.snap) is in
      let after' : n ≡ drawn m who graph new = after ∙ ap (λ (x : Held). drawn m who x new) is in
      rw (told', after') record {
        step = steps;
        kept = refl;
        gift = sym (gives (drawn m who graph new) snap.sid ∙ ap snap_gift (held_drawn m who graph new may.session may.is may.free));
      }

-- ---- pins

-- the session that holds one graph more holds it under its name
pub held_pinned : (m : State) (who : ℕ) (h : Held) (s : Session) → session_of m who ≡ Some s → held_of s h.name ≡ None → held_under (with_session m who (hold_more h)) who h.name ≡ Some h
held_pinned m who h s is free =
    ap (option_and_then (λ (t : Session). held_of t h.name)) (find_changed (of_who who) (hold_more h) s m.sessions (λ x. refl) is) ∙ find_push (named h.name) h s.held (own_name h.name) free

-- the session whose pin was moved holds the other snapshot under its name
pub held_moved : (m : State) (who : ℕ) (name : Name) (b : Snap) (s : Session) (h : Held) → session_of m who ≡ Some s → held_of s name ≡ Some h
    → held_under (with_session m who (move_to name b)) who name ≡ Some (to_snap b h)
held_moved m who name b s h is has =
    ap (option_and_then (λ (t : Session). held_of t name)) (find_changed (of_who who) (move_to name b) s m.sessions (λ x. refl) is) ∙ find_changed (named name) (to_snap b) h s.held (λ x. refl) has

-- a call that brings a snapshot is served by the response that tells its id and hands it out
pub came_served : (m : State) (who : ℕ) (ask : Ask) (name : Name) (h : Held) (n : State) (r : Response) → step m who ask ≡ (Sid h.snap.sid, n) → held_under n who name ≡ Some h
    → ((s : State) (k : ℕ) → gift_of s who ask (Sid k) ≡ snap_gift (held_under s who name)) → r ≡ sid_response h.snap → IsServed m who ask n r
came_served m who ask name h n r steps has gives told =
    rw told record { step = steps; kept = refl; gift = sym (gives n h.snap.sid ∙ ap snap_gift has) }

-- ---- refusals

refusal_served : (m : State) (who : ℕ) (ask : Ask) (r : Refusal) (response : Response) → step m who ask ≡ (Refused r, m) → gift_of m who ask (Refused r) ≡ gift.Nothing
    → response ≡ refusal_response r → IsServed m who ask m response
refusal_served m who ask r response steps none told = rw told record { step = steps; kept = refl; gift = sym none }

-- a call is served by the refusal that its tests end with
pub refused_served : {X : Type 0} (m : State) (who : ℕ) (ask : Ask) (next : X → Answer) (f : Fault) (result : Result Response NoMemory) → ((r : Refusal) → gift_of m who ask (Refused r) ≡ gift.Nothing)
    → Tests m (step m who ask) next (Err f) → TellsRefusal f result → IfOk result (IsServed m who ask m)
refused_served m who ask next (fault.Refused r) (Ok response) gives tests told = refusal_served m who ask r response tests (gives r) told
refused_served m who ask next (fault.Refused r) (Err e) gives tests told = tt
refused_served m who ask next fault.NoMemory (Ok response) gives tests told = absurd told
refused_served m who ask next fault.NoMemory (Err e) gives tests told = tt

-- a peek at a source that is not there
pub refused_peek : (m : State) (source : Name) (f : Fault) (result : Result Response NoMemory) → source_of m source ≡ None → IsRefusal (NoSource source) f → TellsRefusal f result
    → IfOk result (λ r. (who : ℕ) → IsServed m who (Peek source) m r)
unfolding given
refused_peek m source (fault.Refused q) (Ok response) none is told = λ who. refusal_served m who (Peek source) (NoSource source) response (rw none refl) refl (told ∙ ap refusal_response is)
refused_peek m source (fault.Refused q) (Err e) none is told = tt
refused_peek m source fault.NoMemory (Ok response) none is told = absurd told
refused_peek m source fault.NoMemory (Err e) none is told = tt
