-- The tests of a call that derives a graph, where what was built says whether there is one.
use Rattle.std.proofs.Common.{◌≡◌, ℕ, ◌<◌, List, Option, Some, None, true, false, Result, Ok, Err, refl, sym, ap, subst, ◌∙◌, arith, length}
use Rattle.std.specs.Prelude.{is_some, nat_le, ◌==◌, IfOk, IfErr, option_map}
use Rattle.std.proofs.lemmas.Bool.Decides.{nat_tests}
use Rattle.graph_model.specs.declared.change.Change.{Change}
use Rattle.catalogue_state.specs.declared.ask.Ask.TheVariants.{Derive}
use Rattle.catalogue_state.specs.declared.ask.How.{How}
use Rattle.catalogue_state.specs.declared.ask.How.TheVariants.{Changes}
use Rattle.catalogue_state.specs.declared.call.Made.{Made}
use Rattle.catalogue_state.specs.declared.reply.Reply.TheVariants.{Sid}
use Rattle.catalogue_state.specs.declared.parts.Snap.{Snap}
use Rattle.catalogue_state.specs.declared.parts.Line.{Line}
use Rattle.catalogue_state.specs.declared.parts.Held.{Held}
use Rattle.catalogue_state.specs.declared.parts.Session.{Session}
use Rattle.catalogue_state.specs.State.{Name, State, session_of, held_of, held_in, holds, latest}
use Rattle.catalogue_state.specs.Step.{Answer, unless, given, unless_refused, step, derived, new_columns, drawn, private_graph, appended}
use Rattle.catalogue_state.specs.Derived.{why_not, IsBuilt}
use Rattle.catalogue_state.specs.Ready.{snap_held, IsBuiltFrom}
use Rattle.catalogue.specs.declared.arrivals.Coming.{Coming}
use Rattle.catalogue.specs.declared.response.Fault.{Fault}
use Rattle.catalogue.specs.declared.response.Fault.TheVariants as fault
use Rattle.catalogue.specs.Response.{Tests, TakesMemory}
use Rattle.catalogue.specs.Coming.{Arrives, TellsWhy, append_to}

-- what was built from a graph that the caller holds
pub built_from : (m : State) (who : ℕ) (name : Name) (how : How) (made : Made) (s : Session) (h : Held) → session_of m who ≡ Some s → held_of s name ≡ Some h
    → IsBuiltFrom (snap_held (holds m who) name) how made → IsBuilt how h.snap.shot made
built_from m who name how made s h is has built =
    let found : snap_held (holds m who) name ≡ Some h.snap
    = ap (λ (o : Option Session). snap_held (held_in o) name) is ∙ ap (option_map (λ (x : Held). x.snap)) has in
    subst (λ (o : Option Snap). IsBuiltFrom o how made) found built

pub arrives_of : (m : State) (base : Snap) (how : How) (made : Made) → IsBuilt how base.shot made → (result : Result Coming Fault)
    → IfOk result (λ c. (h : How) → IsBuilt h base.shot made → Arrives m base h c) → IfOk result (Arrives m base how)
arrives_of m base how made built (Ok c) ok = ok how built
arrives_of m base how made built (Err f) ok = tt

module _ (m : State) (base : Snap) (how : How) (made : Made) (built : IsBuilt how base.shot made) (next : Coming → Answer) (k : Answer)
    (reaches : (c : Coming) → Arrives m base how c → k ≡ next c) (takes : TakesMemory k.0) where
  arrived : (c : Coming) → Arrives m base how c → unless_refused m (why_not how base.shot) k ≡ next c
  unfolding unless_refused
  arrived c a = rw a.allowed (reaches c a)

  told : (f : Fault) → TellsWhy how base.shot f → Tests m (unless_refused m (why_not how base.shot) k) next (Err f)
  unfolding unless_refused
  told (fault.Refused r) why = rw why refl
  told fault.NoMemory none = rw none takes

  pub tests_of : (result : Result Coming Fault) → IfOk result (λ c. (h : How) → IsBuilt h base.shot made → Arrives m base h c)
      → IfErr result (λ f. (h : How) → IsBuilt h base.shot made → TellsWhy h base.shot f) → Tests m (unless_refused m (why_not how base.shot) k) next result
  tests_of (Ok c) ok err = arrived c (ok how built)
  tests_of (Err f) ok err = told f (err how built)

module _ (m : State) (who : ℕ) (name base : Name) (how : How) (s : Session) (b : Held) (made : Made) (is : session_of m who ≡ Some s) (has : held_of s base ≡ Some b)
    (free : is_some (held_of s name) ≡ false) (room : length s.held < 256) (built : IsBuilt how b.snap.shot made) where
  abbrev after : Coming → Answer
  after c = (Sid c.snap.sid, drawn m who (private_graph name None c.snap) (length c.new))

  abbrev due : Answer
  due = (Sid (derived m b.snap how).sid, drawn m who (private_graph name None (derived m b.snap how)) (new_columns b.snap how))

  is_due : (c : Coming) → Arrives m b.snap how c → due ≡ after c
  is_due c a =
      ap (λ (n : ℕ). (Sid (derived m b.snap how).sid, drawn m who (private_graph name None (derived m b.snap how)) n)) (sym a.count)
      ∙ ap (λ (x : Snap). (Sid x.sid, drawn m who (private_graph name None x) (length c.new))) (sym a.snap)

  not_full : nat_le 256 (length s.held) ≡ false
  not_full = grind (arith, nat_tests)

  pub derive_tests : (result : Result Coming Fault) → IfOk result (λ c. (h : How) → IsBuilt h b.snap.shot made → Arrives m b.snap h c)
      → IfErr result (λ f. (h : How) → IsBuilt h b.snap.shot made → TellsWhy h b.snap.shot f) → Tests m (step m who (Derive name base how)) after result
  unfolding unless given
  derive_tests result ok err = rw (is, has, free, not_full) (tests_of m b.snap how made built after due is_due tt result ok err)

module _ (m : State) (line : Name) (l : Line) (h : Held) (changes : List Change) (made : Made) (last : Snap) (own : is_some l.source ≡ false) (found : latest l.snaps ≡ Some last)
    (same : (last.sid == h.snap.sid) ≡ true) (built : IsBuilt (Changes changes) h.snap.shot made) where
  abbrev appends : Coming → Answer
  appends c = (Sid c.snap.sid, appended m line c.snap (length c.new))

  abbrev asked : Answer
  asked = (Sid (derived m h.snap (Changes changes)).sid, appended m line (derived m h.snap (Changes changes)) (new_columns h.snap (Changes changes)))

  is_asked : (c : Coming) → Arrives m h.snap (Changes changes) c → asked ≡ appends c
  is_asked c a =
      ap (λ (n : ℕ). (Sid (derived m h.snap (Changes changes)).sid, appended m line (derived m h.snap (Changes changes)) n)) (sym a.count)
      ∙ ap (λ (x : Snap). (Sid x.sid, appended m line x (length c.new))) (sym a.snap)

  pub append_tests : (result : Result Coming Fault) → IfOk result (λ c. (how : How) → IsBuilt how h.snap.shot made → Arrives m h.snap how c)
      → IfErr result (λ f. (how : How) → IsBuilt how h.snap.shot made → TellsWhy how h.snap.shot f) → Tests m (append_to m line l h changes) appends result
  unfolding append_to unless given
  append_tests result ok err = rw (own, found, same) (tests_of m h.snap (Changes changes) made built appends asked is_asked tt result ok err)
