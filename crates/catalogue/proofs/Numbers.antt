-- The numbers of new columns, and the snapshots that have them.
use Rattle.std.proofs.Common.{◌≡◌, ℕ, zero, suc, ◌+◌, ◌<◌, ◌≤◌, ◌++◌, List, [], ◌∷◌, Option, Some, None, Bool, true, false, refl, sym, ap, subst, ◌∙◌, cond, arith, length, inl, inr, eqb, Bor}
use Rattle.std.specs.Prelude.{Contains, find, is_some, count_by, ◌==◌}
use Rattle.std.specs.List.{range_with_len}
use Rattle.std.specs.Option.{option_copied}
use Rattle.std.proofs.lemmas.Bool.{eqb-true}
use Rattle.std.proofs.lemmas.Bool.Decides.{nat_tests}
use Rattle.std.proofs.lemmas.List.Sums.{sum_by-cons}
use Rattle.std.proofs.lemmas.List.{map-id}
use Rattle.std.proofs.lemmas.List.FromFn.{length-range_with_len, map-range_with_len_more}
use Rattle.graph_slots.specs.Slots.{slots}
use Rattle.graph_model.specs.Graph.{GraphData}
use Rattle.graph_model.specs.Change.{after}
use Rattle.catalogue_state.specs.declared.parts.Source.{Source}
use Rattle.catalogue_state.specs.declared.parts.Snap.{Snap}
use Rattle.catalogue_state.specs.declared.parts.Held.{Held}
use Rattle.catalogue_state.specs.declared.parts.Session.{Session}
use Rattle.catalogue_state.specs.State.{Name, State, named, session_of, held_of}
use Rattle.catalogue_state.specs.Step.{placed}
use Rattle.catalogue.specs.Kept.{IsNumbered, IsKept, MayHold}
use Rattle.catalogue_state.proofs.Lists.{in_none, cases}

-- one number more
pub range_more : (a n j : ℕ) → a + n ≡ j → range_with_len a (n + 1) ≡ range_with_len a n ++ j ∷ []
range_more a n j e =
    sym (map-id (range_with_len a (n + 1))) ∙ map-range_with_len_more (λ x. x) a n j e ∙ ap (λ (l : List ℕ). l ++ j ∷ []) (map-id (range_with_len a n))

in_range_at : (a n c : ℕ) → (a + 1 ≤ c) × (c < a + 1 + n) → (a ≤ c) × (c < a + suc n)
in_range_at a n c h = (omega arith, omega arith)

pub in_range : (a n c : ℕ) → Contains (range_with_len a n) c → (a ≤ c) × (c < a + n)
in_range a zero c h = absurd (in_none c h)
in_range a (suc n) c h =
    elim (cases c a (range_with_len (a + 1) n) h) [
      | inl q ↦ (omega (arith, q), omega (arith, q))
      | inr k ↦ in_range_at a n c (in_range (a + 1) n c k)
    ]

abbrev times : ℕ → List ℕ → ℕ
times c ns = count_by (λ k. k == c) ns

pub none_below : (a n c : ℕ) → c < a → times c (range_with_len a n) ≡ 0
none_below a zero c lt = refl
none_below a (suc n) c lt =
    let other : eqb a c ≡ false = grind (arith, nat_tests) in
    let rest = none_below (a + 1) n c (omega arith) in
    sum_by-cons (λ k. cond {A = ℕ} (k == c) 1 0) a (range_with_len (a + 1) n) ∙ rw other (omega (arith, rest))

differs_at : (a n c : ℕ) (b : Bool) → eqb a c ≡ b → times c (range_with_len (a + 1) n) ≤ 1 → cond {A = ℕ} (eqb a c) 1 0 + times c (range_with_len (a + 1) n) ≤ 1
differs_at a n c true e ih =
    let same : a ≡ c = eqb-true a c e in
    rw (e, none_below (a + 1) n c (omega (arith, same))) (omega arith)
differs_at a n c false e ih = rw e (omega (arith, ih))

pub range_differs : (a n c : ℕ) → times c (range_with_len a n) ≤ 1
range_differs a zero c = omega arith
range_differs a (suc n) c =
    subst (λ k. k ≤ 1) (sym (sum_by-cons (λ k. cond {A = ℕ} (k == c) 1 0) a (range_with_len (a + 1) n))) (differs_at a n c (eqb a c) refl (range_differs (a + 1) n c))

-- a snapshot whose columns are all new
placed_numbered : (m : State) (from : Source) (front : ℕ) → 1 ≤ m.next_column → IsNumbered (m.next_column + length (placed m from front).columns) (placed m from front)
placed_numbered m from front first =
    let n = length (slots (after from.data.opening from.data.changes front).schema) in
    let wide : length (range_with_len m.next_column n) ≡ n = length-range_with_len m.next_column n in
    record {
      wide = wide;
      within = λ c i. let w = in_range m.next_column n c i in (omega (arith, w.0, first), omega (arith, w.1, wide));
      differ = range_differs m.next_column n;
    }

-- without a change it has the opening graph
pub placed_first : (m : State) (from : Source) (front : ℕ) (g : GraphData) (n : ℕ) (columns : List ℕ) → front ≡ 0 → g ≡ from.data.opening → n ≡ length (slots from.data.opening.schema)
    → columns ≡ range_with_len m.next_column n → ◌≡◌ {A = Snap} (record { sid = m.next_sid; front = front; shot = g; columns = columns }) (placed m from front)
placed_first m from front g n columns none shot count all = rw (none, all, shot, count) refl

pub copied_is_some : {X : Type 0} (o : Option (Bor X)) → is_some (option_copied o) ≡ is_some o
copied_is_some None = refl
copied_is_some (Some x) = refl

pub not_held : (o : Option (Bor Held)) (name : Name) (s : Session) (held : List Held) → held ≡ s.held → option_copied o ≡ find (named name) held → is_some o ≡ false → is_some (held_of s name) ≡ false
not_held o name s held lent found none = ap (λ l. is_some (find (named name) l)) (sym lent) ∙ ap is_some (sym found) ∙ copied_is_some o ∙ none

-- what a look-up that found nothing says
pub nothing_found : {X : Type 0} (o : Option X) → is_some o ≡ false → o ≡ None
nothing_found None e = refl
nothing_found (Some x) e = absurd (cc)

module _ (m : State) (who : ℕ) (name : Name) (s : Session) (kept : IsKept m) (is : session_of m who ≡ Some s) (free : is_some (held_of s name) ≡ false) (room : length s.held < 256) where
  pub may_place : (from : Source) (front : ℕ) (snap : Snap) → snap ≡ placed m from front → length snap.columns ≤ 2208 → MayHold m who name snap (length snap.columns)
  may_place from front snap q few = record {
    session = s;
    is = is;
    free = nothing_found (held_of s name) free;
    room = room;
    few = few;
    numbered = subst (λ b. IsNumbered (m.next_column + length b.columns) b) (sym q) (placed_numbered m from front kept.first);
  }
