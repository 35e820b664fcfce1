-- The snapshots that come, with the columns that they keep and the new ones.
use Rattle.std.proofs.Common.{◌≡◌, ℕ, zero, suc, ◌+◌, ◌<◌, inl, inr, List, [], Some, sym, ap, subst, ◌∙◌, arith, length, get_or}
use Rattle.std.specs.Prelude.{Contains, slice_get}
use Rattle.std.specs.List.{range_with_len}
use Rattle.std.proofs.lemmas.Option.{same_Some, slice_get-get_or}
use Rattle.std.proofs.lemmas.List.FromFn.{length-range_with_len}
use Rattle.column_reclaim.specs.Registry.{times}
use Rattle.graph_slots.specs.declared.part.Part.{Part}
use Rattle.graph_slots.specs.declared.part.Part.TheVariants.{Rows as RowsOf}
use Rattle.graph_snap.specs.Sharing.{graph_parts}
use Rattle.catalogue_state.specs.declared.parts.Snap.{Snap}
use Rattle.catalogue_state.specs.declared.parts.Held.{Held}
use Rattle.catalogue_state.specs.declared.parts.Session.{Session}
use Rattle.catalogue_state.specs.State.{Name, State, of_who, named, session_of, held_of, roots}
use Rattle.catalogue_state.specs.declared.parts.Source.{Source}
use Rattle.catalogue_state.specs.Step.{placed}
use Rattle.catalogue.specs.Kept.{IsNumbered}
use Rattle.graph_slots.specs.Slots.{slots}
use Rattle.graph_slots.specs.Meaning.{slot_value}
use Rattle.std.proofs.lemmas.List.{length-map}
use Rattle.catalogue.specs.Registry.{part_in, Comes}
use Rattle.catalogue_state.proofs.Lists.{of_find}
use Rattle.catalogue_state.proofs.Roots.{in_sessions}
use Rattle.catalogue.proofs.Uses.{own_use}

range_get : (a n k c : ℕ) → slice_get (range_with_len a n) k ≡ Some c → (k < n) × (a + k ≡ c)
range_get a zero k c h = absurd (cc h)
range_get a (suc n) zero c h = (omega arith, let q = same_Some a c h in omega (arith, q))
range_get a (suc n) (suc k) c h = let r = range_get (a + 1) n k c h in (omega (arith, r.0), omega (arith, r.1))

-- all its columns are new
pub all_new : (rs : List Snap) (first : ℕ) (s : Snap) (new : List Part) → s.columns ≡ range_with_len first (length new) → new ≡ graph_parts s.shot → Comes rs first s [] new
unfolding part_in
all_new rs first s new columns parts = record {
  numbers = λ c. omega (arith, ap (times c) columns);
  used = λ c h. absurd (omega (arith, h.1));
  parts = λ k c e.
      let r = range_get first (length new) k c (sym (ap (λ l. slice_get l k) columns) ∙ e) in
      let d : Part = RowsOf [] in
      let own = slice_get-get_or new k d r.0 in
      inr (k, get_or new k d, r.1, own, ap (λ l. slice_get l k) (sym parts) ∙ own);
}

pub parts_count : (next : ℕ) (s : Snap) (new : List Part) → IsNumbered next s → new ≡ graph_parts s.shot → length new ≡ length s.columns
parts_count next s new numbered parts = ap length parts ∙ length-map (slots s.shot.schema) (slot_value s.shot) ∙ sym numbered.wide

pub placed_columns : (m : State) (from : Source) (front : ℕ) (s : Snap) → s ≡ placed m from front → s.columns ≡ range_with_len m.next_column (length s.columns)
placed_columns m from front s is =
    let n = length (slots (placed m from front).shot.schema) in
    let columns : s.columns ≡ range_with_len m.next_column n = ap (λ (x : Snap). x.columns) is in
    columns ∙ ap (range_with_len m.next_column) (sym (ap length columns ∙ length-range_with_len m.next_column n))

-- all its columns are those of a snapshot in use
pub all_kept : (rs : List Snap) (first : ℕ) (s b : Snap) → Contains rs b → s.columns ≡ b.columns → s.shot ≡ b.shot → Comes rs first s s.columns []
all_kept rs first s b root columns shot = record {
  numbers = λ c. omega arith;
  used = λ c h. own_use c b rs root (subst (λ l. Contains l c) columns h);
  parts = λ k c e. inl (b, k, root, sym (ap (λ l. slice_get l k) columns) ∙ e, ap (λ g. part_in g k) (sym shot));
}

-- a graph of the caller is in use
pub held_root : (m : State) (who : ℕ) (s : Session) (name : Name) (h : Held) → session_of m who ≡ Some s → held_of s name ≡ Some h → Contains (roots m) h.snap
held_root m who s name h is has =
    in_sessions (Contains (roots m)) m.lines m.sessions (λ x k. k) s (of_find (of_who who) m.sessions s is) h (of_find (named name) s.held h has)
