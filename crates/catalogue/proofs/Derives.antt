-- A derived snapshot: the columns that it keeps are its base's, and its new ones have new numbers.
use Rattle.std.proofs.Common.{◌≡◌, ℕ, zero, suc, ◌+◌, ◌<◌, ◌≤◌, ◌⊎◌, inl, inr, List, [], ◌∷◌, Option, Some, None, refl, sym, ap, subst, ◌∙◌, arith, length, get_or}
use Rattle.std.specs.Prelude.{Contains, slice_get, slice_index_or}
use Rattle.std.specs.List.{range_with_len}
use Rattle.std.proofs.lemmas.Option.{same_Some, slice_get-get_or, none-some}
use Rattle.std.proofs.lemmas.List.{length-map}
use Rattle.column_reclaim.specs.Registry.{times}
use Rattle.graph_slots.specs.declared.part.Part.{Part}
use Rattle.graph_slots.specs.declared.part.Part.TheVariants.{Rows as RowsOf}
use Rattle.graph_slots.specs.Slots.{slots}
use Rattle.graph_slots.specs.Meaning.{slot_value}
use Rattle.graph_snap.specs.declared.built.Built.{Built}
use Rattle.graph_snap.specs.Sharing.{graph_parts}
use Rattle.catalogue_state.specs.declared.ask.How.{How}
use Rattle.catalogue_state.specs.declared.parts.Snap.{Snap}
use Rattle.catalogue_state.specs.State.{State, roots}
use Rattle.catalogue_state.specs.Step.{derived, new_columns}
use Rattle.catalogue_state.specs.Derived.{derived_graph, kept_by, numbers_by, numbers_kept, new_count, new_parts, IsDerived}
use Rattle.catalogue_state.proofs.Deriving.{kept_length, once_kept, known_kept, few_new}
use Rattle.catalogue.specs.declared.arrivals.Coming.{Coming}
use Rattle.catalogue.specs.Kept.{IsNumbered}
use Rattle.catalogue.specs.Coming.{snap_of_built, Arrives}
use Rattle.catalogue.specs.Registry.{part_in, Comes, IsKeptPart, IsNewPart}
use Rattle.catalogue.proofs.Uses.{own_use, in_of_get, times_in}
use Rattle.catalogue.proofs.Numbers.{in_range}
use Rattle.catalogue.proofs.Numbering.{KnowsBelow, KeepsOnce, length_numbers, times_numbers, kept_in, in_times, numbers_differ, number_kept, number_new, length_new}

get_below : {X : Type 0} (xs : List X) (k : ℕ) (x : X) → slice_get xs k ≡ Some x → k < length xs
get_below [] k x e = absurd (none-some x e)
get_below (y ∷ xs) zero x e = omega arith
get_below (y ∷ xs) (suc k) x e = omega (arith, get_below xs k x e)

module _ (m : State) (base : Snap) (how : How) (built : Built) (s : Snap) (is : IsDerived how base.shot built) (same : s ≡ derived m base how) where
  abbrev kept : List (Option ℕ)
  kept = kept_by how base.shot

  abbrev parts : List Part
  parts = graph_parts s.shot

  shot : s.shot ≡ derived_graph how base.shot
  shot = ap (λ (x : Snap). x.shot) same

  columns : s.columns ≡ numbers_by base.columns m.next_column kept
  columns = ap (λ (x : Snap). x.columns) same

  own_shot : built.shot ≡ s.shot
  own_shot = is.shot ∙ sym shot

  pub parts_told : length parts ≡ length kept
  parts_told = length-map (slots s.shot.schema) (slot_value s.shot) ∙ ap (λ g. length (slots g.schema)) shot ∙ sym (kept_length how base.shot)

  -- how many are new
  pub parts_new : length (new_parts kept parts) ≡ new_columns base how
  parts_new = length_new kept parts parts_told

  module _ (numbered : IsNumbered m.next_column base) where
    known : KnowsBelow (length base.columns) kept
    known i n e = omega (arith, known_kept how base.shot i n e, numbered.wide)

    once : KeepsOnce kept
    once i j n a b = once_kept how base.shot i j n a b

    below : (c : ℕ) → Contains base.columns c → c < m.next_column
    below c h = (numbered.within c h).1

    -- ---- what it keeps and what is new

    kept_part : (rs : List Snap) → Contains rs base → (k n c : ℕ) → slice_get kept k ≡ Some (Some n) → slice_get s.columns k ≡ Some c → IsKeptPart rs (part_in s.shot k) c
    unfolding part_in
    kept_part rs root k n c at e =
        let lt = known k n at in
        let q : slice_index_or base.columns n 0 ≡ c
        = same_Some (slice_index_or base.columns n 0) c (sym (ap (λ l. slice_get l k) columns ∙ number_kept base.columns m.next_column kept k n at) ∙ e) in
        let of_base : slice_get base.columns n ≡ Some c = slice_get-get_or base.columns n 0 lt ∙ ap (λ x. Some x) q in
        let part = is.shares.same k n (ap (λ l. slice_get l k) is.kept ∙ at) in
        (base, n, root, of_base, sym part ∙ ap (λ g. slice_get (graph_parts g) k) own_shot)

    new_part : (k c : ℕ) → slice_get kept k ≡ Some None → slice_get s.columns k ≡ Some c → IsNewPart m.next_column (new_parts kept parts) (part_in s.shot k) c
    unfolding part_in
    new_part k c at e =
        let new = number_new base.columns m.next_column kept parts k parts_told at in
        let q : m.next_column + new.0 ≡ c = same_Some (m.next_column + new.0) c (sym (ap (λ l. slice_get l k) columns ∙ new.1) ∙ e) in
        let lt : k < length parts = omega (arith, parts_told, get_below kept k None at) in
        let d : Part = RowsOf [] in
        let own = slice_get-get_or parts k d lt in
        (new.0, get_or parts k d, q, new.2 ∙ own, own)

    part_at : (rs : List Snap) → Contains rs base → (k c : ℕ) (x : Option ℕ) → slice_get kept k ≡ Some x → slice_get s.columns k ≡ Some c
        → IsKeptPart rs (part_in s.shot k) c ⊎ IsNewPart m.next_column (new_parts kept parts) (part_in s.shot k) c
    part_at rs root k c (Some n) at e = inl (kept_part rs root k n c at e)
    part_at rs root k c None at e = inr (new_part k c at e)

    told_at : (k c : ℕ) → slice_get s.columns k ≡ Some c → slice_get kept k ≡ Some (get_or kept k None)
    told_at k c e =
        let lt : k < length kept = omega (arith, get_below s.columns k c e, ap (λ (l : List ℕ). length l) columns, length_numbers base.columns m.next_column kept) in
        slice_get-get_or kept k None lt

    pub derived_comes : (rs : List Snap) → Contains rs base → Comes rs m.next_column s (numbers_kept base.columns kept) (new_parts kept parts)
    derived_comes rs root = record {
      numbers = λ c.
          omega (arith, ap (times c) columns, times_numbers base.columns c m.next_column kept, ap (λ n. times c (range_with_len m.next_column n)) (length_new kept parts parts_told));
      used = λ c h. let of_base = kept_in base.columns c kept known h in own_use c base rs root (in_of_get c base.columns of_base.1 of_base.3);
      parts = λ k c e. part_at rs root k c (get_or kept k None) (told_at k c e) e;
    }

    -- ---- its numbers

    within_kept : (c : ℕ) → Contains (numbers_kept base.columns kept) c → (1 ≤ c) × (c < m.next_column + new_columns base how)
    within_kept c h =
        let of_base = kept_in base.columns c kept known h in
        let w = numbered.within c (in_of_get c base.columns of_base.1 of_base.3) in
        (w.0, omega (arith, w.1))

    within_new : (c : ℕ) → 1 ≤ m.next_column → Contains (range_with_len m.next_column (new_count kept)) c → (1 ≤ c) × (c < m.next_column + new_columns base how)
    within_new c first h = let r = in_range m.next_column (new_count kept) c h in (omega (arith, r.0, first), r.1)

    within_either : (c k n : ℕ) → k ≡ times c (numbers_kept base.columns kept) → n ≡ times c (range_with_len m.next_column (new_count kept)) → 1 ≤ m.next_column → 0 < k + n
        → (1 ≤ c) × (c < m.next_column + new_columns base how)
    within_either c zero n a b first lt = within_new c first (in_times [] c (range_with_len m.next_column (new_count kept)) (omega (arith, b, lt)))
    within_either c (suc k) n a b first lt = within_kept c (in_times [] c (numbers_kept base.columns kept) (omega (arith, a)))

    within_at : (c : ℕ) → 1 ≤ m.next_column → Contains (numbers_by base.columns m.next_column kept) c → (1 ≤ c) × (c < m.next_column + new_columns base how)
    within_at c first h =
        within_either c (times c (numbers_kept base.columns kept)) (times c (range_with_len m.next_column (new_count kept))) refl refl first
        (omega (arith, times_in c (numbers_by base.columns m.next_column kept) h, times_numbers base.columns c m.next_column kept))

    pub derived_numbered : 1 ≤ m.next_column → IsNumbered (m.next_column + new_columns base how) s
    derived_numbered first = record {
      wide =
          ap (λ (l : List ℕ). length l) columns ∙ length_numbers base.columns m.next_column kept ∙ kept_length how base.shot ∙ sym (ap (λ g. length (slots g.schema)) shot);
      within = λ c h. within_at c first (subst (λ (l : List ℕ). Contains l c) columns h);
      differ = λ c. subst (λ (l : List ℕ). times c l ≤ 1) (sym columns) (numbers_differ base.columns m.next_column kept known once below c (numbered.differ c));
    }

-- what comes of what was built
module _ (m : State) (base : Snap) (built : Built) (c : Coming) (root : Contains (roots m) base) (first : 1 ≤ m.next_column) (numbered : IsNumbered m.next_column base)
    (limit : length (slots base.shot.schema) ≤ 2208) (told : c.snap ≡ snap_of_built m base built) (kept_is : c.kept ≡ numbers_kept base.columns built.kept)
    (new_is : c.new ≡ new_parts built.kept (graph_parts built.shot)) where
  pub arrives : (how : How) → IsDerived how base.shot built → Arrives m base how c
  arrives how is =
      let same : c.snap ≡ derived m base how
      = told ∙ ap (λ g. record { sid = m.next_sid; front = 0; shot = g; columns = numbers_by base.columns m.next_column built.kept }) is.shot
      ∙ ap (λ k. record { sid = m.next_sid; front = 0; shot = derived_graph how base.shot; columns = numbers_by base.columns m.next_column k }) is.kept in
      let shot : built.shot ≡ c.snap.shot = sym (ap (λ (x : Snap). x.shot) told) in
      let new : c.new ≡ new_parts (kept_by how base.shot) (graph_parts c.snap.shot)
      = new_is ∙ ap (λ k. new_parts k (graph_parts built.shot)) is.kept ∙ ap (λ g. new_parts (kept_by how base.shot) (graph_parts g)) shot in
      let kept : c.kept ≡ numbers_kept base.columns (kept_by how base.shot) = kept_is ∙ ap (numbers_kept base.columns) is.kept in
      let count : length c.new ≡ new_columns base how = ap (λ (l : List Part). length l) new ∙ parts_new m base how built c.snap is same in
      record {
        allowed = is.allowed;
        snap = same;
        count = count;
        few = omega (arith, count, few_new how base.shot, limit);
        numbered = subst (λ n. IsNumbered (m.next_column + n) c.snap) (sym count) (derived_numbered m base how built c.snap is same numbered first);
        comes = rw (kept, new) (derived_comes m base how built c.snap is same numbered (roots m) root);
      }
