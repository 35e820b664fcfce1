-- the slots of a graph after changes, and the snapshot that they give
use Rattle.std.proofs.Common.{◌≡◌, ◌<◌, ℕ, Bool, true, false, List, [], All, option_map, length, get_or, map, refl, ap, sym, ◌∙◌, subst}
use Rattle.std.proofs.lemmas.List.Elements.{All-map}
use Rattle.std.proofs.lemmas.Option.{slice_get_within, get_or_from_slice_get, slice_get-map, slice_get-get_or}
use Rattle.graph_schema.specs.Schema.{SchemaData}
use Rattle.graph_model.specs.declared.change.Change.{Change}
use Rattle.graph_model.specs.Graph.{GraphData, IsGraph}
use Rattle.graph_slots.specs.declared.slot.SlotName.{SlotName}
use Rattle.graph_slots.specs.declared.part.Part.{Part}
use Rattle.graph_slots.specs.declared.part.Part.TheVariants.{Rows}
use Rattle.graph_slots.specs.Slots.{slots}
use Rattle.graph_slots.specs.Meaning.{slot_value}
use Rattle.graph_slots.specs.Numbers.{slot_number, HasSlot}
use Rattle.graph_slots.specs.Touched.{touched, number_unless}
use Rattle.graph_slots.proofs.SlotAt.{slot_at}
use Rattle.graph_slots.proofs.Kept.{map_map, map_same, fold_kept}
use Rattle.graph_slots.proofs.More.{schema_stays}
use Rattle.graph_model.proofs.Graphs.{fold_keeps}
use Rattle.graph_snap.specs.declared.derived.Derived.{Derived}
use Rattle.graph_snap.specs.Seen.{Stands, graph_of}
use Rattle.graph_snap.specs.Sharing.{graph_parts, IsKnown, part_of, parts_of, kept_of}
use Rattle.graph_snap.proofs.Known.{slot_known, assembled_stands, assembled_is}
use Rattle.delta_fold.specs.declared.marks.Marks.{Marks}
use Rattle.delta_fold.specs.Marked.{is_marked}
use Rattle.delta_fold.specs.Folded.{folded, kept_slots, derived_if, folded_slot, folded_slots}
use Rattle.delta_fold.specs.Pieces.{derived_slot}

-- ---- one slot

record Holds (base new : GraphData) (x : SlotName) (d : Derived) : Type 0 where
  known : IsKnown base d
  part : part_of base d ≡ slot_value new x

holds_by : (base new : GraphData) (x : SlotName) (b : Bool) → HasSlot base.schema x → (b ≡ false → slot_value base x ≡ slot_value new x) → Holds base new x (derived_if b (slot_value new x) (slot_number base.schema x))
holds_by base new x true has same = record { known = tt; part = refl }
holds_by base new x false has same =
    let s = base.schema in
    let n = slot_number s x in
    let named = slot_at s x has in
    record {
      known = slice_get_within (slots s) n x named;
      part = get_or_from_slice_get (graph_parts base) n (slot_value base x) (Rows []) (slice_get-map (slot_value base) (slots s) n ∙ ap (option_map (slot_value base)) named) ∙ same refl;
    }

holds : (g : GraphData) (changes : List Change) → IsGraph g → (i : ℕ) (d : SlotName) → i < length (slots g.schema) → Holds g (folded g changes) (get_or (slots g.schema) i d) (folded_slot g changes (get_or (slots g.schema) i d))
holds g changes is i d h =
    let s = g.schema in
    let x = get_or (slots s) i d in
    let has = slot_known s i x (slice_get-get_or (slots s) i d h) in
    holds_by g (folded g changes) x (touched g changes x) has (λ untouched. sym (fold_kept g changes x is untouched))

kept_by : (s : SchemaData) (part : Part) (x : SlotName) (b : Bool) → kept_of (derived_if b part (slot_number s x)) ≡ number_unless b s x
kept_by s part x true = refl
kept_by s part x false = refl

-- ---- all slots

pub folded_known : (g : GraphData) (changes : List Change) (derived : List Derived) → IsGraph g → derived ≡ folded_slots g changes → All (IsKnown g) derived
folded_known g changes derived is are =
    subst (All (IsKnown g)) (sym are) (All-map (IsKnown g) (folded_slot g changes) (slots g.schema) (λ i d h. (holds g changes is i d h).known))

folded_parts : (g : GraphData) (changes : List Change) (derived : List Derived) → IsGraph g → derived ≡ folded_slots g changes → parts_of g derived ≡ map (slot_value (folded g changes)) (slots (folded g changes).schema)
folded_parts g changes derived is are =
    let names = slots g.schema in
    let f = folded_slot g changes in
    let v = slot_value (folded g changes) in
    ap (parts_of g) are
    ∙ map_map f (part_of g) (λ x. part_of g (f x)) names (λ x. refl)
    ∙ map_same (λ x. part_of g (f x)) v names (λ i d h. (holds g changes is i d h).part)
    ∙ ap (λ s. map v (slots s)) (sym (schema_stays g changes))

pub folded_stands : (g : GraphData) (changes : List Change) (s : SchemaData) (derived : List Derived) → IsGraph g → s ≡ g.schema → derived ≡ folded_slots g changes → Stands (graph_of s (parts_of g derived)) (parts_of g derived)
folded_stands g changes s derived is schema are = assembled_stands (folded g changes) s (parts_of g derived) (fold_keeps g changes is) (schema ∙ sym (schema_stays g changes)) (folded_parts g changes derived is are)

pub folded_is : (g : GraphData) (changes : List Change) (s : SchemaData) (derived : List Derived) → IsGraph g → s ≡ g.schema → derived ≡ folded_slots g changes → graph_of s (parts_of g derived) ≡ folded g changes
folded_is g changes s derived is schema are = assembled_is (folded g changes) s (parts_of g derived) (fold_keeps g changes is) (schema ∙ sym (schema_stays g changes)) (folded_parts g changes derived is are)

pub folded_kept : (g : GraphData) (changes : List Change) (derived : List Derived) → derived ≡ folded_slots g changes → map kept_of derived ≡ kept_slots g changes
folded_kept g changes derived are =
    let s = g.schema in
    ap (map kept_of) are
    ∙ map_map (folded_slot g changes) kept_of (λ x. number_unless (touched g changes x) s x) (slots s) (λ x. kept_by s (slot_value (folded g changes) x) x (touched g changes x))

-- ---- marks are what is touched

pub marked_are : (g : GraphData) (changes : List Change) (graph : GraphData) (marks : Marks) (derived : List Derived) → graph ≡ folded g changes → ((x : SlotName) → HasSlot g.schema x → is_marked g.schema marks x ≡ touched g changes x) → derived ≡ map (derived_slot g.schema graph marks) (slots g.schema) → derived ≡ folded_slots g changes
marked_are g changes graph marks derived same marked are =
    let s = g.schema in
    let names = slots s in
    are ∙ ap (λ (h : GraphData). map (derived_slot s h marks) names) same
    ∙ map_same (derived_slot s (folded g changes) marks) (folded_slot g changes) names
    (λ i d h. ap (λ b. derived_if b (slot_value (folded g changes) (get_or names i d)) (slot_number s (get_or names i d))) (marked (get_or names i d) (slot_known s i (get_or names i d) (slice_get-get_or names i d h))))
