-- the changed graph keeps no slot of the graph twice
use Rattle.std.proofs.Common.{◌≡◌, ℕ, ◌<◌, Option, Some, None, option_map, length, slice_get, map, refl, ap, sym, ◌∙◌, subst}
use Rattle.std.proofs.lemmas.Option.{slice_get_within, same_Some}
use Rattle.graph_schema.specs.Schema.{SchemaData}
use Rattle.graph_model.specs.Graph.{GraphData}
use Rattle.graph_slots.specs.declared.slot.SlotName.{SlotName}
use Rattle.graph_slots.specs.declared.slot.SlotName.TheVariants.{VertexKey, VertexProp, EdgeKey, Source, Destination, Out, Into, EdgeProp}
use Rattle.graph_slots.specs.Slots.{slots}
use Rattle.graph_slots.specs.Numbers.{slot_number, HasSlot}
use Rattle.graph_slots.proofs.SlotAt.{slot_at}
use Rattle.graph_slots.proofs.KeptSlots.{comes, number_at}
use Rattle.graph_snap.proofs.Known.{slot_known}
use Rattle.graph_mutate.specs.declared.mutation.Mutation.{Mutation}
use Rattle.graph_mutate.specs.declared.mutation.Mutation.TheVariants.{Clone, Transpose, Undirect, Simplify, SortByDegree}
use Rattle.graph_mutate.specs.Transposed.{turned_slot}
use Rattle.graph_mutate.specs.Mutated.{mutated, of_vertex_table, kept_from, kept_slots}
use Rattle.graph_mutate.proofs.Turned.{slots_turned, turned_known}

-- ---- which slot is kept

-- the slot that keeps a slot of the graph, where some slot does
abbrev keeper : Mutation → SlotName → SlotName
keeper Clone y = y
keeper Transpose y = turned_slot y
keeper Undirect y = y
keeper Simplify y = y
keeper SortByDegree y = y

turned_back : (x : SlotName) → turned_slot (turned_slot x) ≡ x
turned_back (VertexKey t) = refl
turned_back (VertexProp t p) = refl
turned_back (EdgeKey t) = refl
turned_back (Source t) = refl
turned_back (Destination t) = refl
turned_back (Out t) = refl
turned_back (Into t) = refl
turned_back (EdgeProp t p) = refl

vertex_slot_same : (x y : SlotName) → of_vertex_table x ≡ Some y → x ≡ y
vertex_slot_same (VertexKey t) y e = same_Some _ _ e
vertex_slot_same (VertexProp t p) y e = same_Some _ _ e
vertex_slot_same (EdgeKey t) y e = cc
vertex_slot_same (Source t) y e = cc
vertex_slot_same (Destination t) y e = cc
vertex_slot_same (Out t) y e = cc
vertex_slot_same (Into t) y e = cc
vertex_slot_same (EdgeProp t p) y e = cc

keeper_is : (how : Mutation) (x y : SlotName) → kept_from how x ≡ Some y → x ≡ keeper how y
keeper_is Clone x y e = same_Some _ _ e
keeper_is Transpose x y e = sym (turned_back x) ∙ ap turned_slot (same_Some _ _ e)
keeper_is Undirect x y e = vertex_slot_same x y e
keeper_is Simplify x y e = vertex_slot_same x y e
keeper_is SortByDegree x y e = cc

-- the graph has the slot that is kept
kept_there : (how : Mutation) (s : SchemaData) (x y : SlotName) → HasSlot s x → kept_from how x ≡ Some y → HasSlot s y
kept_there Clone s x y has e = subst (HasSlot s) (same_Some _ _ e) has
kept_there Transpose s x y has e = subst (HasSlot s) (same_Some _ _ e) (turned_known s x has)
kept_there Undirect s x y has e = subst (HasSlot s) (vertex_slot_same x y e) has
kept_there Simplify s x y has e = subst (HasSlot s) (vertex_slot_same x y e) has
kept_there SortByDegree s x y has e = cc

-- ---- the slots of the changed graph

same_slots : (how : Mutation) (g : GraphData) → slots (mutated how g).schema ≡ slots g.schema
same_slots Clone g = refl
same_slots Transpose g = slots_turned g.schema
same_slots Undirect g = refl
same_slots Simplify g = refl
same_slots SortByDegree g = refl

-- the slot at a place, and the slot of the graph that it keeps, whose number is n
record KeepsAt (how : Mutation) (s : SchemaData) (i n : ℕ) : Type 0 where
  slot : SlotName
  kept : SlotName
  there : slice_get (slots s) i ≡ Some slot
  keeps : slot ≡ keeper how kept
  named : slice_get (slots s) n ≡ Some kept

number_of_some : (s : SchemaData) (o : Option SlotName) (n : ℕ) → option_map (slot_number s) o ≡ Some n → (y : SlotName) × (o ≡ Some y) × (slot_number s y ≡ n)
number_of_some s None n e = cc
number_of_some s (Some y) n e = (y, refl, same_Some _ _ e)

keeps_at : (how : Mutation) (g : GraphData) (i n : ℕ) → slice_get (kept_slots how g) i ≡ Some (Some n) → KeepsAt how g.schema i n
keeps_at how g i n e =
    let s = g.schema in
    let number : SlotName → Option ℕ = λ x. option_map (slot_number s) (kept_from how x) in
    let at = comes number (slots s) i (Some n) (ap (λ xs. slice_get (map number xs) i) (sym (same_slots how g)) ∙ e) in
    let kept = number_of_some s (kept_from how at.item) n at.gives in
    let has = kept_there how s at.item kept.0 (slot_known s i at.item at.there) kept.1 in
    record {
      slot = at.item;
      kept = kept.0;
      there = at.there;
      keeps = keeper_is how at.item kept.0 kept.1;
      named = ap (slice_get (slots s)) (sym kept.2) ∙ slot_at s kept.0 has;
    }

-- ---- the law

pub kept_once : (how : Mutation) (g : GraphData) (i j n : ℕ) → slice_get (kept_slots how g) i ≡ Some (Some n) → slice_get (kept_slots how g) j ≡ Some (Some n) → i ≡ j
kept_once how g i j n first second =
    let s = g.schema in
    let a = keeps_at how g i n first in
    let b = keeps_at how g j n second in
    let kept : a.kept ≡ b.kept = same_Some _ _ (sym a.named ∙ b.named) in
    let slot : a.slot ≡ b.slot = a.keeps ∙ ap (keeper how) kept ∙ sym b.keeps in
    sym (number_at s i a.slot a.there) ∙ ap (slot_number s) slot ∙ number_at s j b.slot b.there

pub kept_known : (how : Mutation) (g : GraphData) (i n : ℕ) → slice_get (kept_slots how g) i ≡ Some (Some n) → n < length (slots g.schema)
kept_known how g i n e = let at = keeps_at how g i n e in slice_get_within (slots g.schema) n at.kept at.named

pub as_many_slots : (how : Mutation) (g : GraphData) → length (slots (mutated how g).schema) ≡ length (slots g.schema)
as_many_slots how g = ap length (same_slots how g)
