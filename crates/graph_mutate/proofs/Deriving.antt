-- the slots of a changed graph, and the snapshot that they give
use Rattle.std.proofs.Common.{◌≡◌, ◌<◌, ℕ, zero, suc, List, [], ◌∷◌, Option, Some, None, Result, Ok, Err, IfOk, All, option_map, length, get_or, map, slice_get, refl, ap, sym, ◌∙◌, subst}
use Rattle.std.proofs.lemmas.List.{length-map}
use Rattle.std.proofs.lemmas.List.Elements.{All-map}
use Rattle.std.proofs.lemmas.Option.{slice_get_within, get_or_from_slice_get, slice_get-map, slice_get-get_or}
use Rattle.graph_model.specs.Graph.{GraphData, IsGraph}
use Rattle.graph_schema.specs.Schema.{SchemaData}
use Rattle.graph_slots.specs.declared.slot.SlotName.{SlotName}
use Rattle.graph_slots.specs.declared.part.Part.TheVariants.{Rows}
use Rattle.graph_slots.specs.Slots.{slots}
use Rattle.graph_slots.specs.Meaning.{slot_value}
use Rattle.graph_slots.specs.Numbers.{slot_number, HasSlot}
use Rattle.graph_slots.proofs.SlotAt.{slot_at}
use Rattle.graph_slots.proofs.Kept.{map_map, map_same}
use Rattle.graph_snap.specs.declared.derived.Derived.{Derived}
use Rattle.graph_snap.specs.declared.derived.Derived.TheVariants.{Kept}
use Rattle.graph_snap.specs.declared.built.Built.{Built}
use Rattle.graph_snap.specs.Seen.{Stands, graph_of}
use Rattle.graph_snap.specs.Sharing.{graph_parts, IsKnown, part_of, parts_of, kept_of, IsBuiltOn}
use Rattle.graph_snap.proofs.Known.{slot_known, assembled_stands, assembled_is}
use Rattle.graph_mutate.specs.declared.mutation.Mutation.{Mutation}
use Rattle.graph_mutate.specs.Mutated.{mutated, fault_of, kept_from, IsMutated}
use Rattle.graph_mutate.specs.Derives.{derived_slot, derived_slots}

-- a kept slot holds what the base's slot holds
pub record KeepsSlot (base new : GraphData) (x y : SlotName) : Type 0 where
  pub has : HasSlot base.schema y
  pub same : slot_value base y ≡ slot_value new x

-- a graph of the same slots, where `from` tells the slots that are kept
pub record Changes (base new : GraphData) (from : SlotName → Option SlotName) : Type 0 where
  pub graph : IsGraph new
  pub names : slots new.schema ≡ slots base.schema
  pub keeps : (x y : SlotName) → HasSlot base.schema x → from x ≡ Some y → KeepsSlot base new x y

-- ---- one slot

record Holds (base new : GraphData) (x : SlotName) (d : Derived) : Type 0 where
  known : IsKnown base d
  part : part_of base d ≡ slot_value new x

holds_kept : (base new : GraphData) (x y : SlotName) → KeepsSlot base new x y → Holds base new x (Kept (slot_number base.schema y))
holds_kept base new x y keeps =
    let s = base.schema in
    let n = slot_number s y in
    let named = slot_at s y keeps.has in
    record {
      known = slice_get_within (slots s) n y named;
      part = get_or_from_slice_get (graph_parts base) n (slot_value base y) (Rows []) (slice_get-map (slot_value base) (slots s) n ∙ ap (option_map (slot_value base)) named) ∙ keeps.same;
    }

holds_by : (base new : GraphData) (x : SlotName) (o : Option SlotName) → ((y : SlotName) → o ≡ Some y → KeepsSlot base new x y) → Holds base new x (derived_slot base new o x)
holds_by base new x None keeps = record { known = tt; part = refl }
holds_by base new x (Some y) keeps = holds_kept base new x y (keeps y refl)

holds : (base new : GraphData) (from : SlotName → Option SlotName) → Changes base new from → (i : ℕ) (d : SlotName) → i < length (slots base.schema) → Holds base new (get_or (slots base.schema) i d) (derived_slot base new (from (get_or (slots base.schema) i d)) (get_or (slots base.schema) i d))
holds base new from change i d h =
    let names = slots base.schema in
    let x = get_or names i d in
    holds_by base new x (from x) (λ y e. change.keeps x y (slot_known base.schema i x (slice_get-get_or names i d h)) e)

kept_by : (base new : GraphData) (x : SlotName) (o : Option SlotName) → kept_of (derived_slot base new o x) ≡ option_map (slot_number base.schema) o
kept_by base new x None = refl
kept_by base new x (Some y) = refl

-- ---- all slots

pub derived_known : (base new : GraphData) (from : SlotName → Option SlotName) (derived : List Derived) → Changes base new from → derived ≡ derived_slots base new from (slots base.schema) → All (IsKnown base) derived
derived_known base new from derived change are =
    subst (All (IsKnown base)) (sym are) (All-map (IsKnown base) (λ x. derived_slot base new (from x) x) (slots base.schema) (λ i d h. (holds base new from change i d h).known))

derived_parts : (base new : GraphData) (from : SlotName → Option SlotName) (derived : List Derived) → Changes base new from → derived ≡ derived_slots base new from (slots base.schema) → parts_of base derived ≡ map (slot_value new) (slots new.schema)
derived_parts base new from derived change are =
    ap (parts_of base) are
    ∙ map_map (λ x. derived_slot base new (from x) x) (part_of base) (λ x. part_of base (derived_slot base new (from x) x)) (slots base.schema) (λ x. refl)
    ∙ map_same (λ x. part_of base (derived_slot base new (from x) x)) (slot_value new) (slots base.schema) (λ i d h. (holds base new from change i d h).part)
    ∙ ap (map (slot_value new)) (sym change.names)

pub derived_stands : (base new : GraphData) (from : SlotName → Option SlotName) (s : SchemaData) (derived : List Derived) → Changes base new from → s ≡ new.schema → derived ≡ derived_slots base new from (slots base.schema) → Stands (graph_of s (parts_of base derived)) (parts_of base derived)
derived_stands base new from s derived change schema are = assembled_stands new s (parts_of base derived) change.graph schema (derived_parts base new from derived change are)

pub derived_is : (base new : GraphData) (from : SlotName → Option SlotName) (s : SchemaData) (derived : List Derived) → Changes base new from → s ≡ new.schema → derived ≡ derived_slots base new from (slots base.schema) → graph_of s (parts_of base derived) ≡ new
derived_is base new from s derived change schema are = assembled_is new s (parts_of base derived) change.graph schema (derived_parts base new from derived change are)

pub derived_kept : (base new : GraphData) (from : SlotName → Option SlotName) (derived : List Derived) → Changes base new from → derived ≡ derived_slots base new from (slots base.schema) → map kept_of derived ≡ map (λ x. option_map (slot_number base.schema) (from x)) (slots new.schema)
derived_kept base new from derived change are =
    ap (map kept_of) are
    ∙ map_map (λ x. derived_slot base new (from x) x) kept_of (λ x. option_map (slot_number base.schema) (from x)) (slots base.schema) (λ x. kept_by base new x (from x))
    ∙ ap (map (λ x. option_map (slot_number base.schema) (from x))) (sym change.names)

-- ---- the answer

pub is_mutated : (how : Mutation) (base : GraphData) (s : SchemaData) (derived : List Derived) (built : Built) → fault_of how base ≡ None → Changes base (mutated how base) (kept_from how) → s ≡ (mutated how base).schema → derived ≡ derived_slots base (mutated how base) (kept_from how) (slots base.schema) → built.shot ≡ graph_of s (parts_of base derived) → built.kept ≡ map kept_of derived → built.skipped ≡ 0 → IsMutated how base built
is_mutated how base s derived built allowed change schema are shot kept skipped = record {
  allowed = allowed;
  shot = shot ∙ derived_is base (mutated how base) (kept_from how) s derived change schema are;
  kept = kept ∙ derived_kept base (mutated how base) (kept_from how) derived change are;
  skipped = skipped;
}

pub answers_mutated : {E : Type 0} (how : Mutation) (base : GraphData) (s : SchemaData) (derived : List Derived) (result : Result Built E) → fault_of how base ≡ None → Changes base (mutated how base) (kept_from how) → s ≡ (mutated how base).schema → derived ≡ derived_slots base (mutated how base) (kept_from how) (slots base.schema) → IfOk result (λ built. built.shot ≡ graph_of s (parts_of base derived)) → IfOk result (λ built. built.kept ≡ map kept_of derived) → IfOk result (λ built. built.skipped ≡ 0) → IfOk result (IsMutated how base)
answers_mutated how base s derived (Ok built) allowed change schema are shot kept skipped = is_mutated how base s derived built allowed change schema are shot kept skipped
answers_mutated how base s derived (Err e) allowed change schema are shot kept skipped = tt

-- ---- where no slot is told as kept

abbrev no_number : SlotName → Option ℕ
no_number x = None

none_there : (xs : List SlotName) (slot n : ℕ) → slice_get (map no_number xs) slot ≡ Some (Some n) → ⊥
none_there [] slot n e = cc
none_there (x ∷ xs) zero n e = cc
none_there (x ∷ xs) (suc slot) n e = none_there xs slot n e

pub none_built : (base : GraphData) (built : Built) → slots built.shot.schema ≡ slots base.schema → built.kept ≡ map (λ _. None) (slots base.schema) → IsBuiltOn base built
none_built base built names none = record {
  each = ap length none ∙ length-map (slots base.schema) no_number ∙ ap length (sym names);
  known = λ slot n e. absurd (none_there (slots base.schema) slot n (ap (λ ks. slice_get ks slot) (sym none) ∙ e));
  same = λ slot n e. absurd (none_there (slots base.schema) slot n (ap (λ ks. slice_get ks slot) (sym none) ∙ e));
}
