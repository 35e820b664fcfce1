-- What is derived from a graph has as many slots as the graph, and keeps none of its slots twice.
use Rattle.std.proofs.Common.{◌≡◌, ℕ, ◌+◌, ◌<◌, ◌≤◌, List, [], ◌∷◌, Option, Some, None, Bool, true, false, refl, sym, ap, ◌∙◌, arith, length, map}
use Rattle.std.specs.Prelude.{slice_get}
use Rattle.std.proofs.lemmas.Option.{none-some, same_Some}
use Rattle.std.proofs.lemmas.List.{length-map}
use Rattle.graph_schema.specs.Schema.{SchemaData}
use Rattle.graph_model.specs.Graph.{GraphData}
use Rattle.graph_model.specs.declared.change.Change.{Change}
use Rattle.graph_slots.specs.declared.slot.SlotName.{SlotName}
use Rattle.graph_slots.specs.Slots.{slots}
use Rattle.graph_slots.specs.Numbers.{slot_number}
use Rattle.graph_slots.specs.Touched.{touched, number_unless}
use Rattle.graph_slots.proofs.More.{schema_stays}
use Rattle.graph_slots.proofs.KeptSlots.{numbers_once, numbers_known}
use Rattle.graph_mutate.specs.Mutated.{mutated, kept_from}
use Rattle.graph_mutate.proofs.KeptSlots.{kept_once, kept_known, as_many_slots}
use Rattle.catalogue_state.specs.declared.ask.How.{How}
use Rattle.catalogue_state.specs.declared.ask.How.TheVariants.{Mutate, Changes}
use Rattle.catalogue_state.specs.Derived.{derived_graph, kept_by, new_count}

pub slots_derived : (how : How) (g : GraphData) → length (slots (derived_graph how g).schema) ≡ length (slots g.schema)
slots_derived (Mutate how) g = as_many_slots how g
slots_derived (Changes changes) g = ap (λ s. length (slots s)) (schema_stays g changes)

-- for each slot it is told which it keeps
pub kept_length : (how : How) (g : GraphData) → length (kept_by how g) ≡ length (slots (derived_graph how g).schema)
kept_length (Mutate how) g = length-map (slots (mutated how g).schema) _
kept_length (Changes changes) g = length-map (slots g.schema) _ ∙ sym (slots_derived (Changes changes) g)

few_at : (kept : List (Option ℕ)) → new_count kept ≤ length kept
few_at [] = omega arith
few_at (Some n ∷ kept) = omega (arith, few_at kept)
few_at (None ∷ kept) = omega (arith, few_at kept)

-- there are at most as many new columns as slots
pub few_new : (how : How) (g : GraphData) → new_count (kept_by how g) ≤ length (slots g.schema)
few_new how g = omega (arith, few_at (kept_by how g), kept_length how g, slots_derived how g)

-- a slot that no change touches keeps its own number
own_number : (s : SchemaData) (b : Bool) (x : SlotName) (n : ℕ) → number_unless b s x ≡ Some n → n ≡ slot_number s x
own_number s true x n e = absurd (none-some n e)
own_number s false x n e = sym (same_Some (slot_number s x) n e)

-- no slot is kept twice, and each that is kept is one of the base
pub once_kept : (how : How) (g : GraphData) (i j n : ℕ) → slice_get (kept_by how g) i ≡ Some (Some n) → slice_get (kept_by how g) j ≡ Some (Some n) → i ≡ j
once_kept (Mutate how) g i j n a b = kept_once how g i j n a b
once_kept (Changes changes) g i j n a b =
    numbers_once g.schema (λ x. number_unless (touched g changes x) g.schema x) (λ x k e. own_number g.schema (touched g changes x) x k e) i j n a b

pub known_kept : (how : How) (g : GraphData) (i n : ℕ) → slice_get (kept_by how g) i ≡ Some (Some n) → n < length (slots g.schema)
known_kept (Mutate how) g i n a = kept_known how g i n a
known_kept (Changes changes) g i n a =
    numbers_known g.schema (λ x. number_unless (touched g changes x) g.schema x) (λ x k e. own_number g.schema (touched g changes x) x k e) i n a
