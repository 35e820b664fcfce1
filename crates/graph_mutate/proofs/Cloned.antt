-- a graph that keeps all slots
use Rattle.std.proofs.Common.{◌≡◌, Some, refl, ap, sym, ◌∙◌, subst}
use Rattle.graph_model.specs.Graph.{GraphData, IsGraph}
use Rattle.graph_slots.specs.declared.slot.SlotName.{SlotName}
use Rattle.graph_slots.specs.Meaning.{slot_value}
use Rattle.graph_slots.specs.Numbers.{HasSlot}
use Rattle.graph_mutate.specs.Transposed.{transposed, turned_slot}
use Rattle.graph_mutate.proofs.Turned.{transposed_is, transposed_slot, slots_turned, turned_known}
use Rattle.graph_mutate.proofs.Deriving.{Changes}

same_name : (a b : SlotName) → Some a ≡ Some b → a ≡ b
same_name a b e = cc

pub clone_changes : (g : GraphData) → IsGraph g → Changes g g (λ x. Some x)
clone_changes g is = record {
  graph = is;
  names = refl;
  keeps = λ x y has e.
      let same = same_name x y e in
      record { has = subst (HasSlot g.schema) same has; same = ap (slot_value g) (sym same) };
}

pub transpose_changes : (g : GraphData) → IsGraph g → Changes g (transposed g) (λ x. Some (turned_slot x))
transpose_changes g is = record {
  graph = transposed_is g is;
  names = slots_turned g.schema;
  keeps = λ x y has e.
      let same = same_name (turned_slot x) y e in
      record { has = subst (HasSlot g.schema) same (turned_known g.schema x has); same = ap (slot_value g) (sym same) ∙ sym (transposed_slot g x) };
}
