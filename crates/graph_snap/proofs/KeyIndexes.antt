-- indexes of the keys that parts hold
use Rattle.std.proofs.Common.{◌≡◌, ℕ, zero, suc, ◌+◌, ◌<◌, ℤ, List, [], ◌∷◌, ◌++◌, Option, Some, option_map, length, get_or, map, slice_get, ap, sym, ◌∙◌, arith, length-append}
use Rattle.std.proofs.lemmas.List.{length-map}
use Rattle.std.proofs.lemmas.Option.{slice_get-map, same_Some}
use Rattle.column_types.specs.Column.{ColumnData}
use Rattle.graph_schema.specs.Schema.{SchemaData}
use Rattle.graph_model.specs.Graph.{GraphData, IsGraph, vertex_key, edge_key}
use Rattle.graph_model.proofs.Zips.{AllZip-length}
use Rattle.graph_slots.specs.declared.part.Part.{Part}
use Rattle.graph_slots.specs.declared.part.Part.TheVariants.{Cells, Rows}
use Rattle.graph_slots.specs.declared.slot.SlotName.TheVariants.{VertexKey, EdgeKey}
use Rattle.graph_slots.specs.Slots.{slots}
use Rattle.graph_slots.specs.Meaning.{slot_value, longs}
use Rattle.graph_columns.specs.Keys.{keys_of, IsKeyColumn, vertex_keys, edge_keys, vertex_keys_at, edge_keys_at}
use Rattle.graph_columns.proofs.Tables.{keys_of-key_column, is_keys, keys_told, index_at}
use Rattle.graph_slots.specs.Numbers.{slot_number}
use Rattle.graph_snap.specs.Seen.{Stands, graph_of}
use Rattle.graph_snap.specs.Sharing.{graph_parts}
use Rattle.graph_snap.specs.Indexes.{part_keys, slot_keys, AreIndexes}
use Rattle.graph_snap.proofs.GraphOf.{slot_part}
use Rattle.graph_snap.proofs.Known.{slot_known}
use Rattle.graph_snap.proofs.Readers.{same_cells, got}

-- ---- a part that is a column of keys

-- the keys that a slot is known to hold
pub keys_told_by : (parts : List Part) (slot : ℕ) (keys : List ℤ) → slice_get parts slot ≡ Some (longs keys) → keys ≡ slot_keys parts slot
keys_told_by parts slot keys e = sym (ap part_keys e ∙ keys_of-key_column keys)

pub keys_there : (parts : List Part) (slot : ℕ) (keys : List ℤ) → slice_get parts slot ≡ Some (longs keys) → slice_get parts slot ≡ Some (longs (slot_keys parts slot))
keys_there parts slot keys e = e ∙ ap (λ ks. Some (longs ks)) (keys_told_by parts slot keys e)

pub record HoldsSlotKeys (parts : List Part) (slot : ℕ) (c : ColumnData) : Type 0 where
  pub is : IsKeyColumn c
  pub keys : keys_of c ≡ slot_keys parts slot

pub holds_slot_keys : (parts : List Part) (slot : ℕ) (c : ColumnData) → slice_get parts slot ≡ Some (longs (slot_keys parts slot)) → slice_get parts slot ≡ Some (Cells c) → HoldsSlotKeys parts slot c
holds_slot_keys parts slot c e there =
    let same = same_cells _ _ (same_Some _ _ (sym there ∙ e)) in
    record { is = is_keys (slot_keys parts slot) c same; keys = keys_told (slot_keys parts slot) c same }

pub no_rows : (parts : List Part) (slot : ℕ) (rows : List (List ℕ)) → slice_get parts slot ≡ Some (longs (slot_keys parts slot)) → slice_get parts slot ≡ Some (Rows rows) → ⊥
no_rows parts slot rows e there =
    let apart : Some (Rows rows) ≡ Some (longs (slot_keys parts slot)) = sym there ∙ e in
    cc

-- ---- the slots of keys

pub vertex_slot : (s : SchemaData) (parts : List Part) (t slot : ℕ) → Stands (graph_of s parts) parts → t < length s.vertices → slot ≡ slot_number s (VertexKey t) → slice_get parts slot ≡ Some (longs (vertex_keys_at (graph_of s parts) t))
vertex_slot s parts t slot stands h number = ap (slice_get parts) number ∙ slot_part (graph_of s parts) parts (VertexKey t) stands h

pub edge_slot : (s : SchemaData) (parts : List Part) (t slot : ℕ) → Stands (graph_of s parts) parts → t < length s.edges → slot ≡ slot_number s (EdgeKey t) → slice_get parts slot ≡ Some (longs (edge_keys_at (graph_of s parts) t))
edge_slot s parts t slot stands h number = ap (slice_get parts) number ∙ slot_part (graph_of s parts) parts (EdgeKey t) stands h

pub vertex_index_there : (s : SchemaData) (parts : List Part) (t slot : ℕ) (index : List ℤ) → Stands (graph_of s parts) parts → t < length s.vertices → slot ≡ slot_number s (VertexKey t) → index ≡ slot_keys parts slot → slice_get (vertex_keys (graph_of s parts)) t ≡ Some index
vertex_index_there s parts t slot index stands h number is =
    let g = graph_of s parts in
    let within : t < length g.vertices = omega (arith, AllZip-length _ _ _ stands.graph.vertices) in
    got (map vertex_key) g.vertices t [] within
    ∙ ap Some (keys_told_by parts slot (vertex_keys_at g t) (vertex_slot s parts t slot stands h number) ∙ sym is)

pub edge_index_there : (s : SchemaData) (parts : List Part) (t slot : ℕ) (index : List ℤ) → Stands (graph_of s parts) parts → t < length s.edges → slot ≡ slot_number s (EdgeKey t) → index ≡ slot_keys parts slot → slice_get (edge_keys (graph_of s parts)) t ≡ Some index
edge_index_there s parts t slot index stands h number is =
    let g = graph_of s parts in
    let within : t < length g.edges = omega (arith, AllZip-length _ _ _ stands.graph.edges) in
    got (map edge_key) g.edges t [] within
    ∙ ap Some (keys_told_by parts slot (edge_keys_at g t) (edge_slot s parts t slot stands h number) ∙ sym is)

pub vertex_indexes_long : (g : GraphData) (all : List (List ℤ)) → IsGraph g → all ≡ vertex_keys g → length all ≡ length g.schema.vertices
vertex_indexes_long g all is are = ap length are ∙ length-map g.vertices (map vertex_key) ∙ sym (AllZip-length _ _ _ is.vertices)

pub edge_indexes_long : (g : GraphData) (all : List (List ℤ)) → IsGraph g → all ≡ edge_keys g → length all ≡ length g.schema.edges
edge_indexes_long g all is are = ap length are ∙ length-map g.edges (map edge_key) ∙ sym (AllZip-length _ _ _ is.edges)

-- what a snapshot's index of a table holds is what the slot of the table's keys holds
pub shared_vertex_index : (g : GraphData) (slot t : ℕ) (all : List (List ℤ)) (index : List ℤ) → IsGraph g → slice_get (slots g.schema) slot ≡ Some (VertexKey t) → all ≡ vertex_keys g → index ≡ get_or all t index → slice_get (graph_parts g) slot ≡ Some (longs index)
shared_vertex_index g slot t all index is name are at =
    let within : t < length all = omega (arith, slot_known g.schema slot (VertexKey t) name, vertex_indexes_long g all is are) in
    slice_get-map (slot_value g) (slots g.schema) slot ∙ ap (option_map (slot_value g)) name
    ∙ ap (λ ks. Some (longs ks)) (sym (index_at vertex_key g.vertices all t index are within at))

pub shared_edge_index : (g : GraphData) (slot t : ℕ) (all : List (List ℤ)) (index : List ℤ) → IsGraph g → slice_get (slots g.schema) slot ≡ Some (EdgeKey t) → all ≡ edge_keys g → index ≡ get_or all t index → slice_get (graph_parts g) slot ≡ Some (longs index)
shared_edge_index g slot t all index is name are at =
    let within : t < length all = omega (arith, slot_known g.schema slot (EdgeKey t) name, edge_indexes_long g all is are) in
    slice_get-map (slot_value g) (slots g.schema) slot ∙ ap (option_map (slot_value g)) name
    ∙ ap (λ ks. Some (longs ks)) (sym (index_at edge_key g.edges all t index are within at))

-- ---- indexes that are known

pub record AreKnown (parts : List Part) (known : List (Option (List ℤ))) (i : ℕ) : Type 0 where
  pub long : length known ≡ i
  pub are : AreIndexes parts known

last_index : (parts : List Part) (known : List (Option (List ℤ))) (x : Option (List ℤ)) (base : ℕ) (part : Part) → slice_get parts (base + length known) ≡ Some part → ((keys : List ℤ) → x ≡ Some keys → part ≡ longs keys) → ((slot : ℕ) (keys : List ℤ) → slice_get known slot ≡ Some (Some keys) → slice_get parts (base + slot) ≡ Some (longs keys)) → (slot : ℕ) (keys : List ℤ) → slice_get (known ++ x ∷ []) slot ≡ Some (Some keys) → slice_get parts (base + slot) ≡ Some (longs keys)
last_index parts [] x base part there told are zero keys e =
    let is : x ≡ Some keys = same_Some _ _ e in
    there ∙ ap Some (told keys is)
last_index parts [] x base part there told are (suc slot) keys e = cc
last_index parts (k ∷ known) x base part there told are zero keys e = are 0 keys e
last_index parts (k ∷ known) x base part there told are (suc slot) keys e =
    let shift : (n : ℕ) → base + suc n ≡ (base + 1) + n = λ n. omega arith in
    ap (slice_get parts) (shift slot)
    ∙ last_index parts known x (base + 1) part (ap (slice_get parts) (sym (shift (length known))) ∙ there) told (λ m ks f. ap (slice_get parts) (sym (shift m)) ∙ are (suc m) ks f) slot keys e

from_zero : (n : ℕ) → 0 + n ≡ n
from_zero n = omega arith

pub known_more : (parts : List Part) (i : ℕ) (part : Part) (x : Option (List ℤ)) (before after : List (Option (List ℤ))) → slice_get parts i ≡ Some part → ((keys : List ℤ) → x ≡ Some keys → part ≡ longs keys) → AreKnown parts before i → after ≡ before ++ x ∷ [] → AreKnown parts after (i + 1)
known_more parts i part x before after there told so_far grown =
    let at : 0 + length before ≡ i = from_zero (length before) ∙ so_far.long in
    let all = last_index parts before x 0 part (ap (slice_get parts) at ∙ there) told (λ slot keys e. ap (slice_get parts) (from_zero slot) ∙ so_far.are slot keys e) in
    record {
      long = ap length grown ∙ length-append before (x ∷ []) ∙ ap (λ n. n + 1) so_far.long;
      are = λ slot keys e. ap (slice_get parts) (sym (from_zero slot)) ∙ all slot keys (ap (λ ks. slice_get ks slot) (sym grown) ∙ e);
    }
