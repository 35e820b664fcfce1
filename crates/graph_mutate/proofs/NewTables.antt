-- graphs of the same vertices and with new edge tables
use Rattle.std.proofs.Common.{◌≡◌, ℕ, ◌+◌, ◌*◌, ◌<◌, ◌≤◌, pos, List, [], ◌∷◌, ◌++◌, Some, All, length, map, take, slice_get, sum_by, refl, ap, sym, ◌∙◌, subst, arith, append-nil}
use Rattle.std.specs.List.{range_with_len}
use Rattle.std.proofs.lemmas.List.{length-map, map-append, take_all}
use Rattle.std.proofs.lemmas.Option.{slice_get_within, get_or_from_slice_get}
use Rattle.std.proofs.lemmas.List.FromFn.{length-range_with_len}
use Rattle.std.proofs.lemmas.List.Sums.{sum_by-cons, sum_by-append}
use Rattle.graph_schema.specs.declared.schema.VertexTable.{VertexTable}
use Rattle.graph_schema.specs.declared.schema.EdgeTable.{EdgeTable}
use Rattle.graph_model.specs.declared.row.EdgeRow.{EdgeRow}
use Rattle.graph_model.specs.Keys.{rows_at}
use Rattle.graph_model.specs.Graph.{GraphData, IsGraph, edge_key, edge_values, edge_props_at, edge_table_props}
use Rattle.graph_slots.specs.declared.slot.SlotName.{SlotName}
use Rattle.graph_slots.specs.declared.slot.SlotName.TheVariants.{VertexKey, VertexProp, EdgeKey, Source, Destination, Out, Into, EdgeProp}
use Rattle.graph_slots.specs.Slots.{slots, vertex_slots, edge_slots, vertex_table_slots, edge_table_slots}
use Rattle.graph_slots.specs.Meaning.{slot_value, longs, cells, places, edge_rows, value_at, edge_prop_kind, edge_prop_values, source_places, destination_places}
use Rattle.graph_slots.specs.Numbers.{slot_number, HasSlot}
use Rattle.graph_slots.proofs.Kept.{map_map}
use Rattle.graph_slots.proofs.Order.{edge_slots_more}
use Rattle.graph_columns.specs.TableParts.{integers, places_told}
use Rattle.graph_columns.proofs.ColumnTables.{told, are_places, integers_are}
use Rattle.graph_columns.proofs.SlotParts.{sources_few, destinations_few}
use Rattle.graph_columns.proofs.EndPlaces.{few_edges_in}
use Rattle.graph_snap.specs.declared.derived.Derived.{Derived}
use Rattle.graph_snap.specs.declared.derived.Derived.TheVariants.{Kept, New}
use Rattle.graph_mutate.specs.declared.edge_lists.EdgeLists.{EdgeLists}
use Rattle.graph_mutate.specs.Taken.{taken}
use Rattle.graph_mutate.specs.EdgeTables.{Tells, AreLists, taken_prop, list_parts, list_steps}
use Rattle.graph_mutate.specs.Mutated.{of_vertex_table}
use Rattle.graph_mutate.specs.Derives.{derived_slot, derived_slots}
use Rattle.graph_mutate.specs.Steps.{steps_unless_kept}
use Rattle.graph_mutate.proofs.Gathering.{map-taken, length-taken}
use Rattle.graph_mutate.proofs.EdgeTables.{edge_width}
use Rattle.graph_mutate.proofs.Deriving.{KeepsSlot, Changes}

abbrev pub with_edges : GraphData → List (List EdgeRow) → GraphData
with_edges g es = record { schema = g.schema; vertices = g.vertices; edges = es }

-- ---- vertex slots are kept

same_slot : (a b : SlotName) → Some a ≡ Some b → a ≡ b
same_slot a b e = cc

vertex_slot_kept : (g : GraphData) (es : List (List EdgeRow)) (x y : SlotName) → HasSlot g.schema x → of_vertex_table x ≡ Some y → KeepsSlot g (with_edges g es) x y
vertex_slot_kept g es (VertexKey t) y has e =
    let same = same_slot (VertexKey t) y e in
    record { has = subst (HasSlot g.schema) same has; same = ap (slot_value g) (sym same) }
vertex_slot_kept g es (VertexProp t p) y has e =
    let same = same_slot (VertexProp t p) y e in
    record { has = subst (HasSlot g.schema) same has; same = ap (slot_value g) (sym same) }
vertex_slot_kept g es (EdgeKey t) y has e = cc
vertex_slot_kept g es (Source t) y has e = cc
vertex_slot_kept g es (Destination t) y has e = cc
vertex_slot_kept g es (Out t) y has e = cc
vertex_slot_kept g es (Into t) y has e = cc
vertex_slot_kept g es (EdgeProp t p) y has e = cc

pub edges_change : (g : GraphData) (es : List (List EdgeRow)) → IsGraph (with_edges g es) → Changes g (with_edges g es) of_vertex_table
edges_change g es is = record { graph = is; names = refl; keeps = vertex_slot_kept g es }

pub vertices_derived : (g : GraphData) (es : List (List EdgeRow)) (t : ℕ) (xs : List VertexTable) → map (λ y. Kept (slot_number g.schema y)) (vertex_slots t xs) ≡ derived_slots g (with_edges g es) of_vertex_table (vertex_slots t xs)
vertices_derived g es t [] = refl
vertices_derived g es t (x ∷ xs) =
    let f : SlotName → Derived = λ y. Kept (slot_number g.schema y) in
    let h : SlotName → Derived = λ y. derived_slot g (with_edges g es) (of_vertex_table y) y in
    let width = range_with_len 0 (length x.props) in
    let props : map f (map (VertexProp t) width) ≡ map h (map (VertexProp t) width) =
    map_map (VertexProp t) f (λ p. f (VertexProp t p)) width (λ p. refl) ∙ sym (map_map (VertexProp t) h (λ p. f (VertexProp t p)) width (λ p. refl)) in
    map-append f (vertex_table_slots t x) (vertex_slots (t + 1) xs)
    ∙ ap (λ ds. (f (VertexKey t) ∷ ds) ++ map f (vertex_slots (t + 1) xs)) props
    ∙ ap (λ ds. map h (vertex_table_slots t x) ++ ds) (vertices_derived g es (t + 1) xs)
    ∙ sym (map-append h (vertex_table_slots t x) (vertex_slots (t + 1) xs))

pub no_steps : (f : SlotName → ℕ) (k : ℕ → SlotName) (ps : List ℕ) → ((p : ℕ) → f (k p) ≡ 0) → sum_by f (map k ps) ≡ 0
no_steps f k [] none = refl
no_steps f k (p ∷ ps) none = omega (arith, none p, sum_by-cons f (k p) (map k ps), no_steps f k ps none)

pub vertices_cost_nothing : (new : GraphData) (t : ℕ) (xs : List VertexTable) → sum_by (λ y. steps_unless_kept new y (of_vertex_table y)) (vertex_slots t xs) ≡ 0
vertices_cost_nothing new t [] = refl
vertices_cost_nothing new t (x ∷ xs) =
    let f : SlotName → ℕ = λ y. steps_unless_kept new y (of_vertex_table y) in
    let props = map (VertexProp t) (range_with_len 0 (length x.props)) in
    let none : sum_by f props ≡ 0 = no_steps f (VertexProp t) (range_with_len 0 (length x.props)) (λ p. refl) in
    omega (arith, none, sum_by-cons f (VertexKey t) props, sum_by-append f (vertex_table_slots t x) (vertex_slots (t + 1) xs), vertices_cost_nothing new (t + 1) xs)

-- ---- a table that lists tell

-- as many of each as the new table has edges
record Counted (n : ℕ) (e : EdgeLists) : Type 0 where
  keys : length e.keys ≡ n
  sources : length e.sources ≡ n
  destinations : length e.destinations ≡ n
  origins : length e.origins ≡ n

counted : (old new : GraphData) (t : ℕ) (e : EdgeLists) → Tells old new t e → Counted (length (rows_at new.edges t)) e
counted old new t e tells =
    let rows = rows_at new.edges t in
    let olds = map edge_values (rows_at old.edges t) in
    let within : All (λ p. p < length olds) e.origins = λ i d l. omega (arith, tells.origins i d l, length-map (rows_at old.edges t) edge_values) in
    record {
      keys = ap length tells.keys ∙ length-map rows edge_key;
      sources = ap length tells.sources ∙ length-map (source_places new t) pos ∙ length-map rows _;
      destinations = ap length tells.destinations ∙ length-map (destination_places new t) pos ∙ length-map rows _;
      origins = sym (length-taken olds e.origins within) ∙ sym (ap length tells.values) ∙ length-map rows edge_values;
    }

pub are_lists : (old new : GraphData) (t : ℕ) (e : EdgeLists) → IsGraph new → Tells old new t e → AreLists old t e
are_lists old new t e is tells =
    let n = counted old new t e tells in
    let few = few_edges_in new t is in
    record {
      few_keys = omega (arith, n.keys, few);
      few_sources = omega (arith, n.sources, few);
      few_destinations = omega (arith, n.destinations, few);
      few_origins = omega (arith, n.origins, few);
      sources = are_places e.sources (source_places new t) tells.sources (sources_few new t (source_places new t) is refl);
      destinations = are_places e.destinations (destination_places new t) tells.destinations (destinations_few new t (destination_places new t) is refl);
      origins = tells.origins;
    }

prop_values : (old new : GraphData) (t p : ℕ) (e : EdgeLists) → Tells old new t e → edge_prop_values new t p ≡ taken (edge_prop_values old t p) e.origins
prop_values old new t p e tells =
    sym (map_map edge_values (value_at p) (λ r. value_at p r.values) (rows_at new.edges t) (λ r. refl))
    ∙ ap (map (value_at p)) tells.values
    ∙ map-taken (value_at p) (map edge_values (rows_at old.edges t)) e.origins
    ∙ ap (λ vs. taken vs e.origins) (map_map edge_values (value_at p) (λ r. value_at p r.values) (rows_at old.edges t) (λ r. refl))

prop_is : (g : GraphData) (es : List (List EdgeRow)) (t p : ℕ) (e : EdgeLists) → Tells g (with_edges g es) t e → taken_prop g t e.origins p ≡ slot_value (with_edges g es) (EdgeProp t p)
prop_is g es t p e tells = ap (cells (edge_prop_kind g.schema t p)) (sym (prop_values g (with_edges g es) t p e tells))

alike : {X : Type 0} (f h : ℕ → X) (ps : List ℕ) → ((p : ℕ) → f p ≡ h p) → map f ps ≡ map h ps
alike f h [] e = refl
alike f h (p ∷ ps) e = ap (λ x. x ∷ map f ps) (e p) ∙ ap (λ xs. h p ∷ xs) (alike f h ps e)

-- what its slots hold
list_parts_are : (g : GraphData) (es : List (List EdgeRow)) (t : ℕ) (x : EdgeTable) (e : EdgeLists) → slice_get g.schema.edges t ≡ Some x → Tells g (with_edges g es) t e → list_parts g t e ≡ map (slot_value (with_edges g es)) (edge_table_slots t x)
list_parts_are g es t x e there tells =
    let new = with_edges g es in
    let keys = longs (map edge_key (rows_at es t)) in
    let from = source_places new t in
    let to = destination_places new t in
    let old = range_with_len 0 (length (edge_props_at g.schema t)) in
    let width = range_with_len 0 (length x.props) in
    let props = map (taken_prop g t e.origins) old in
    let props_are : props ≡ map (slot_value new) (map (EdgeProp t) width) =
    ap (λ o. map (taken_prop g t e.origins) (range_with_len 0 (length (edge_table_props o)))) there
    ∙ alike (taken_prop g t e.origins) (λ p. slot_value new (EdgeProp t p)) width (λ p. prop_is g es t p e tells)
    ∙ sym (map_map (EdgeProp t) (slot_value new) (λ p. slot_value new (EdgeProp t p)) width (λ p. refl)) in
    ap (λ ks. longs ks ∷ integers e.sources ∷ integers e.destinations ∷ edge_rows (places_told e.sources) ∷ edge_rows (places_told e.destinations) ∷ props) tells.keys
    ∙ ap (λ p. keys ∷ p ∷ integers e.destinations ∷ edge_rows (places_told e.sources) ∷ edge_rows (places_told e.destinations) ∷ props) (integers_are e.sources from tells.sources)
    ∙ ap (λ p. keys ∷ places from ∷ p ∷ edge_rows (places_told e.sources) ∷ edge_rows (places_told e.destinations) ∷ props) (integers_are e.destinations to tells.destinations)
    ∙ ap (λ ps. keys ∷ places from ∷ places to ∷ edge_rows ps ∷ edge_rows (places_told e.destinations) ∷ props) (told e.sources from tells.sources)
    ∙ ap (λ ps. keys ∷ places from ∷ places to ∷ edge_rows from ∷ edge_rows ps ∷ props) (told e.destinations to tells.destinations)
    ∙ ap (λ ps. keys ∷ places from ∷ places to ∷ edge_rows from ∷ edge_rows to ∷ ps) props_are

-- its slots are new
table_derived : (g : GraphData) (es : List (List EdgeRow)) (t : ℕ) (x : EdgeTable) → map New (map (slot_value (with_edges g es)) (edge_table_slots t x)) ≡ derived_slots g (with_edges g es) of_vertex_table (edge_table_slots t x)
table_derived g es t x =
    let new = with_edges g es in
    let width = range_with_len 0 (length x.props) in
    let h : SlotName → Derived = λ y. derived_slot g new (of_vertex_table y) y in
    let v = slot_value new in
    let props : map New (map v (map (EdgeProp t) width)) ≡ map h (map (EdgeProp t) width) =
    ap (map New) (map_map (EdgeProp t) v (λ p. v (EdgeProp t p)) width (λ p. refl))
    ∙ map_map (λ p. v (EdgeProp t p)) New (λ p. New (v (EdgeProp t p))) width (λ p. refl)
    ∙ sym (map_map (EdgeProp t) h (λ p. New (v (EdgeProp t p))) width (λ p. refl)) in
    ap (λ ds. New (v (EdgeKey t)) ∷ New (v (Source t)) ∷ New (v (Destination t)) ∷ New (v (Out t)) ∷ New (v (Into t)) ∷ ds) props

same_steps : (f : SlotName → ℕ) (k : ℕ → SlotName) (n : ℕ) (ps : List ℕ) → ((p : ℕ) → f (k p) ≡ n) → sum_by f (map k ps) ≡ length ps * n
same_steps f k n [] each = omega arith
same_steps f k n (p ∷ ps) each =
    let rest = same_steps f k n ps each in
    let here = each p in
    omega (arith, sum_by-cons f (k p) (map k ps))

list_steps_are : (g : GraphData) (es : List (List EdgeRow)) (t : ℕ) (x : EdgeTable) (e : EdgeLists) → slice_get g.schema.edges t ≡ Some x → Tells g (with_edges g es) t e → list_steps g t e ≡ sum_by (λ y. steps_unless_kept (with_edges g es) y (of_vertex_table y)) (edge_table_slots t x)
list_steps_are g es t x e there tells =
    let new = with_edges g es in
    let f : SlotName → ℕ = λ y. steps_unless_kept new y (of_vertex_table y) in
    let w = length x.props in
    let m = length (rows_at es t) in
    let props = map (EdgeProp t) (range_with_len 0 w) in
    let cells : sum_by f props ≡ w * m = same_steps f (EdgeProp t) m (range_with_len 0 w) (λ p. refl) ∙ ap (λ k. k * m) (length-range_with_len 0 w) in
    let product : length (edge_props_at g.schema t) * length e.origins ≡ w * m =
    ap (λ k. k * length e.origins) (edge_width g.schema t x there) ∙ ap (λ k. w * k) (counted g new t e tells).origins in
    let into = sum_by-cons f (Into t) props in
    let out = sum_by-cons f (Out t) (Into t ∷ props) in
    let destination = sum_by-cons f (Destination t) (Out t ∷ Into t ∷ props) in
    let source = sum_by-cons f (Source t) (Destination t ∷ Out t ∷ Into t ∷ props) in
    let n = counted g new t e tells in
    omega (arith, n.keys, n.sources, n.destinations, product, cells, into, out, destination, source, sum_by-cons f (EdgeKey t) (Source t ∷ Destination t ∷ Out t ∷ Into t ∷ props))

-- ---- table by table

-- the slots of the vertex tables and of the first t edge tables, and the steps that they took
pub record SlotsSoFar (g : GraphData) (es : List (List EdgeRow)) (t : ℕ) (derived : List Derived) (took : ℕ) : Type 0 where
  pub slots_are : derived ≡ derived_slots g (with_edges g es) of_vertex_table (vertex_slots 0 g.schema.vertices ++ edge_slots 0 (take t g.schema.edges))
  pub took_are : took ≡ sum_by (λ y. steps_unless_kept (with_edges g es) y (of_vertex_table y)) (vertex_slots 0 g.schema.vertices ++ edge_slots 0 (take t g.schema.edges))

pub no_table : (g : GraphData) (es : List (List EdgeRow)) (derived : List Derived) → derived ≡ map (λ y. Kept (slot_number g.schema y)) (vertex_slots 0 g.schema.vertices) → SlotsSoFar g es 0 derived 0
no_table g es derived are =
    let names = vertex_slots 0 g.schema.vertices in
    let f : SlotName → ℕ = λ y. steps_unless_kept (with_edges g es) y (of_vertex_table y) in
    record {
      slots_are = are ∙ vertices_derived g es 0 g.schema.vertices ∙ ap (derived_slots g (with_edges g es) of_vertex_table) (sym (append-nil names));
      took_are = sym (vertices_cost_nothing (with_edges g es) 0 g.schema.vertices) ∙ ap (sum_by f) (sym (append-nil names));
    }

pub one_table : (g : GraphData) (es : List (List EdgeRow)) (t : ℕ) (x : EdgeTable) (e : EdgeLists) (before after : List Derived) (took more : ℕ) → slice_get g.schema.edges t ≡ Some x → Tells g (with_edges g es) t e → SlotsSoFar g es t before took → after ≡ before ++ map New (list_parts g t e) → more ≡ took + list_steps g t e → SlotsSoFar g es (t + 1) after more
one_table g es t x e before after took more there tells so_far grown counts =
    let new = with_edges g es in
    let h : SlotName → Derived = λ y. derived_slot g new (of_vertex_table y) y in
    let f : SlotName → ℕ = λ y. steps_unless_kept new y (of_vertex_table y) in
    let shapes = g.schema.edges in
    let vs = vertex_slots 0 g.schema.vertices in
    let done = vs ++ edge_slots 0 (take t shapes) in
    let within = slice_get_within shapes t x there in
    let at = sym (get_or_from_slice_get shapes t x x there) in
    let names : done ++ edge_table_slots t x ≡ vs ++ edge_slots 0 (take (t + 1) shapes) = edge_slots_more shapes t x vs done (done ++ edge_table_slots t x) within at refl refl in
    let pushed : map New (list_parts g t e) ≡ map h (edge_table_slots t x) = ap (map New) (list_parts_are g es t x e there tells) ∙ table_derived g es t x in
    record {
      slots_are = grown ∙ ap (λ ds. before ++ ds) pushed ∙ ap (λ ds. ds ++ map h (edge_table_slots t x)) so_far.slots_are ∙ sym (map-append h done (edge_table_slots t x)) ∙ ap (map h) names;
      took_are = counts ∙ ap (λ n. took + n) (list_steps_are g es t x e there tells) ∙ ap (λ n. n + sum_by f (edge_table_slots t x)) so_far.took_are ∙ sym (sum_by-append f done (edge_table_slots t x)) ∙ ap (sum_by f) names;
    }

pub record AllSlots (g : GraphData) (es : List (List EdgeRow)) (derived : List Derived) (took : ℕ) : Type 0 where
  pub slots_are : derived ≡ derived_slots g (with_edges g es) of_vertex_table (slots g.schema)
  pub took_are : took ≡ sum_by (λ y. steps_unless_kept (with_edges g es) y (of_vertex_table y)) (slots g.schema)

pub all_tables : (g : GraphData) (es : List (List EdgeRow)) (t : ℕ) (derived : List Derived) (took : ℕ) → length g.schema.edges ≤ t → SlotsSoFar g es t derived took → AllSlots g es derived took
all_tables g es t derived took all so_far =
    let new = with_edges g es in
    let h : SlotName → Derived = λ y. derived_slot g new (of_vertex_table y) y in
    let f : SlotName → ℕ = λ y. steps_unless_kept new y (of_vertex_table y) in
    let whole = take_all t g.schema.edges all in
    record {
      slots_are = so_far.slots_are ∙ ap (λ xs. map h (vertex_slots 0 g.schema.vertices ++ edge_slots 0 xs)) whole;
      took_are = so_far.took_are ∙ ap (λ xs. sum_by f (vertex_slots 0 g.schema.vertices ++ edge_slots 0 xs)) whole;
    }
