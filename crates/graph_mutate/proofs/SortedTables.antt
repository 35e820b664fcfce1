-- the slots of a graph whose vertices stand by falling degree
use Rattle.std.proofs.Common.{◌≡◌, ℕ, ◌+◌, ◌*◌, ◌<◌, ◌≤◌, ℤ, pos, List, [], ◌∷◌, ◌++◌, Some, All, length, get_or, map, take, slice_get, sum_by, refl, ap, sym, ◌∙◌, subst, arith, append_assoc}
use Rattle.std.specs.List.{range_with_len}
use Rattle.std.proofs.lemmas.List.{map-append}
use Rattle.std.proofs.lemmas.List.FromFn.{length-range_with_len}
use Rattle.column_types.specs.declared.value.Value.{Value}
use Rattle.std.proofs.lemmas.List.Sums.{sum_by-cons, sum_by-append}
use Rattle.std.proofs.lemmas.Option.{slice_get_within, get_or_from_slice_get}
use Rattle.graph_schema.specs.declared.schema.VertexTable.{VertexTable}
use Rattle.graph_schema.specs.declared.schema.EdgeTable.{EdgeTable}
use Rattle.graph_model.specs.declared.row.VertexRow.{VertexRow}
use Rattle.graph_model.specs.Keys.{rows_at}
use Rattle.graph_model.specs.Graph.{GraphData, IsGraph, vertex_key, edge_props_at, edge_table_props, vertex_props_at, vertex_table_props}
use Rattle.graph_slots.specs.declared.slot.SlotName.{SlotName}
use Rattle.graph_slots.specs.declared.slot.SlotName.TheVariants.{VertexKey, VertexProp, EdgeKey, Source, Destination, Out, Into, EdgeProp}
use Rattle.graph_slots.specs.Slots.{vertex_slots, edge_slots, vertex_table_slots, edge_table_slots}
use Rattle.graph_slots.specs.Meaning.{slot_value, longs, cells, places, edge_rows, value_at, vertex_prop_kind, source_places, destination_places}
use Rattle.graph_slots.specs.Numbers.{slot_number, HasSlot}
use Rattle.graph_slots.proofs.Kept.{map_map}
use Rattle.graph_slots.proofs.Order.{vertex_slots_more, edge_slots_more}
use Rattle.graph_columns.specs.TableParts.{integers, places_told}
use Rattle.graph_columns.proofs.ColumnTables.{told, integers_are}
use Rattle.graph_columns.proofs.EndPlaces.{few_vertices_in}
use Rattle.graph_snap.specs.declared.derived.Derived.{Derived}
use Rattle.graph_snap.specs.declared.derived.Derived.TheVariants.{Kept, New}
use Rattle.graph_mutate.specs.Taken.{taken}
use Rattle.graph_mutate.specs.Sorted.{sorted, row_degree}
use Rattle.graph_mutate.specs.Ranks.{table_order}
use Rattle.graph_mutate.specs.Steps.{of_edges_alone, steps_unless_kept}
use Rattle.graph_mutate.specs.Derives.{derived_slot}
use Rattle.graph_mutate.specs.VertexTables.{taken_keys, taken_values}
use Rattle.graph_mutate.proofs.Gathering.{map-taken}
use Rattle.graph_mutate.proofs.EdgeTables.{vertex_width, one_more_time}
use Rattle.graph_mutate.proofs.Falling.{rows_sorted, sorted_is, falling_length}
use Rattle.graph_mutate.proofs.Order.{taken_order, order_within}
use Rattle.graph_mutate.proofs.Moved.{order_long}
use Rattle.graph_mutate.proofs.NewTables.{no_steps}
use Rattle.graph_mutate.proofs.Deriving.{KeepsSlot, Changes}

abbrev pub sorted_slot : GraphData → SlotName → Derived
sorted_slot g y = derived_slot g (sorted g) (of_edges_alone y) y

abbrev pub sorted_steps : GraphData → SlotName → ℕ
sorted_steps g y = steps_unless_kept (sorted g) y (of_edges_alone y)

-- ---- which slots are shared

same_name : (a b : SlotName) → Some a ≡ Some b → a ≡ b
same_name a b e = cc

shared : (g : GraphData) (x y : SlotName) → HasSlot g.schema x → of_edges_alone x ≡ Some y → KeepsSlot g (sorted g) x y
shared g (VertexKey t) y has e = cc
shared g (VertexProp t p) y has e = cc
shared g (EdgeKey t) y has e = let same = same_name (EdgeKey t) y e in record { has = subst (HasSlot g.schema) same has; same = ap (slot_value g) (sym same) }
shared g (Source t) y has e = cc
shared g (Destination t) y has e = cc
shared g (Out t) y has e = cc
shared g (Into t) y has e = cc
shared g (EdgeProp t p) y has e = let same = same_name (EdgeProp t p) y e in record { has = subst (HasSlot g.schema) same has; same = ap (slot_value g) (sym same) }

pub sort_changes : (g : GraphData) → IsGraph g → Changes g (sorted g) of_edges_alone
sort_changes g is = record { graph = sorted_is g is; names = refl; keeps = shared g }

-- ---- a vertex table

taken_rows : (g : GraphData) (t : ℕ) → taken (rows_at g.vertices t) (table_order g t) ≡ rows_at (sorted g).vertices t
taken_rows g t = taken_order (row_degree g t) (rows_at g.vertices t) ∙ sym (rows_sorted g t)

pub order_rows : (g : GraphData) (t : ℕ) → length (table_order g t) ≡ length (rows_at g.vertices t)
order_rows g t = order_long (row_degree g t) (rows_at g.vertices t)

pub order_few : (g : GraphData) (t : ℕ) → IsGraph g → length (table_order g t) ≤ 1048576
order_few g t is = omega (arith, order_rows g t, few_vertices_in g t is)

pub order_inside : (g : GraphData) (t : ℕ) → All (λ p. p < length (rows_at g.vertices t)) (table_order g t)
order_inside g t = order_within (row_degree g t) (rows_at g.vertices t)

keys_are : (g : GraphData) (t : ℕ) → taken_keys g t (table_order g t) ≡ slot_value (sorted g) (VertexKey t)
keys_are g t = ap longs (sym (map-taken vertex_key (rows_at g.vertices t) (table_order g t)) ∙ ap (map vertex_key) (taken_rows g t))

values_are : (g : GraphData) (t p : ℕ) → taken_values g t (table_order g t) p ≡ slot_value (sorted g) (VertexProp t p)
values_are g t p =
    let f : VertexRow → Value = λ r. value_at p r.values in
    ap (cells (vertex_prop_kind g.schema t p)) (sym (map-taken f (rows_at g.vertices t) (table_order g t)) ∙ ap (map f) (taken_rows g t))

alike : {X : Type 0} (f h : ℕ → X) (ps : List ℕ) → ((p : ℕ) → f p ≡ h p) → map f ps ≡ map h ps
alike f h [] e = refl
alike f h (p ∷ ps) e = ap (λ x. x ∷ map f ps) (e p) ∙ ap (λ xs. h p ∷ xs) (alike f h ps e)

pub vertex_table_done : (g : GraphData) (t : ℕ) (x : VertexTable) (order : List ℕ) (old done : List Derived) → slice_get g.schema.vertices t ≡ Some x → order ≡ table_order g t → done ≡ (old ++ New (taken_keys g t order) ∷ []) ++ map (λ p. New (taken_values g t order p)) (range_with_len 0 (length (vertex_props_at g.schema t))) → done ≡ old ++ map (sorted_slot g) (vertex_table_slots t x)
vertex_table_done g t x order old done there is pushed =
    let o = table_order g t in
    let width = range_with_len 0 (length x.props) in
    let h = sorted_slot g in
    let first = New (slot_value (sorted g) (VertexKey t)) in
    pushed
    ∙ ap (λ q. (old ++ New (taken_keys g t q) ∷ []) ++ map (λ p. New (taken_values g t q p)) (range_with_len 0 (length (vertex_props_at g.schema t)))) is
    ∙ ap (λ w. (old ++ New (taken_keys g t o) ∷ []) ++ map (λ p. New (taken_values g t o p)) (range_with_len 0 (length (vertex_table_props w)))) there
    ∙ ap (λ part. (old ++ New part ∷ []) ++ map (λ p. New (taken_values g t o p)) width) (keys_are g t)
    ∙ ap (λ ds. (old ++ first ∷ []) ++ ds) (alike (λ p. New (taken_values g t o p)) (λ p. h (VertexProp t p)) width (λ p. ap New (values_are g t p)) ∙ sym (map_map (VertexProp t) h (λ p. h (VertexProp t p)) width (λ p. refl)))
    ∙ append_assoc old (first ∷ []) (map h (map (VertexProp t) width))

same_steps : (f : SlotName → ℕ) (k : ℕ → SlotName) (n : ℕ) (ps : List ℕ) → ((p : ℕ) → f (k p) ≡ n) → sum_by f (map k ps) ≡ length ps * n
same_steps f k n [] each = omega arith
same_steps f k n (p ∷ ps) each =
    let rest = same_steps f k n ps each in
    let here = each p in
    omega (arith, sum_by-cons f (k p) (map k ps))

pub vertex_table_counts : (g : GraphData) (t : ℕ) (x : VertexTable) (order : List ℕ) → slice_get g.schema.vertices t ≡ Some x → order ≡ table_order g t → (1 + length (vertex_props_at g.schema t)) * length order ≡ sum_by (sorted_steps g) (vertex_table_slots t x)
vertex_table_counts g t x order there is =
    let f = sorted_steps g in
    let w = length x.props in
    let m = length (rows_at (sorted g).vertices t) in
    let props = map (VertexProp t) (range_with_len 0 w) in
    let long : length order ≡ m = ap length is ∙ order_rows g t ∙ sym (ap length (rows_sorted g t) ∙ falling_length (row_degree g t) (rows_at g.vertices t)) in
    let each : sum_by f props ≡ w * m = same_steps f (VertexProp t) m (range_with_len 0 w) (λ p. refl) ∙ ap (λ k. k * m) (length-range_with_len 0 w) in
    let one : 1 + w ≡ w + 1 = omega arith in
    let all : (1 + length (vertex_props_at g.schema t)) * length order ≡ w * m + m = ap (λ k. (1 + k) * length order) (vertex_width g.schema t x there) ∙ ap (λ k. (1 + w) * k) long ∙ ap (λ k. k * m) one ∙ one_more_time w m in
    omega (arith, all, each, sum_by-cons f (VertexKey t) props)

-- ---- an edge table

-- the ends of edges that moved
pub ends_moved : (new ns moved_ns : List ℕ) (slice made : List ℤ) → slice ≡ map pos ns → map (λ p. get_or new p 0) ns ≡ moved_ns → made ≡ map (λ p. pos (get_or new p 0)) (places_told slice) → made ≡ map pos moved_ns
ends_moved new ns moved_ns slice made e same is =
    is ∙ ap (map (λ p. pos (get_or new p 0))) (told slice ns e)
    ∙ sym (map_map (λ p. get_or new p 0) pos (λ p. pos (get_or new p 0)) ns (λ p. refl)) ∙ ap (map pos) same

pub edge_table_done : (g : GraphData) (t : ℕ) (x : EdgeTable) (first : Derived) (sources destinations : List ℤ) (old pushed ended done : List Derived) → slice_get g.schema.edges t ≡ Some x → first ≡ Kept (slot_number g.schema (EdgeKey t)) → sources ≡ map pos (source_places (sorted g) t) → destinations ≡ map pos (destination_places (sorted g) t) → pushed ≡ old ++ first ∷ [] → ended ≡ pushed ++ New (integers sources) ∷ New (integers destinations) ∷ New (edge_rows (places_told sources)) ∷ New (edge_rows (places_told destinations)) ∷ [] → done ≡ ended ++ map (λ p. Kept (slot_number g.schema (EdgeProp t p))) (range_with_len 0 (length (edge_props_at g.schema t))) → done ≡ old ++ map (sorted_slot g) (edge_table_slots t x)
edge_table_done g t x first sources destinations old pushed ended done there is from_is to_is grown ends more =
    let h = sorted_slot g in
    let width = range_with_len 0 (length x.props) in
    let from = source_places (sorted g) t in
    let to = destination_places (sorted g) t in
    let key = Kept (slot_number g.schema (EdgeKey t)) in
    let four = New (places from) ∷ New (places to) ∷ New (edge_rows from) ∷ New (edge_rows to) ∷ [] in
    let props = map h (map (EdgeProp t) width) in
    let four_are : New (integers sources) ∷ New (integers destinations) ∷ New (edge_rows (places_told sources)) ∷ New (edge_rows (places_told destinations)) ∷ [] ≡ four =
    ap (λ p. New p ∷ New (integers destinations) ∷ New (edge_rows (places_told sources)) ∷ New (edge_rows (places_told destinations)) ∷ []) (integers_are sources from from_is)
    ∙ ap (λ p. New (places from) ∷ New p ∷ New (edge_rows (places_told sources)) ∷ New (edge_rows (places_told destinations)) ∷ []) (integers_are destinations to to_is)
    ∙ ap (λ p. New (places from) ∷ New (places to) ∷ New (edge_rows p) ∷ New (edge_rows (places_told destinations)) ∷ []) (told sources from from_is)
    ∙ ap (λ p. New (places from) ∷ New (places to) ∷ New (edge_rows from) ∷ New (edge_rows p) ∷ []) (told destinations to to_is) in
    more
    ∙ ap (λ w. ended ++ map (λ p. Kept (slot_number g.schema (EdgeProp t p))) (range_with_len 0 (length (edge_table_props w)))) there
    ∙ ap (λ ds. ended ++ ds) (sym (map_map (EdgeProp t) h (λ p. Kept (slot_number g.schema (EdgeProp t p))) width (λ p. refl)))
    ∙ ap (λ ds. ds ++ props) (ends ∙ ap (λ ds. pushed ++ ds) four_are ∙ ap (λ ds. ds ++ four) (grown ∙ ap (λ d. old ++ d ∷ []) is) ∙ append_assoc old (key ∷ []) four)
    ∙ append_assoc old (key ∷ four) props

pub edge_table_counts : (g : GraphData) (t : ℕ) (x : EdgeTable) → 4 * length (rows_at g.edges t) ≡ sum_by (sorted_steps g) (edge_table_slots t x)
edge_table_counts g t x =
    let f = sorted_steps g in
    let width = range_with_len 0 (length x.props) in
    let props = map (EdgeProp t) width in
    let none : sum_by f props ≡ 0 = no_steps f (EdgeProp t) width (λ p. refl) in
    let into = sum_by-cons f (Into t) props in
    let out = sum_by-cons f (Out t) (Into t ∷ props) in
    let destination = sum_by-cons f (Destination t) (Out t ∷ Into t ∷ props) in
    let source = sum_by-cons f (Source t) (Destination t ∷ Out t ∷ Into t ∷ props) in
    omega (arith, none, into, out, destination, source, sum_by-cons f (EdgeKey t) (Source t ∷ Destination t ∷ Out t ∷ Into t ∷ props))

-- ---- table by table

pub vertices_more : (g : GraphData) (t : ℕ) (x : VertexTable) (before after : List Derived) → slice_get g.schema.vertices t ≡ Some x → before ≡ map (sorted_slot g) (vertex_slots 0 (take t g.schema.vertices)) → after ≡ before ++ map (sorted_slot g) (vertex_table_slots t x) → after ≡ map (sorted_slot g) (vertex_slots 0 (take (t + 1) g.schema.vertices))
vertices_more g t x before after there so_far grown =
    let h = sorted_slot g in
    let done = vertex_slots 0 (take t g.schema.vertices) in
    let within = slice_get_within g.schema.vertices t x there in
    let at = sym (get_or_from_slice_get g.schema.vertices t x x there) in
    grown ∙ ap (λ ds. ds ++ map h (vertex_table_slots t x)) so_far ∙ sym (map-append h done (vertex_table_slots t x))
    ∙ ap (map h) (vertex_slots_more g.schema.vertices t x [] done (done ++ vertex_table_slots t x) within at refl refl)

pub vertices_count_more : (g : GraphData) (t : ℕ) (x : VertexTable) → slice_get g.schema.vertices t ≡ Some x → sum_by (sorted_steps g) (vertex_slots 0 (take (t + 1) g.schema.vertices)) ≡ sum_by (sorted_steps g) (vertex_slots 0 (take t g.schema.vertices)) + sum_by (sorted_steps g) (vertex_table_slots t x)
vertices_count_more g t x there =
    let f = sorted_steps g in
    let done = vertex_slots 0 (take t g.schema.vertices) in
    let within = slice_get_within g.schema.vertices t x there in
    let at = sym (get_or_from_slice_get g.schema.vertices t x x there) in
    sym (ap (sum_by f) (vertex_slots_more g.schema.vertices t x [] done (done ++ vertex_table_slots t x) within at refl refl)) ∙ sum_by-append f done (vertex_table_slots t x)

pub edges_more : (g : GraphData) (t : ℕ) (x : EdgeTable) (before after : List Derived) → slice_get g.schema.edges t ≡ Some x → before ≡ map (sorted_slot g) (vertex_slots 0 g.schema.vertices ++ edge_slots 0 (take t g.schema.edges)) → after ≡ before ++ map (sorted_slot g) (edge_table_slots t x) → after ≡ map (sorted_slot g) (vertex_slots 0 g.schema.vertices ++ edge_slots 0 (take (t + 1) g.schema.edges))
edges_more g t x before after there so_far grown =
    let h = sorted_slot g in
    let vs = vertex_slots 0 g.schema.vertices in
    let done = vs ++ edge_slots 0 (take t g.schema.edges) in
    let within = slice_get_within g.schema.edges t x there in
    let at = sym (get_or_from_slice_get g.schema.edges t x x there) in
    grown ∙ ap (λ ds. ds ++ map h (edge_table_slots t x)) so_far ∙ sym (map-append h done (edge_table_slots t x))
    ∙ ap (map h) (edge_slots_more g.schema.edges t x vs done (done ++ edge_table_slots t x) within at refl refl)

pub edges_count_more : (g : GraphData) (t : ℕ) (x : EdgeTable) → slice_get g.schema.edges t ≡ Some x → sum_by (sorted_steps g) (vertex_slots 0 g.schema.vertices ++ edge_slots 0 (take (t + 1) g.schema.edges)) ≡ sum_by (sorted_steps g) (vertex_slots 0 g.schema.vertices ++ edge_slots 0 (take t g.schema.edges)) + sum_by (sorted_steps g) (edge_table_slots t x)
edges_count_more g t x there =
    let f = sorted_steps g in
    let vs = vertex_slots 0 g.schema.vertices in
    let done = vs ++ edge_slots 0 (take t g.schema.edges) in
    let within = slice_get_within g.schema.edges t x there in
    let at = sym (get_or_from_slice_get g.schema.edges t x x there) in
    sym (ap (sum_by f) (edge_slots_more g.schema.edges t x vs done (done ++ edge_table_slots t x) within at refl refl)) ∙ sum_by-append f done (edge_table_slots t x)
