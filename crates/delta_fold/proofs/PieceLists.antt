-- the pieces of the columns of a graph are its slots
use Rattle.std.proofs.Common.{◌≡◌, ℕ, zero, suc, ◌+◌, ◌<◌, ◌≤◌, ℤ, pos, List, [], ◌∷◌, ◌++◌, Some, length, map, slice_get, sum_by, refl, ap, sym, ◌∙◌, subst, arith, append_assoc, append-nil}
use Rattle.std.specs.List.{range_with_len}
use Rattle.std.proofs.lemmas.List.{length-map, map-append}
use Rattle.std.proofs.lemmas.List.FromFn.{length-range_with_len}
use Rattle.std.proofs.lemmas.List.Sums.{sum_by-cons, sum_by-append}
use Rattle.column_types.specs.Column.{ColumnData}
use Rattle.graph_schema.specs.declared.schema.VertexTable.{VertexTable}
use Rattle.graph_schema.specs.declared.schema.EdgeTable.{EdgeTable}
use Rattle.graph_schema.specs.Schema.{SchemaData, IsSchema}
use Rattle.graph_schema.proofs.Sound.{few_vertex_props, few_edge_props}
use Rattle.graph_columns.proofs.SlotParts.{item_at}
use Rattle.graph_snap.proofs.Taken.{few_at}
use Rattle.graph_model.specs.declared.columns.GraphColumns.{GraphColumns}
use Rattle.graph_model.specs.declared.columns.VertexColumns.{VertexColumns}
use Rattle.graph_model.specs.declared.columns.EdgeColumns.{EdgeColumns}
use Rattle.graph_model.specs.Keys.{rows_at}
use Rattle.graph_model.specs.Graph.{GraphData, IsGraph, vertex_key, edge_key, vertex_table_props, edge_table_props, vertex_props_at, edge_props_at}
use Rattle.graph_model.specs.IntoColumns.{AreColumnsOf, AreVertexColumns, AreEdgeColumns, vertex_column, edge_column}
use Rattle.graph_slots.specs.declared.slot.SlotName.{SlotName}
use Rattle.graph_slots.specs.declared.slot.SlotName.TheVariants.{VertexKey, VertexProp, EdgeKey, Source, Destination, Out, Into, EdgeProp}
use Rattle.graph_slots.specs.declared.part.Part.{Part}
use Rattle.graph_slots.specs.declared.part.Part.TheVariants.{Cells}
use Rattle.graph_slots.specs.Slots.{slots, vertex_slots, edge_slots, vertex_table_slots, edge_table_slots}
use Rattle.graph_slots.specs.Numbers.{slot_number}
use Rattle.graph_slots.specs.Meaning.{slot_value, longs, edge_rows, places, source_places, destination_places}
use Rattle.graph_slots.proofs.Kept.{map_map}
use Rattle.graph_columns.specs.SlotSteps.{slot_steps}
use Rattle.graph_columns.specs.TableParts.{integers, places_told}
use Rattle.graph_columns.proofs.GraphTables.{vertex_table_count, edge_table_count}
use Rattle.graph_columns.proofs.ColumnTables.{told, integers_are}
use Rattle.graph_snap.specs.declared.derived.Derived.{Derived}
use Rattle.delta_fold.specs.declared.marks.Marks.{Marks}
use Rattle.delta_fold.specs.declared.slots.TableName.TheVariants.{Vertices, Edges}
use Rattle.delta_fold.specs.Marked.{is_marked}
use Rattle.delta_fold.specs.Folded.{derived_if}
use Rattle.delta_fold.specs.Steps.{steps_if}
use Rattle.delta_fold.specs.Pieces.{Piece, prop_slot_of, prop_pieces, vertex_pieces, end_pieces, edge_pieces, vertex_pieces_from, edge_pieces_from, picked, picked_steps, derived_slot}

-- ---- one piece more

pub props_push : (name : ℕ → SlotName) (a : ℕ) (cs : List ColumnData) (c : ColumnData) → prop_pieces name a (cs ++ c ∷ []) ≡ prop_pieces name a cs ++ record { name = name (a + length cs); part = Cells c; steps = length c.values } ∷ []
props_push name a [] c = ap (λ n. let p : Piece = record { name = name n; part = Cells c; steps = length c.values } in p ∷ []) (let e : a ≡ a + 0 = omega arith in e)
props_push name a (d ∷ cs) c =
    let first : Piece = record { name = name a; part = Cells d; steps = length d.values } in
    ap (λ ps. first ∷ ps) (props_push name (a + 1) cs c ∙ ap (λ n. let p : Piece = record { name = name n; part = Cells c; steps = length c.values } in prop_pieces name (a + 1) cs ++ p ∷ []) (let e : (a + 1) + length cs ≡ a + suc (length cs) = omega arith in e))

pub vertices_push : (t : ℕ) (cs : List VertexColumns) (c : VertexColumns) → vertex_pieces_from t (cs ++ c ∷ []) ≡ vertex_pieces_from t cs ++ vertex_pieces (t + length cs) c
vertices_push t [] c = append-nil (vertex_pieces t c) ∙ ap (λ n. vertex_pieces n c) (let e : t ≡ t + 0 = omega arith in e)
vertices_push t (d ∷ cs) c =
    ap (λ ps. vertex_pieces t d ++ ps) (vertices_push (t + 1) cs c ∙ ap (λ n. vertex_pieces_from (t + 1) cs ++ vertex_pieces n c) (let e : (t + 1) + length cs ≡ t + suc (length cs) = omega arith in e))
    ∙ sym (append_assoc (vertex_pieces t d) (vertex_pieces_from (t + 1) cs) (vertex_pieces (t + suc (length cs)) c))

pub edges_push : (t : ℕ) (cs : List EdgeColumns) (c : EdgeColumns) → edge_pieces_from t (cs ++ c ∷ []) ≡ edge_pieces_from t cs ++ edge_pieces (t + length cs) c
edges_push t [] c = append-nil (edge_pieces t c) ∙ ap (λ n. edge_pieces n c) (let e : t ≡ t + 0 = omega arith in e)
edges_push t (d ∷ cs) c =
    ap (λ ps. edge_pieces t d ++ ps) (edges_push (t + 1) cs c ∙ ap (λ n. edge_pieces_from (t + 1) cs ++ edge_pieces n c) (let e : (t + 1) + length cs ≡ t + suc (length cs) = omega arith in e))
    ∙ sym (append_assoc (edge_pieces t d) (edge_pieces_from (t + 1) cs) (edge_pieces (t + suc (length cs)) c))

-- what was appended, and what it took
pub record Appended (s : SchemaData) (m : Marks) (pieces : List Piece) (before after : List Derived) (took more : ℕ) : Type 0 where
  pub slots_are : after ≡ before ++ map (picked s m) pieces
  pub took_are : more ≡ took + sum_by (picked_steps s m) pieces

pub append_more : (s : SchemaData) (m : Marks) (first rest all : List Piece) (a b c : List Derived) (i j k : ℕ) → all ≡ first ++ rest → Appended s m first a b i j → Appended s m rest b c j k → Appended s m all a c i k
append_more s m first rest all a b c i j k whole p q = record {
  slots_are = q.slots_are ∙ ap (λ ds. ds ++ map (picked s m) rest) p.slots_are ∙ append_assoc a (map (picked s m) first) (map (picked s m) rest) ∙ ap (λ ds. a ++ ds) (sym (map-append (picked s m) first rest)) ∙ ap (λ ps. a ++ map (picked s m) ps) (sym whole);
  took_are = omega (arith, p.took_are, q.took_are, sum_by-append (picked_steps s m) first rest, ap (sum_by (picked_steps s m)) whole);
}

-- one part more
pub one_piece : (s : SchemaData) (m : Marks) (x named : SlotName) (part : Part) (n : ℕ) (item : Derived) (before after : List Derived) (took more : ℕ) → x ≡ named → item ≡ derived_if (is_marked s m x) part (slot_number s x) → after ≡ before ++ item ∷ [] → more ≡ took + steps_if (is_marked s m x) n → Appended s m (record { name = named; part = part; steps = n } ∷ []) before after took more
one_piece s m x named part n item before after took more same is grown counts =
    let f : SlotName → Derived = λ y. derived_if (is_marked s m y) part (slot_number s y) in
    let counted : more ≡ took + steps_if (is_marked s m named) n = counts ∙ ap (λ y. took + steps_if (is_marked s m y) n) same in
    record {
      slots_are = grown ∙ ap (λ d. before ++ d ∷ []) (is ∙ ap f same);
      took_are = omega (arith, counted, sum_by-cons (picked_steps s m) (record { name = named; part = part; steps = n }) []);
    }

pub props_more : (s : SchemaData) (m : Marks) (name : ℕ → SlotName) (p : ℕ) (x : SlotName) (cs : List ColumnData) (c : ColumnData) (item : Derived) (first before after : List Derived) (i j k : ℕ) → x ≡ name p → p ≡ length cs → item ≡ derived_if (is_marked s m x) (Cells c) (slot_number s x) → after ≡ before ++ item ∷ [] → k ≡ j + steps_if (is_marked s m x) (length c.values) → Appended s m (prop_pieces name 0 cs) first before i j → Appended s m (prop_pieces name 0 (cs ++ c ∷ [])) first after i k
props_more s m name p x cs c item first before after i j k same at is grown counts so_far =
    let place : name p ≡ name (0 + length cs) = ap name (let e : p ≡ 0 + length cs = omega (arith, at) in e) in
    append_more s m (prop_pieces name 0 cs) (record { name = name (0 + length cs); part = Cells c; steps = length c.values } ∷ []) (prop_pieces name 0 (cs ++ c ∷ [])) first before after i j k (props_push name 0 cs c) so_far
    (one_piece s m x (name (0 + length cs)) (Cells c) (length c.values) item before after j k (same ∙ place) is grown counts)

pub vertices_more : (s : SchemaData) (m : Marks) (t : ℕ) (cs : List VertexColumns) (c : VertexColumns) (first before after : List Derived) (i j k : ℕ) → t ≡ length cs → Appended s m (vertex_pieces t c) before after j k → Appended s m (vertex_pieces_from 0 cs) first before i j → Appended s m (vertex_pieces_from 0 (cs ++ c ∷ [])) first after i k
vertices_more s m t cs c first before after i j k at table so_far =
    let place : 0 + length cs ≡ t = omega (arith, at) in
    append_more s m (vertex_pieces_from 0 cs) (vertex_pieces t c) (vertex_pieces_from 0 (cs ++ c ∷ [])) first before after i j k (vertices_push 0 cs c ∙ ap (λ n. vertex_pieces_from 0 cs ++ vertex_pieces n c) place) so_far table

pub edges_more : (s : SchemaData) (m : Marks) (t : ℕ) (cs : List EdgeColumns) (c : EdgeColumns) (first before after : List Derived) (i j k : ℕ) → t ≡ length cs → Appended s m (edge_pieces t c) before after j k → Appended s m (edge_pieces_from 0 cs) first before i j → Appended s m (edge_pieces_from 0 (cs ++ c ∷ [])) first after i k
edges_more s m t cs c first before after i j k at table so_far =
    let place : 0 + length cs ≡ t = omega (arith, at) in
    append_more s m (edge_pieces_from 0 cs) (edge_pieces t c) (edge_pieces_from 0 (cs ++ c ∷ [])) first before after i j k (edges_push 0 cs c ∙ ap (λ n. edge_pieces_from 0 cs ++ edge_pieces n c) place) so_far table

pub nothing_more : (s : SchemaData) (m : Marks) (derived : List Derived) (took : ℕ) → Appended s m [] derived derived took took
nothing_more s m derived took = record { slots_are = sym (append-nil derived); took_are = omega arith }

-- ---- one table

-- the piece of a slot of a graph
abbrev pub piece_of : GraphData → SlotName → Piece
piece_of g x = record { name = x; part = slot_value g x; steps = slot_steps g x }

props_are : (g : GraphData) (name : ℕ → SlotName) (f : ℕ → ColumnData) (a n : ℕ) → ((p : ℕ) → Cells (f p) ≡ slot_value g (name p)) → ((p : ℕ) → length (f p).values ≡ slot_steps g (name p)) → prop_pieces name a (map f (range_with_len a n)) ≡ map (piece_of g) (map name (range_with_len a n))
props_are g name f a zero part long = refl
props_are g name f a (suc n) part long =
    let rest = map (piece_of g) (map name (range_with_len (a + 1) n)) in
    ap (λ ps. let q : Piece = record { name = name a; part = Cells (f a); steps = length (f a).values } in q ∷ ps) (props_are g name f (a + 1) n part long)
    ∙ ap (λ p. let q : Piece = record { name = name a; part = p; steps = length (f a).values } in q ∷ rest) (part a)
    ∙ ap (λ k. let q : Piece = record { name = name a; part = slot_value g (name a); steps = k } in q ∷ rest) (long a)

vertex_pieces_are : (g : GraphData) (t : ℕ) (c : VertexColumns) (x : VertexTable) → AreVertexColumns g t c → slice_get g.schema.vertices t ≡ Some x → vertex_pieces t c ≡ map (piece_of g) (vertex_table_slots t x)
vertex_pieces_are g t c x are there =
    let rows = rows_at g.vertices t in
    let name = prop_slot_of (Vertices t) in
    let width = length (vertex_props_at g.schema t) in
    let props : prop_pieces name 0 c.values ≡ map (piece_of g) (map (VertexProp t) (range_with_len 0 (length x.props))) =
    ap (prop_pieces name 0) are.values
    ∙ props_are g name (vertex_column g t) 0 width (λ p. refl) (λ p. length-map rows _)
    ∙ ap (λ o. map (piece_of g) (map (VertexProp t) (range_with_len 0 (length (vertex_table_props o))))) there in
    ap (λ ps. let q : Piece = record { name = VertexKey t; part = longs c.keys; steps = length c.keys } in q ∷ ps) props
    ∙ ap (λ ks. let q : Piece = record { name = VertexKey t; part = longs ks; steps = length ks } in q ∷ map (piece_of g) (map (VertexProp t) (range_with_len 0 (length x.props)))) are.keys
    ∙ ap (λ n. let q : Piece = record { name = VertexKey t; part = longs (map vertex_key rows); steps = n } in q ∷ map (piece_of g) (map (VertexProp t) (range_with_len 0 (length x.props)))) (length-map rows vertex_key)

ends_are : (g : GraphData) (t : ℕ) (c : EdgeColumns) → AreEdgeColumns g t c → end_pieces t c.sources c.destinations ≡ piece_of g (Source t) ∷ piece_of g (Destination t) ∷ piece_of g (Out t) ∷ piece_of g (Into t) ∷ []
ends_are g t c are =
    let rows = rows_at g.edges t in
    let from = source_places g t in
    let to = destination_places g t in
    let n = length rows in
    let a : length c.sources ≡ n = ap length are.sources ∙ length-map from pos ∙ length-map rows _ in
    let b : length c.destinations ≡ n = ap length are.destinations ∙ length-map to pos ∙ length-map rows _ in
    let four : Part → Part → Part → Part → ℕ → ℕ → List Piece = λ p q r s i j. record { name = Source t; part = p; steps = i } ∷ record { name = Destination t; part = q; steps = j } ∷ record { name = Out t; part = r; steps = i } ∷ record { name = Into t; part = s; steps = j } ∷ [] in
    ap (λ p. four p (integers c.destinations) (edge_rows (places_told c.sources)) (edge_rows (places_told c.destinations)) (length c.sources) (length c.destinations)) (integers_are c.sources from are.sources)
    ∙ ap (λ p. four (places from) p (edge_rows (places_told c.sources)) (edge_rows (places_told c.destinations)) (length c.sources) (length c.destinations)) (integers_are c.destinations to are.destinations)
    ∙ ap (λ p. four (places from) (places to) (edge_rows p) (edge_rows (places_told c.destinations)) (length c.sources) (length c.destinations)) (told c.sources from are.sources)
    ∙ ap (λ p. four (places from) (places to) (edge_rows from) (edge_rows p) (length c.sources) (length c.destinations)) (told c.destinations to are.destinations)
    ∙ ap (λ i. four (places from) (places to) (edge_rows from) (edge_rows to) i (length c.destinations)) a
    ∙ ap (λ j. four (places from) (places to) (edge_rows from) (edge_rows to) n j) b

edge_pieces_are : (g : GraphData) (t : ℕ) (c : EdgeColumns) (x : EdgeTable) → AreEdgeColumns g t c → slice_get g.schema.edges t ≡ Some x → edge_pieces t c ≡ map (piece_of g) (edge_table_slots t x)
edge_pieces_are g t c x are there =
    let rows = rows_at g.edges t in
    let name = prop_slot_of (Edges t) in
    let width = length (edge_props_at g.schema t) in
    let ends = end_pieces t c.sources c.destinations in
    let wide = map (piece_of g) (map (EdgeProp t) (range_with_len 0 (length x.props))) in
    let props : prop_pieces name 0 c.values ≡ wide =
    ap (prop_pieces name 0) are.values
    ∙ props_are g name (edge_column g t) 0 width (λ p. refl) (λ p. length-map rows _)
    ∙ ap (λ o. map (piece_of g) (map (EdgeProp t) (range_with_len 0 (length (edge_table_props o))))) there in
    ap (λ ps. let q : Piece = record { name = EdgeKey t; part = longs c.keys; steps = length c.keys } in q ∷ (ends ++ ps)) props
    ∙ ap (λ es. let q : Piece = record { name = EdgeKey t; part = longs c.keys; steps = length c.keys } in q ∷ (es ++ wide)) (ends_are g t c are)
    ∙ ap (λ ks. let q : Piece = record { name = EdgeKey t; part = longs ks; steps = length ks } in q ∷ piece_of g (Source t) ∷ piece_of g (Destination t) ∷ piece_of g (Out t) ∷ piece_of g (Into t) ∷ wide) are.keys
    ∙ ap (λ n. let q : Piece = record { name = EdgeKey t; part = longs (map edge_key rows); steps = n } in q ∷ piece_of g (Source t) ∷ piece_of g (Destination t) ∷ piece_of g (Out t) ∷ piece_of g (Into t) ∷ wide) (length-map rows edge_key)

-- ---- all tables

vertex_tables_by : (g : GraphData) (b : ℕ) (shapes : List VertexTable) (cs : List VertexColumns) → length cs ≡ length shapes → ((i : ℕ) (x : VertexTable) (c : VertexColumns) → slice_get shapes i ≡ Some x → slice_get cs i ≡ Some c → vertex_pieces (b + i) c ≡ map (piece_of g) (vertex_table_slots (b + i) x)) → vertex_pieces_from b cs ≡ map (piece_of g) (vertex_slots b shapes)
vertex_tables_by g b [] [] long each = refl
vertex_tables_by g b [] (c ∷ cs) long each = absurd (omega arith)
vertex_tables_by g b (x ∷ shapes) [] long each = absurd (omega arith)
vertex_tables_by g b (x ∷ shapes) (c ∷ cs) long each =
    let first : b + 0 ≡ b = omega arith in
    let here : vertex_pieces b c ≡ map (piece_of g) (vertex_table_slots b x) = ap (λ n. vertex_pieces n c) (sym first) ∙ each 0 x c refl refl ∙ ap (λ n. map (piece_of g) (vertex_table_slots n x)) first in
    let shift : (i : ℕ) → b + suc i ≡ (b + 1) + i = λ i. omega arith in
    let rest = vertex_tables_by g (b + 1) shapes cs (omega arith) (λ i y d e f. ap (λ n. vertex_pieces n d) (sym (shift i)) ∙ each (suc i) y d e f ∙ ap (λ n. map (piece_of g) (vertex_table_slots n y)) (shift i)) in
    ap (λ ps. ps ++ vertex_pieces_from (b + 1) cs) here
    ∙ ap (λ ps. map (piece_of g) (vertex_table_slots b x) ++ ps) rest
    ∙ sym (map-append (piece_of g) (vertex_table_slots b x) (vertex_slots (b + 1) shapes))

edge_tables_by : (g : GraphData) (b : ℕ) (shapes : List EdgeTable) (cs : List EdgeColumns) → length cs ≡ length shapes → ((i : ℕ) (x : EdgeTable) (c : EdgeColumns) → slice_get shapes i ≡ Some x → slice_get cs i ≡ Some c → edge_pieces (b + i) c ≡ map (piece_of g) (edge_table_slots (b + i) x)) → edge_pieces_from b cs ≡ map (piece_of g) (edge_slots b shapes)
edge_tables_by g b [] [] long each = refl
edge_tables_by g b [] (c ∷ cs) long each = absurd (omega arith)
edge_tables_by g b (x ∷ shapes) [] long each = absurd (omega arith)
edge_tables_by g b (x ∷ shapes) (c ∷ cs) long each =
    let first : b + 0 ≡ b = omega arith in
    let here : edge_pieces b c ≡ map (piece_of g) (edge_table_slots b x) = ap (λ n. edge_pieces n c) (sym first) ∙ each 0 x c refl refl ∙ ap (λ n. map (piece_of g) (edge_table_slots n x)) first in
    let shift : (i : ℕ) → b + suc i ≡ (b + 1) + i = λ i. omega arith in
    let rest = edge_tables_by g (b + 1) shapes cs (omega arith) (λ i y d e f. ap (λ n. edge_pieces n d) (sym (shift i)) ∙ each (suc i) y d e f ∙ ap (λ n. map (piece_of g) (edge_table_slots n y)) (shift i)) in
    ap (λ ps. ps ++ edge_pieces_from (b + 1) cs) here
    ∙ ap (λ ps. map (piece_of g) (edge_table_slots b x) ++ ps) rest
    ∙ sym (map-append (piece_of g) (edge_table_slots b x) (edge_slots (b + 1) shapes))

from_zero : (n : ℕ) → 0 + n ≡ n
from_zero n = omega arith

pub all_pieces : (g : GraphData) (c : GraphColumns) → IsGraph g → AreColumnsOf g c → vertex_pieces_from 0 c.vertices ++ edge_pieces_from 0 c.edges ≡ map (piece_of g) (slots g.schema)
all_pieces g c is are =
    let vs = vertex_tables_by g 0 g.schema.vertices c.vertices (omega (arith, are.vertex_tables, vertex_table_count g g.schema g.schema.vertices is refl refl))
    (λ i x d there at. ap (λ n. vertex_pieces n d) (from_zero i) ∙ vertex_pieces_are g i d x (are.vertices i d at) there ∙ ap (λ n. map (piece_of g) (vertex_table_slots n x)) (sym (from_zero i))) in
    let es = edge_tables_by g 0 g.schema.edges c.edges (omega (arith, are.edge_tables, edge_table_count g g.schema g.schema.edges is refl refl))
    (λ i x d there at. ap (λ n. edge_pieces n d) (from_zero i) ∙ edge_pieces_are g i d x (are.edges i d at) there ∙ ap (λ n. map (piece_of g) (edge_table_slots n x)) (sym (from_zero i))) in
    ap (λ ps. ps ++ edge_pieces_from 0 c.edges) vs ∙ ap (λ ps. map (piece_of g) (vertex_slots 0 g.schema.vertices) ++ ps) es
    ∙ sym (map-append (piece_of g) (vertex_slots 0 g.schema.vertices) (edge_slots 0 g.schema.edges))

sum_same : {X Y : Type 0} (f : Y → ℕ) (h : X → Y) (q : X → ℕ) (xs : List X) → ((x : X) → f (h x) ≡ q x) → sum_by f (map h xs) ≡ sum_by q xs
sum_same f h q [] e = refl
sum_same f h q (x ∷ xs) e = sum_by-cons f (h x) (map h xs) ∙ ap (λ n. n + sum_by f (map h xs)) (e x) ∙ ap (λ n. q x + n) (sum_same f h q xs e) ∙ sym (sum_by-cons q x xs)

-- the steps of the pieces of all tables are those of the slots
pub all_take : (s : SchemaData) (g : GraphData) (m : Marks) (c : GraphColumns) → IsGraph g → g.schema ≡ s → AreColumnsOf g c → sum_by (picked_steps s m) (vertex_pieces_from 0 c.vertices) + sum_by (picked_steps s m) (edge_pieces_from 0 c.edges) ≡ sum_by (λ x. steps_if (is_marked s m x) (slot_steps g x)) (slots s)
all_take s g m c is schema are =
    let f = picked_steps s m in
    let names = all_pieces g c is are ∙ ap (λ z. map (piece_of g) (slots z)) schema in
    sym (sum_by-append f (vertex_pieces_from 0 c.vertices) (edge_pieces_from 0 c.edges)) ∙ ap (sum_by f) names
    ∙ sum_same f (piece_of g) (λ x. steps_if (is_marked s m x) (slot_steps g x)) (slots s) (λ x. refl)

-- the slots that they give, and the steps
pub record Whole (s : SchemaData) (g : GraphData) (m : Marks) (derived : List Derived) (took more : ℕ) : Type 0 where
  pub slots_are : derived ≡ map (derived_slot s g m) (slots s)
  pub took_are : more ≡ took + sum_by (λ x. steps_if (is_marked s m x) (slot_steps g x)) (slots s)

pub whole : (s : SchemaData) (g : GraphData) (m : Marks) (c : GraphColumns) (some all : List Derived) (i j k : ℕ) → IsGraph g → g.schema ≡ s → AreColumnsOf g c → Appended s m (vertex_pieces_from 0 c.vertices) [] some i j → Appended s m (edge_pieces_from 0 c.edges) some all j k → Whole s g m all i k
whole s g m c some all i j k is schema are p q =
    let pieces = vertex_pieces_from 0 c.vertices ++ edge_pieces_from 0 c.edges in
    let both = append_more s m (vertex_pieces_from 0 c.vertices) (edge_pieces_from 0 c.edges) pieces [] some all i j k refl p q in
    let names : pieces ≡ map (piece_of g) (slots s) = all_pieces g c is are ∙ ap (λ z. map (piece_of g) (slots z)) schema in
    record {
      slots_are = both.slots_are ∙ ap (map (picked s m)) names ∙ map_map (piece_of g) (picked s m) (derived_slot s g m) (slots s) (λ x. refl);
      took_are = omega (arith, p.took_are, q.took_are, all_take s g m c is schema are);
    }

-- ---- what some of the pieces take is no more than what all of them take

props_first : (f : Piece → ℕ) (name : ℕ → SlotName) (p : ℕ) (cs rest : List ColumnData) → sum_by f (prop_pieces name p cs) ≤ sum_by f (prop_pieces name p (cs ++ rest))
props_first f name p [] rest = omega arith
props_first f name p (c ∷ cs) rest =
    let first : Piece = record { name = name p; part = Cells c; steps = length c.values } in
    omega (arith, sum_by-cons f first (prop_pieces name (p + 1) cs), sum_by-cons f first (prop_pieces name (p + 1) (cs ++ rest)), props_first f name (p + 1) cs rest)

vertices_first : (f : Piece → ℕ) (t : ℕ) (cs rest : List VertexColumns) → sum_by f (vertex_pieces_from t cs) ≤ sum_by f (vertex_pieces_from t (cs ++ rest))
vertices_first f t [] rest = omega arith
vertices_first f t (c ∷ cs) rest = omega (arith, sum_by-append f (vertex_pieces t c) (vertex_pieces_from (t + 1) cs), sum_by-append f (vertex_pieces t c) (vertex_pieces_from (t + 1) (cs ++ rest)), vertices_first f (t + 1) cs rest)

edges_first : (f : Piece → ℕ) (t : ℕ) (cs rest : List EdgeColumns) → sum_by f (edge_pieces_from t cs) ≤ sum_by f (edge_pieces_from t (cs ++ rest))
edges_first f t [] rest = omega arith
edges_first f t (c ∷ cs) rest = omega (arith, sum_by-append f (edge_pieces t c) (edge_pieces_from (t + 1) cs), sum_by-append f (edge_pieces t c) (edge_pieces_from (t + 1) (cs ++ rest)), edges_first f (t + 1) cs rest)

-- where the pieces so far and some of the next were made, no more was taken than all of them take
some_take : (f : Piece → ℕ) (so_far next both all : List Piece) (i j k : ℕ) → both ≡ so_far ++ next → sum_by f both ≤ sum_by f all → j ≡ i + sum_by f so_far → k ≤ j + sum_by f next → k ≤ i + sum_by f all
some_take f so_far next both all i j k join few taken more = omega (arith, taken, more, few, ap (sum_by f) join, sum_by-append f so_far next)

pub props_take : (s : SchemaData) (m : Marks) (name : ℕ → SlotName) (p : ℕ) (x : SlotName) (cs after all : List ColumnData) (c : ColumnData) (i j k : ℕ) → x ≡ name p → p ≡ length cs → (cs ++ c ∷ []) ++ after ≡ all → j ≡ i + sum_by (picked_steps s m) (prop_pieces name 0 cs) → k ≡ j + steps_if (is_marked s m x) (length c.values) → k ≤ i + sum_by (picked_steps s m) (prop_pieces name 0 all)
props_take s m name p x cs after all c i j k same at whole taken more =
    let f = picked_steps s m in
    let next : Piece = record { name = name (0 + length cs); part = Cells c; steps = length c.values } in
    let place : name p ≡ name (0 + length cs) = ap name (let e : p ≡ 0 + length cs = omega (arith, at) in e) in
    let counted : k ≡ j + steps_if (is_marked s m (name (0 + length cs))) (length c.values) = more ∙ ap (λ y. j + steps_if (is_marked s m y) (length c.values)) (same ∙ place) in
    some_take f (prop_pieces name 0 cs) (next ∷ []) (prop_pieces name 0 (cs ++ c ∷ [])) (prop_pieces name 0 all) i j k (props_push name 0 cs c)
    (subst (λ ds. sum_by f (prop_pieces name 0 (cs ++ c ∷ [])) ≤ sum_by f (prop_pieces name 0 ds)) whole (props_first f name 0 (cs ++ c ∷ []) after))
    taken (omega (arith, counted, sum_by-cons f next []))

pub vertices_take : (s : SchemaData) (m : Marks) (t : ℕ) (cs after all : List VertexColumns) (c : VertexColumns) (i j k : ℕ) → t ≡ length cs → (cs ++ c ∷ []) ++ after ≡ all → j ≡ i + sum_by (picked_steps s m) (vertex_pieces_from 0 cs) → k ≤ j + sum_by (picked_steps s m) (vertex_pieces t c) → k ≤ i + sum_by (picked_steps s m) (vertex_pieces_from 0 all)
vertices_take s m t cs after all c i j k at whole taken more =
    let f = picked_steps s m in
    let place : 0 + length cs ≡ t = omega (arith, at) in
    some_take f (vertex_pieces_from 0 cs) (vertex_pieces t c) (vertex_pieces_from 0 (cs ++ c ∷ [])) (vertex_pieces_from 0 all) i j k (vertices_push 0 cs c ∙ ap (λ n. vertex_pieces_from 0 cs ++ vertex_pieces n c) place)
    (subst (λ ds. sum_by f (vertex_pieces_from 0 (cs ++ c ∷ [])) ≤ sum_by f (vertex_pieces_from 0 ds)) whole (vertices_first f 0 (cs ++ c ∷ []) after))
    taken more

pub edges_take : (s : SchemaData) (m : Marks) (t : ℕ) (cs after all : List EdgeColumns) (c : EdgeColumns) (i j k : ℕ) → t ≡ length cs → (cs ++ c ∷ []) ++ after ≡ all → j ≡ i + sum_by (picked_steps s m) (edge_pieces_from 0 cs) → k ≤ j + sum_by (picked_steps s m) (edge_pieces t c) → k ≤ i + sum_by (picked_steps s m) (edge_pieces_from 0 all)
edges_take s m t cs after all c i j k at whole taken more =
    let f = picked_steps s m in
    let place : 0 + length cs ≡ t = omega (arith, at) in
    some_take f (edge_pieces_from 0 cs) (edge_pieces t c) (edge_pieces_from 0 (cs ++ c ∷ [])) (edge_pieces_from 0 all) i j k (edges_push 0 cs c ∙ ap (λ n. edge_pieces_from 0 cs ++ edge_pieces n c) place)
    (subst (λ ds. sum_by f (edge_pieces_from 0 (cs ++ c ∷ [])) ≤ sum_by f (edge_pieces_from 0 ds)) whole (edges_first f 0 (cs ++ c ∷ []) after))
    taken more

-- ---- what is appended in several steps

pub slots_more : (f : Piece → Derived) (first rest : List Piece) (a b c : List Derived) → b ≡ a ++ map f first → c ≡ b ++ map f rest → c ≡ a ++ map f (first ++ rest)
slots_more f first rest a b c p q = q ∙ ap (λ ds. ds ++ map f rest) p ∙ append_assoc a (map f first) (map f rest) ∙ ap (λ ds. a ++ ds) (sym (map-append f first rest))

pub four_steps : (s : SchemaData) (m : Marks) (t : ℕ) (sources destinations : List ℤ) → sum_by (picked_steps s m) (end_pieces t sources destinations) ≡ ((steps_if (is_marked s m (Source t)) (length sources) + steps_if (is_marked s m (Destination t)) (length destinations)) + steps_if (is_marked s m (Out t)) (length sources)) + steps_if (is_marked s m (Into t)) (length destinations)
four_steps s m t sources destinations =
    let a : Piece = record { name = Source t; part = integers sources; steps = length sources } in
    let b : Piece = record { name = Destination t; part = integers destinations; steps = length destinations } in
    let c : Piece = record { name = Out t; part = edge_rows (places_told sources); steps = length sources } in
    let d : Piece = record { name = Into t; part = edge_rows (places_told destinations); steps = length destinations } in
    let f = picked_steps s m in
    omega (arith, sum_by-cons f a (b ∷ c ∷ d ∷ []), sum_by-cons f b (c ∷ d ∷ []), sum_by-cons f c (d ∷ []), sum_by-cons f d [])

pub vertex_props_few : (s : SchemaData) (t : ℕ) → IsSchema s → t < length s.vertices → length (vertex_props_at s t) ≤ 64
vertex_props_few s t is h =
    let x = item_at s.vertices t h in
    omega (arith, ap (λ o. length (vertex_table_props o)) x.there, few_at (λ (y : VertexTable). length y.props) s.vertices t x.item (few_vertex_props s is) x.there)

pub edge_props_few : (s : SchemaData) (t : ℕ) → IsSchema s → t < length s.edges → length (edge_props_at s t) ≤ 64
edge_props_few s t is h =
    let x = item_at s.edges t h in
    omega (arith, ap (λ o. length (edge_table_props o)) x.there, few_at (λ (y : EdgeTable). length y.props) s.edges t x.item (few_edge_props s is) x.there)

-- ---- the columns of a graph of a schema

pub record Fit (s : SchemaData) (c : GraphColumns) : Type 0 where
  pub vertices : length c.vertices ≡ length s.vertices
  pub vertex_widths : (t : ℕ) (x : VertexColumns) → slice_get c.vertices t ≡ Some x → length x.values ≡ length (vertex_props_at s t)
  pub edges : length c.edges ≡ length s.edges
  pub edge_widths : (t : ℕ) (x : EdgeColumns) → slice_get c.edges t ≡ Some x → length x.values ≡ length (edge_props_at s t)

pub columns_fit : (s : SchemaData) (g : GraphData) (c : GraphColumns) → IsGraph g → g.schema ≡ s → AreColumnsOf g c → Fit s c
columns_fit s g c is schema are = record {
  vertices = omega (arith, are.vertex_tables, vertex_table_count g g.schema g.schema.vertices is refl refl, ap (λ (z : SchemaData). length z.vertices) schema);
  vertex_widths = λ t x there. ap length (are.vertices t x there).values ∙ length-map (range_with_len 0 (length (vertex_props_at g.schema t))) (vertex_column g t) ∙ length-range_with_len 0 (length (vertex_props_at g.schema t)) ∙ ap (λ z. length (vertex_props_at z t)) schema;
  edges = omega (arith, are.edge_tables, edge_table_count g g.schema g.schema.edges is refl refl, ap (λ (z : SchemaData). length z.edges) schema);
  edge_widths = λ t x there. ap length (are.edges t x there).values ∙ length-map (range_with_len 0 (length (edge_props_at g.schema t))) (edge_column g t) ∙ length-range_with_len 0 (length (edge_props_at g.schema t)) ∙ ap (λ z. length (edge_props_at z t)) schema;
}
