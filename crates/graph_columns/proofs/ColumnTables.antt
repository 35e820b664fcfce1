-- the columns of a graph's tables give its parts
use Rattle.std.proofs.Common.{◌≡◌, ℕ, zero, suc, ◌+◌, ◌*◌, ◌<◌, ℤ, pos, Bool, true, false, List, [], ◌∷◌, ◌++◌, Some, All, length, get_or, slice_get, map, cond, sum_by, refl, ap, sym, subst, ◌∙◌, arith}
use Rattle.std.specs.Prelude.{position}
use Rattle.std.specs.List.{flat_map, range_with_len}
use Rattle.std.specs.Option.{option_map}
use Rattle.std.specs.Ordering.{int_eq}
use Rattle.std.proofs.lemmas.Bool.Decides.{Decides-int_eq}
use Rattle.std.proofs.lemmas.List.{length-map, map-append}
use Rattle.std.proofs.lemmas.List.FromFn.{length-range_with_len}
use Rattle.std.proofs.lemmas.List.Sums.{sum_by-cons}
use Rattle.std.proofs.lemmas.Option.{slice_get-get_or, slice_get_within, same_Some}
use Rattle.column_types.specs.declared.kind.Kind.TheVariants as kind
use Rattle.column_types.specs.declared.value.Value.TheVariants.{Integer}
use Rattle.column_types.specs.Column.{ColumnData}
use Rattle.graph_schema.specs.declared.schema.VertexTable.{VertexTable}
use Rattle.graph_schema.specs.declared.schema.EdgeTable.{EdgeTable}
use Rattle.graph_model.specs.declared.row.VertexRow.{VertexRow}
use Rattle.graph_model.specs.declared.row.EdgeRow.{EdgeRow}
use Rattle.graph_model.specs.declared.columns.GraphColumns.{GraphColumns}
use Rattle.graph_model.specs.declared.columns.VertexColumns.{VertexColumns}
use Rattle.graph_model.specs.declared.columns.EdgeColumns.{EdgeColumns}
use Rattle.graph_model.specs.Keys.{rows_at, cells_in, value_total}
use Rattle.graph_model.specs.Graph.{GraphData, IsGraph, AreVertices, AreEdges, vertex_key, edge_key, vertex_values, edge_values, vertex_table_props, edge_table_props, vertex_props_at, edge_props_at, vertex_total, edge_total}
use Rattle.graph_model.specs.IntoColumns.{AreColumnsOf, AreVertexColumns, AreEdgeColumns, vertex_column, edge_column}
use Rattle.graph_slots.specs.declared.part.Part.TheVariants.{Cells}
use Rattle.graph_slots.specs.declared.slot.SlotName.TheVariants.{VertexProp, EdgeProp}
use Rattle.graph_slots.specs.Slots.{vertex_table_slots, edge_table_slots, vertex_slots, edge_slots}
use Rattle.graph_slots.specs.Meaning.{slot_value, longs, cells, places, edge_rows, source_places, destination_places}
use Rattle.graph_slots.proofs.Kept.{map_map}
use Rattle.graph_columns.specs.Keys.{vertex_keys, edge_keys}
use Rattle.graph_columns.specs.TableParts.{places_told, ArePlaces, integers, vertex_parts, edge_parts, cells_of, vertex_steps, edge_steps, IsVertexTable, IsEdgeTable}
use Rattle.graph_columns.proofs.Places.{position_cons}
use Rattle.graph_columns.proofs.EndPlaces.{few_vertices_in, few_edges_in}
use Rattle.graph_columns.proofs.PropParts.{cells_counted}
use Rattle.graph_columns.proofs.Tables.{zipped_at}
use Rattle.graph_columns.proofs.GraphTables.{vertex_table_count, edge_table_count}
use Rattle.graph_columns.proofs.SlotParts.{item_at, sources_few, destinations_few}

-- ---- the place of a key, whichever way round the test is

same_test : (b c : Bool) → (b ≡ true → c ≡ true) → (c ≡ true → b ≡ true) → b ≡ c
same_test true c f h = sym (f refl)
same_test false true f h = h refl
same_test false false f h = refl

turned : (a b : ℤ) → int_eq a b ≡ int_eq b a
turned a b =
    same_test (int_eq a b) (int_eq b a) (λ t. (Decides-int_eq b a).1 (sym ((Decides-int_eq a b).0 t))) (λ t. (Decides-int_eq a b).1 (sym ((Decides-int_eq b a).0 t)))

pub position_turned : (k : ℤ) (keys : List ℤ) → position (int_eq k) keys ≡ position (λ q. int_eq q k) keys
position_turned k [] = refl
position_turned k (q ∷ keys) =
    position_cons (int_eq k) q keys
    ∙ ap (λ b. cond b (Some 0) (option_map (λ n. 1 + n) (position (int_eq k) keys))) (turned k q)
    ∙ ap (λ o. cond (int_eq q k) (Some 0) (option_map (λ n. 1 + n) o)) (position_turned k keys)
    ∙ sym (position_cons (λ r. int_eq r k) q keys)

-- ---- numbers that are places

told_back : (xs : List ℕ) → places_told (map pos xs) ≡ xs
told_back [] = refl
told_back (x ∷ xs) = ap (λ ys. x ∷ ys) (told_back xs)

pub told : (ns : List ℤ) (xs : List ℕ) → ns ≡ map pos xs → places_told ns ≡ xs
told ns xs e = ap places_told e ∙ told_back xs

pub are_places : (ns : List ℤ) (xs : List ℕ) → ns ≡ map pos xs → All (λ p. p < 1048576) xs → ArePlaces ns
are_places ns xs e small = record {
  told = e ∙ ap (map pos) (sym (told ns xs e));
  small = subst (All (λ p. p < 1048576)) (sym (told ns xs e)) small;
}

pub integers_are : (ns : List ℤ) (xs : List ℕ) → ns ≡ map pos xs → integers ns ≡ places xs
integers_are ns xs e = ap integers e ∙ ap (cells kind.Integer) (map_map pos Integer (λ n. Integer (pos n)) xs (λ n. refl))

-- ---- one table

table_props_are : (g : GraphData) (t : ℕ) (c : VertexColumns) (x : VertexTable) → AreVertexColumns g t c → slice_get g.schema.vertices t ≡ Some x → map Cells c.values ≡ map (slot_value g) (map (VertexProp t) (range_with_len 0 (length x.props)))
table_props_are g t c x are there =
    let width = ap (λ o. range_with_len 0 (length (vertex_table_props o))) there in
    ap (map Cells) are.values
    ∙ map_map (vertex_column g t) Cells (λ p. slot_value g (VertexProp t p)) (range_with_len 0 (length (vertex_props_at g.schema t))) (λ p. refl)
    ∙ ap (map (λ p. slot_value g (VertexProp t p))) width
    ∙ sym (map_map (VertexProp t) (slot_value g) (λ p. slot_value g (VertexProp t p)) (range_with_len 0 (length x.props)) (λ p. refl))

vertex_table_is : (g : GraphData) (t : ℕ) (c : VertexColumns) (x : VertexTable) → AreVertexColumns g t c → slice_get g.schema.vertices t ≡ Some x → vertex_parts c ≡ map (slot_value g) (vertex_table_slots t x)
vertex_table_is g t c x are there =
    ap (λ ks. longs ks ∷ map Cells c.values) are.keys ∙ ap (λ ps. longs (map vertex_key (rows_at g.vertices t)) ∷ ps) (table_props_are g t c x are there)

edge_props_are : (g : GraphData) (t : ℕ) (c : EdgeColumns) (x : EdgeTable) → AreEdgeColumns g t c → slice_get g.schema.edges t ≡ Some x → map Cells c.values ≡ map (slot_value g) (map (EdgeProp t) (range_with_len 0 (length x.props)))
edge_props_are g t c x are there =
    let width = ap (λ o. range_with_len 0 (length (edge_table_props o))) there in
    ap (map Cells) are.values
    ∙ map_map (edge_column g t) Cells (λ p. slot_value g (EdgeProp t p)) (range_with_len 0 (length (edge_props_at g.schema t))) (λ p. refl)
    ∙ ap (map (λ p. slot_value g (EdgeProp t p))) width
    ∙ sym (map_map (EdgeProp t) (slot_value g) (λ p. slot_value g (EdgeProp t p)) (range_with_len 0 (length x.props)) (λ p. refl))

edge_table_is : (g : GraphData) (t : ℕ) (c : EdgeColumns) (x : EdgeTable) → AreEdgeColumns g t c → slice_get g.schema.edges t ≡ Some x → edge_parts c ≡ map (slot_value g) (edge_table_slots t x)
edge_table_is g t c x are there =
    let keys = longs (map edge_key (rows_at g.edges t)) in
    let props = map Cells c.values in
    let from = source_places g t in
    let to = destination_places g t in
    ap (λ ks. longs ks ∷ integers c.sources ∷ integers c.destinations ∷ edge_rows (places_told c.sources) ∷ edge_rows (places_told c.destinations) ∷ props) are.keys
    ∙ ap (λ p. keys ∷ p ∷ integers c.destinations ∷ edge_rows (places_told c.sources) ∷ edge_rows (places_told c.destinations) ∷ props) (integers_are c.sources from are.sources)
    ∙ ap (λ p. keys ∷ places from ∷ p ∷ edge_rows (places_told c.sources) ∷ edge_rows (places_told c.destinations) ∷ props) (integers_are c.destinations to are.destinations)
    ∙ ap (λ ps. keys ∷ places from ∷ places to ∷ edge_rows ps ∷ edge_rows (places_told c.destinations) ∷ props) (told c.sources from are.sources)
    ∙ ap (λ ps. keys ∷ places from ∷ places to ∷ edge_rows from ∷ edge_rows ps ∷ props) (told c.destinations to are.destinations)
    ∙ ap (λ ps. keys ∷ places from ∷ places to ∷ edge_rows from ∷ edge_rows to ∷ ps) (edge_props_are g t c x are there)

-- ---- all tables

vertex_tables_by : (g : GraphData) (b : ℕ) (shapes : List VertexTable) (cs : List VertexColumns) → length cs ≡ length shapes → ((i : ℕ) (x : VertexTable) (c : VertexColumns) → slice_get shapes i ≡ Some x → slice_get cs i ≡ Some c → vertex_parts c ≡ map (slot_value g) (vertex_table_slots (b + i) x)) → flat_map vertex_parts cs ≡ map (slot_value g) (vertex_slots b shapes)
vertex_tables_by g b [] [] long each = refl
vertex_tables_by g b [] (c ∷ cs) long each = absurd (omega arith)
vertex_tables_by g b (x ∷ shapes) [] long each = absurd (omega arith)
vertex_tables_by g b (x ∷ shapes) (c ∷ cs) long each =
    let first : b + 0 ≡ b = omega arith in
    let here : vertex_parts c ≡ map (slot_value g) (vertex_table_slots b x) = each 0 x c refl refl ∙ ap (λ n. map (slot_value g) (vertex_table_slots n x)) first in
    let shift : (i : ℕ) → b + suc i ≡ (b + 1) + i = λ i. omega arith in
    let rest = vertex_tables_by g (b + 1) shapes cs (omega arith) (λ i y d e f. each (suc i) y d e f ∙ ap (λ n. map (slot_value g) (vertex_table_slots n y)) (shift i)) in
    ap (λ ps. ps ++ flat_map vertex_parts cs) here
    ∙ ap (λ ps. map (slot_value g) (vertex_table_slots b x) ++ ps) rest
    ∙ sym (map-append (slot_value g) (vertex_table_slots b x) (vertex_slots (b + 1) shapes))

edge_tables_by : (g : GraphData) (b : ℕ) (shapes : List EdgeTable) (cs : List EdgeColumns) → length cs ≡ length shapes → ((i : ℕ) (x : EdgeTable) (c : EdgeColumns) → slice_get shapes i ≡ Some x → slice_get cs i ≡ Some c → edge_parts c ≡ map (slot_value g) (edge_table_slots (b + i) x)) → flat_map edge_parts cs ≡ map (slot_value g) (edge_slots b shapes)
edge_tables_by g b [] [] long each = refl
edge_tables_by g b [] (c ∷ cs) long each = absurd (omega arith)
edge_tables_by g b (x ∷ shapes) [] long each = absurd (omega arith)
edge_tables_by g b (x ∷ shapes) (c ∷ cs) long each =
    let first : b + 0 ≡ b = omega arith in
    let here : edge_parts c ≡ map (slot_value g) (edge_table_slots b x) = each 0 x c refl refl ∙ ap (λ n. map (slot_value g) (edge_table_slots n x)) first in
    let shift : (i : ℕ) → b + suc i ≡ (b + 1) + i = λ i. omega arith in
    let rest = edge_tables_by g (b + 1) shapes cs (omega arith) (λ i y d e f. each (suc i) y d e f ∙ ap (λ n. map (slot_value g) (edge_table_slots n y)) (shift i)) in
    ap (λ ps. ps ++ flat_map edge_parts cs) here
    ∙ ap (λ ps. map (slot_value g) (edge_table_slots b x) ++ ps) rest
    ∙ sym (map-append (slot_value g) (edge_table_slots b x) (edge_slots (b + 1) shapes))

from_zero : (n : ℕ) → 0 + n ≡ n
from_zero n = omega arith

pub vertex_parts_are : (g : GraphData) (c : GraphColumns) → IsGraph g → AreColumnsOf g c → flat_map vertex_parts c.vertices ≡ map (slot_value g) (vertex_slots 0 g.schema.vertices)
vertex_parts_are g c is are =
    vertex_tables_by g 0 g.schema.vertices c.vertices (omega (arith, are.vertex_tables, vertex_table_count g g.schema g.schema.vertices is refl refl))
    (λ i x d there at. vertex_table_is g i d x (are.vertices i d at) there ∙ ap (λ n. map (slot_value g) (vertex_table_slots n x)) (sym (from_zero i)))

pub edge_parts_are : (g : GraphData) (c : GraphColumns) → IsGraph g → AreColumnsOf g c → flat_map edge_parts c.edges ≡ map (slot_value g) (edge_slots 0 g.schema.edges)
edge_parts_are g c is are =
    edge_tables_by g 0 g.schema.edges c.edges (omega (arith, are.edge_tables, edge_table_count g g.schema g.schema.edges is refl refl))
    (λ i x d there at. edge_table_is g i d x (are.edges i d at) there ∙ ap (λ n. map (slot_value g) (edge_table_slots n x)) (sym (from_zero i)))

-- what each table's columns give, where it is what the table's rows give
alike : {C R X : Type 0} (f : C → X) (h : List R → X) (cs : List C) (tables : List (List R)) → length cs ≡ length tables → ((i : ℕ) (c : C) → slice_get cs i ≡ Some c → f c ≡ h (rows_at tables i)) → map f cs ≡ map h tables
alike f h [] [] long each = refl
alike f h [] (rows ∷ tables) long each = absurd (omega arith)
alike f h (c ∷ cs) [] long each = absurd (omega arith)
alike f h (c ∷ cs) (rows ∷ tables) long each =
    ap (λ x. x ∷ map f cs) (each 0 c refl) ∙ ap (λ xs. h rows ∷ xs) (alike f h cs tables (omega arith) (λ i d at. each (suc i) d at))

alike_sums : {C R : Type 0} (f : C → ℕ) (h : List R → ℕ) (cs : List C) (tables : List (List R)) → length cs ≡ length tables → ((i : ℕ) (c : C) → slice_get cs i ≡ Some c → f c ≡ h (rows_at tables i)) → sum_by f cs ≡ sum_by h tables
alike_sums f h [] [] long each = refl
alike_sums f h [] (rows ∷ tables) long each = absurd (omega arith)
alike_sums f h (c ∷ cs) [] long each = absurd (omega arith)
alike_sums f h (c ∷ cs) (rows ∷ tables) long each =
    let here : f c ≡ h rows = each 0 c refl in
    let rest = alike_sums f h cs tables (omega arith) (λ i d at. each (suc i) d at) in
    omega (arith, here, rest, sum_by-cons f c cs, sum_by-cons h rows tables)

pub vertex_keys_are : (g : GraphData) (c : GraphColumns) → AreColumnsOf g c → map (λ (d : VertexColumns). d.keys) c.vertices ≡ vertex_keys g
vertex_keys_are g c are = alike (λ (d : VertexColumns). d.keys) (map vertex_key) c.vertices g.vertices are.vertex_tables (λ i d at. (are.vertices i d at).keys)

pub edge_keys_are : (g : GraphData) (c : GraphColumns) → AreColumnsOf g c → map (λ (d : EdgeColumns). d.keys) c.edges ≡ edge_keys g
edge_keys_are g c are = alike (λ (d : EdgeColumns). d.keys) (map edge_key) c.edges g.edges are.edge_tables (λ i d at. (are.edges i d at).keys)

-- ---- steps

same_lengths : (f : ℕ → ColumnData) (n : ℕ) (ps : List ℕ) → ((p : ℕ) → cells_of (f p) ≡ n) → sum_by cells_of (map f ps) ≡ length ps * n
same_lengths f n [] each = omega arith
same_lengths f n (p ∷ ps) each =
    let here = each p in
    omega (arith, here, same_lengths f n ps each, sum_by-cons cells_of (f p) (map f ps))

vertex_table_steps : (g : GraphData) (t : ℕ) (c : VertexColumns) (x : VertexTable) → IsGraph g → AreVertexColumns g t c → slice_get g.schema.vertices t ≡ Some x → vertex_steps c ≡ length (rows_at g.vertices t) + cells_in vertex_values (rows_at g.vertices t)
vertex_table_steps g t c x is are there =
    let rows = rows_at g.vertices t in
    let values : AreVertices x rows = zipped_at AreVertices g.schema.vertices g.vertices t x there is.vertices in
    let width : length (range_with_len 0 (length (vertex_props_at g.schema t))) ≡ length x.props = length-range_with_len 0 (length (vertex_props_at g.schema t)) ∙ ap (λ o. length (vertex_table_props o)) there in
    let cells_are : sum_by cells_of c.values ≡ cells_in vertex_values rows =
    ap (sum_by cells_of) are.values ∙ same_lengths (vertex_column g t) (length rows) (range_with_len 0 (length (vertex_props_at g.schema t))) (λ p. length-map rows _)
    ∙ ap (λ n. n * length rows) width ∙ sym (cells_counted vertex_values x.props rows values) in
    omega (arith, cells_are, ap length are.keys, length-map rows vertex_key)

edge_table_steps : (g : GraphData) (t : ℕ) (c : EdgeColumns) (x : EdgeTable) → IsGraph g → AreEdgeColumns g t c → slice_get g.schema.edges t ≡ Some x → edge_steps c ≡ cells_in edge_values (rows_at g.edges t) + 5 * length (rows_at g.edges t)
edge_table_steps g t c x is are there =
    let rows = rows_at g.edges t in
    let each : AreEdges g.vertices x rows = zipped_at (AreEdges g.vertices) g.schema.edges g.edges t x there is.edges in
    let width : length (range_with_len 0 (length (edge_props_at g.schema t))) ≡ length x.props = length-range_with_len 0 (length (edge_props_at g.schema t)) ∙ ap (λ o. length (edge_table_props o)) there in
    let cells_are : sum_by cells_of c.values ≡ cells_in edge_values rows =
    ap (sum_by cells_of) are.values ∙ same_lengths (edge_column g t) (length rows) (range_with_len 0 (length (edge_props_at g.schema t))) (λ p. length-map rows _)
    ∙ ap (λ n. n * length rows) width ∙ sym (cells_counted edge_values x.props rows (λ i d l. (each i d l).values)) in
    let from : length c.sources ≡ length rows = ap length are.sources ∙ length-map (source_places g t) pos ∙ length-map rows _ in
    let to : length c.destinations ≡ length rows = ap length are.destinations ∙ length-map (destination_places g t) pos ∙ length-map rows _ in
    omega (arith, cells_are, from, to, ap length are.keys, length-map rows edge_key)

split_sums : {R : Type 0} (f h : List R → ℕ) (tables : List (List R)) → sum_by (λ rows. f rows + h rows) tables ≡ sum_by f tables + sum_by h tables
split_sums f h [] = refl
split_sums f h (rows ∷ tables) = omega (arith, split_sums f h tables, sum_by-cons f rows tables, sum_by-cons h rows tables, sum_by-cons (λ rs. f rs + h rs) rows tables)

five_sums : {R : Type 0} (f h : List R → ℕ) (tables : List (List R)) → sum_by (λ rows. f rows + 5 * h rows) tables ≡ sum_by f tables + 5 * sum_by h tables
five_sums f h [] = refl
five_sums f h (rows ∷ tables) = omega (arith, five_sums f h tables, sum_by-cons f rows tables, sum_by-cons h rows tables, sum_by-cons (λ rs. f rs + 5 * h rs) rows tables)

pub vertex_steps_are : (g : GraphData) (c : GraphColumns) → IsGraph g → AreColumnsOf g c → sum_by vertex_steps c.vertices ≡ vertex_total g + value_total vertex_values g.vertices
vertex_steps_are g c is are =
    alike_sums vertex_steps (λ (rows : List VertexRow). length rows + cells_in vertex_values rows) c.vertices g.vertices are.vertex_tables
    (λ i d at.
    let small : i < length g.schema.vertices = omega (arith, slice_get_within c.vertices i d at, are.vertex_tables, vertex_table_count g g.schema g.schema.vertices is refl refl) in
    let shape = item_at g.schema.vertices i small in
    vertex_table_steps g i d shape.item is (are.vertices i d at) shape.there)
    ∙ split_sums (λ (rows : List VertexRow). length rows) (λ (rows : List VertexRow). cells_in vertex_values rows) g.vertices

pub edge_steps_are : (g : GraphData) (c : GraphColumns) → IsGraph g → AreColumnsOf g c → sum_by edge_steps c.edges ≡ value_total edge_values g.edges + 5 * edge_total g
edge_steps_are g c is are =
    alike_sums edge_steps (λ (rows : List EdgeRow). cells_in edge_values rows + 5 * length rows) c.edges g.edges are.edge_tables
    (λ i d at.
    let small : i < length g.schema.edges = omega (arith, slice_get_within c.edges i d at, are.edge_tables, edge_table_count g g.schema g.schema.edges is refl refl) in
    let shape = item_at g.schema.edges i small in
    edge_table_steps g i d shape.item is (are.edges i d at) shape.there)
    ∙ five_sums (λ (rows : List EdgeRow). cells_in edge_values rows) (λ (rows : List EdgeRow). length rows) g.edges

-- ---- what the tables keep

pub vertex_tables_keep : (g : GraphData) (c : GraphColumns) → IsGraph g → AreColumnsOf g c → All IsVertexTable c.vertices
vertex_tables_keep g c is are i d l =
    let at = are.vertices i (get_or c.vertices i d) (slice_get-get_or c.vertices i d l) in
    record {
      few = omega (arith, ap length at.keys, length-map (rows_at g.vertices i) vertex_key, few_vertices_in g i is);
      places = λ k. at.places k ∙ position_turned k (get_or c.vertices i d).keys;
    }

pub edge_tables_keep : (g : GraphData) (c : GraphColumns) → IsGraph g → AreColumnsOf g c → All IsEdgeTable c.edges
edge_tables_keep g c is are i d l =
    let at = are.edges i (get_or c.edges i d) (slice_get-get_or c.edges i d l) in
    let rows = rows_at g.edges i in
    let few = few_edges_in g i is in
    let from : length (get_or c.edges i d).sources ≡ length rows = ap length at.sources ∙ length-map (source_places g i) pos ∙ length-map rows _ in
    let to : length (get_or c.edges i d).destinations ≡ length rows = ap length at.destinations ∙ length-map (destination_places g i) pos ∙ length-map rows _ in
    record {
      few = omega (arith, ap length at.keys, length-map rows edge_key, few);
      few_sources = omega (arith, from, few);
      few_destinations = omega (arith, to, few);
      sources = are_places (get_or c.edges i d).sources (source_places g i) at.sources (sources_few g i (source_places g i) is refl);
      destinations = are_places (get_or c.edges i d).destinations (destination_places g i) at.destinations (destinations_few g i (destination_places g i) is refl);
      places = λ k. at.places k ∙ position_turned k (get_or c.edges i d).keys;
    }

-- ---- one slot

range_read : {X : Type 0} (f : ℕ → X) (a n i : ℕ) (v : X) → slice_get (map f (range_with_len a n)) i ≡ Some v → v ≡ f (a + i)
range_read f a zero i v e = cc
range_read f a (suc n) zero v e =
    let at : a ≡ a + 0 = omega arith in
    sym (same_Some _ _ e) ∙ ap f at
range_read f a (suc n) (suc i) v e =
    let at : (a + 1) + i ≡ a + suc i = omega arith in
    range_read f (a + 1) n i v e ∙ ap f at

pub vertex_prop_is : (g : GraphData) (c : GraphColumns) (x : VertexColumns) (t p : ℕ) (values : ColumnData) → AreColumnsOf g c → slice_get c.vertices t ≡ Some x → slice_get x.values p ≡ Some values → Cells values ≡ slot_value g (VertexProp t p)
vertex_prop_is g c x t p values are at there =
    let read = range_read (vertex_column g t) 0 (length (vertex_props_at g.schema t)) p values (ap (λ vs. slice_get vs p) (sym (are.vertices t x at).values) ∙ there) in
    ap Cells (read ∙ ap (vertex_column g t) (from_zero p))

pub edge_prop_is : (g : GraphData) (c : GraphColumns) (x : EdgeColumns) (t p : ℕ) (values : ColumnData) → AreColumnsOf g c → slice_get c.edges t ≡ Some x → slice_get x.values p ≡ Some values → Cells values ≡ slot_value g (EdgeProp t p)
edge_prop_is g c x t p values are at there =
    let read = range_read (edge_column g t) 0 (length (edge_props_at g.schema t)) p values (ap (λ vs. slice_get vs p) (sym (are.edges t x at).values) ∙ there) in
    ap Cells (read ∙ ap (edge_column g t) (from_zero p))
