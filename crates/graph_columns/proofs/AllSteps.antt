-- the steps of all slots
use Rattle.std.proofs.Common.{◌≡◌, ℕ, suc, ◌+◌, ◌*◌, List, [], ◌∷◌, length, map, sum_by, refl, ap, sym, ◌∙◌, arith, pos}
use Rattle.std.specs.List.{AllZip, range_with_len}
use Rattle.std.proofs.lemmas.List.{length-map}
use Rattle.std.proofs.lemmas.List.FromFn.{length-range_with_len}
use Rattle.std.proofs.lemmas.List.Sums.{sum_by-cons, sum_by-append}
use Rattle.graph_schema.specs.declared.schema.VertexTable.{VertexTable}
use Rattle.graph_schema.specs.declared.schema.EdgeTable.{EdgeTable}
use Rattle.graph_model.specs.declared.row.VertexRow.{VertexRow}
use Rattle.graph_model.specs.declared.row.EdgeRow.{EdgeRow}
use Rattle.graph_model.specs.Keys.{rows_at, cells_in, row_total, value_total}
use Rattle.column_types.specs.declared.value.Value.TheVariants.{Integer, Long}
use Rattle.column_types.specs.Column.{ColumnData}
use Rattle.graph_slots.specs.declared.part.Part.TheVariants.{Cells}
use Rattle.graph_slots.specs.Meaning.{slot_value, value_at, source_places, destination_places}
use Rattle.graph_model.specs.Graph.{vertex_key, edge_key, GraphData, IsGraph, AreVertices, AreEdges, vertex_values, edge_values, vertex_total, edge_total, cell_total}
use Rattle.graph_slots.specs.declared.slot.SlotName.{SlotName}
use Rattle.graph_slots.specs.declared.slot.SlotName.TheVariants.{VertexKey, VertexProp, EdgeKey, Source, Destination, Out, Into, EdgeProp}
use Rattle.graph_slots.specs.Slots.{slots, vertex_table_slots, edge_table_slots, vertex_slots, edge_slots}
use Rattle.graph_columns.specs.SlotSteps.{slot_steps}
use Rattle.graph_columns.proofs.PropParts.{cells_counted}

-- ---- the slots of one table

same_sum : (f : SlotName → ℕ) (k : ℕ → SlotName) (n : ℕ) (ps : List ℕ) → ((p : ℕ) → f (k p) ≡ n) → sum_by f (map k ps) ≡ length ps * n
same_sum f k n [] each = omega arith
same_sum f k n (p ∷ ps) each =
    let rest = same_sum f k n ps each in
    let here = each p in
    omega (arith, sum_by-cons f (k p) (map k ps))

prop_steps : (f : SlotName → ℕ) (k : ℕ → SlotName) (n w : ℕ) → ((p : ℕ) → f (k p) ≡ n) → sum_by f (map k (range_with_len 0 w)) ≡ w * n
prop_steps f k n w each = same_sum f k n (range_with_len 0 w) each ∙ ap (λ m. m * n) (length-range_with_len 0 w)

here_first : {R : Type 0} (all tables : List (List R)) (t : ℕ) (rows : List R) → ((i : ℕ) → rows_at all (t + i) ≡ rows_at (rows ∷ tables) i) → length (rows_at all t) ≡ length rows
here_first all tables t rows same =
    let at : t ≡ t + 0 = omega arith in
    ap (λ n. length (rows_at all n)) at ∙ ap length (same 0)

then_rest : {R : Type 0} (all tables : List (List R)) (t : ℕ) (rows : List R) → ((i : ℕ) → rows_at all (t + i) ≡ rows_at (rows ∷ tables) i) → (i : ℕ) → rows_at all (t + 1 + i) ≡ rows_at tables i
then_rest all tables t rows same i =
    let at : t + 1 + i ≡ t + suc i = omega arith in
    ap (rows_at all) at ∙ same (suc i)

vertex_table_steps : (g : GraphData) (t : ℕ) (x : VertexTable) (rows : List VertexRow) → length (rows_at g.vertices t) ≡ length rows → AreVertices x rows → sum_by (slot_steps g) (vertex_table_slots t x) ≡ length rows + cells_in vertex_values rows
vertex_table_steps g t x rows long are =
    let f = slot_steps g in
    let w = length x.props in
    let props = map (VertexProp t) (range_with_len 0 w) in
    let cells : sum_by f props ≡ cells_in vertex_values rows = prop_steps f (VertexProp t) (length (rows_at g.vertices t)) w (λ p. refl) ∙ ap (λ n. w * n) long ∙ sym (cells_counted vertex_values x.props rows are) in
    omega (arith, sum_by-cons f (VertexKey t) props)

edge_table_steps : (g : GraphData) (t : ℕ) (x : EdgeTable) (rows : List EdgeRow) → length (rows_at g.edges t) ≡ length rows → AreEdges g.vertices x rows → sum_by (slot_steps g) (edge_table_slots t x) ≡ cells_in edge_values rows + 5 * length rows
edge_table_steps g t x rows long are =
    let f = slot_steps g in
    let w = length x.props in
    let props = map (EdgeProp t) (range_with_len 0 w) in
    let cells : sum_by f props ≡ cells_in edge_values rows = prop_steps f (EdgeProp t) (length (rows_at g.edges t)) w (λ p. refl) ∙ ap (λ n. w * n) long ∙ sym (cells_counted edge_values x.props rows (λ i d l. (are i d l).values)) in
    let into = sum_by-cons f (Into t) props in
    let out = sum_by-cons f (Out t) (Into t ∷ props) in
    let destination = sum_by-cons f (Destination t) (Out t ∷ Into t ∷ props) in
    let source = sum_by-cons f (Source t) (Destination t ∷ Out t ∷ Into t ∷ props) in
    omega (arith, into, out, destination, source, sum_by-cons f (EdgeKey t) (Source t ∷ Destination t ∷ Out t ∷ Into t ∷ props))

-- ---- the slots of all tables

vertex_steps : (g : GraphData) (t : ℕ) (shapes : List VertexTable) (tables : List (List VertexRow)) → AllZip AreVertices shapes tables → ((i : ℕ) → rows_at g.vertices (t + i) ≡ rows_at tables i) → sum_by (slot_steps g) (vertex_slots t shapes) ≡ row_total tables + value_total vertex_values tables
vertex_steps g t [] [] are same = refl
vertex_steps g t [] (rows ∷ tables) are same = absurd are
vertex_steps g t (x ∷ shapes) [] are same = absurd are
vertex_steps g t (x ∷ shapes) (rows ∷ tables) are same =
    let f = slot_steps g in
    let here = vertex_table_steps g t x rows (here_first g.vertices tables t rows same) are.0 in
    let rest = vertex_steps g (t + 1) shapes tables are.1 (then_rest g.vertices tables t rows same) in
    let rows_more = sum_by-cons (λ (rs : List VertexRow). length rs) rows tables in
    let cells_more = sum_by-cons (λ (rs : List VertexRow). cells_in vertex_values rs) rows tables in
    omega (arith, here, rest, rows_more, cells_more, sum_by-append f (vertex_table_slots t x) (vertex_slots (t + 1) shapes))

edge_steps : (g : GraphData) (t : ℕ) (shapes : List EdgeTable) (tables : List (List EdgeRow)) → AllZip (AreEdges g.vertices) shapes tables → ((i : ℕ) → rows_at g.edges (t + i) ≡ rows_at tables i) → sum_by (slot_steps g) (edge_slots t shapes) ≡ value_total edge_values tables + 5 * row_total tables
edge_steps g t [] [] are same = refl
edge_steps g t [] (rows ∷ tables) are same = absurd are
edge_steps g t (x ∷ shapes) [] are same = absurd are
edge_steps g t (x ∷ shapes) (rows ∷ tables) are same =
    let f = slot_steps g in
    let here = edge_table_steps g t x rows (here_first g.edges tables t rows same) are.0 in
    let rest = edge_steps g (t + 1) shapes tables are.1 (then_rest g.edges tables t rows same) in
    let rows_more = sum_by-cons (λ (rs : List EdgeRow). length rs) rows tables in
    let cells_more = sum_by-cons (λ (rs : List EdgeRow). cells_in edge_values rs) rows tables in
    omega (arith, here, rest, rows_more, cells_more, sum_by-append f (edge_table_slots t x) (edge_slots (t + 1) shapes))

from_first : {R : Type 0} (tables : List (List R)) (i : ℕ) → rows_at tables (0 + i) ≡ rows_at tables i
from_first tables i =
    let at : 0 + i ≡ i = omega arith in
    ap (rows_at tables) at

pub all_steps : (g : GraphData) → IsGraph g → sum_by (slot_steps g) (slots g.schema) ≡ cell_total g + vertex_total g + 5 * edge_total g
all_steps g is =
    let f = slot_steps g in
    let vertices = vertex_steps g 0 g.schema.vertices g.vertices is.vertices (from_first g.vertices) in
    let edges = edge_steps g 0 g.schema.edges g.edges is.edges (from_first g.edges) in
    omega (arith, vertices, edges, sum_by-append f (vertex_slots 0 g.schema.vertices) (edge_slots 0 g.schema.edges))

-- ---- one slot

same_cells : (a b : ColumnData) → Cells a ≡ Cells b → a ≡ b
same_cells a b e = cc

long_by : (n : ℕ) (a c : ColumnData) → Cells a ≡ Cells c → length a.values ≡ n → length c.values ≡ n
long_by n a c e long = ap (λ (d : ColumnData). length d.values) (sym (same_cells a c e)) ∙ long

twice : {R X Y : Type 0} (f : R → X) (h : X → Y) (rows : List R) → length (map h (map f rows)) ≡ length rows
twice f h rows = length-map (map f rows) h ∙ length-map rows f

-- a slot's column has as many values as the slot takes steps
pub slot_long : (g : GraphData) (x : SlotName) (c : ColumnData) → slot_value g x ≡ Cells c → length c.values ≡ slot_steps g x
slot_long g (VertexKey t) c e = long_by (length (rows_at g.vertices t)) _ c e (twice vertex_key Long (rows_at g.vertices t))
slot_long g (VertexProp t p) c e = long_by (length (rows_at g.vertices t)) _ c e (length-map (rows_at g.vertices t) (λ (r : VertexRow). value_at p r.values))
slot_long g (EdgeKey t) c e = long_by (length (rows_at g.edges t)) _ c e (twice edge_key Long (rows_at g.edges t))
slot_long g (Source t) c e = long_by (length (rows_at g.edges t)) _ c e (length-map (source_places g t) (λ n. Integer (pos n)) ∙ length-map (rows_at g.edges t) _)
slot_long g (Destination t) c e = long_by (length (rows_at g.edges t)) _ c e (length-map (destination_places g t) (λ n. Integer (pos n)) ∙ length-map (rows_at g.edges t) _)
slot_long g (Out t) c e = cc
slot_long g (Into t) c e = cc
slot_long g (EdgeProp t p) c e = long_by (length (rows_at g.edges t)) _ c e (length-map (rows_at g.edges t) (λ (r : EdgeRow). value_at p r.values))

pub sources_long : (g : GraphData) (t : ℕ) → length (source_places g t) ≡ slot_steps g (Out t)
sources_long g t = length-map (rows_at g.edges t) _

pub destinations_long : (g : GraphData) (t : ℕ) → length (destination_places g t) ≡ slot_steps g (Into t)
destinations_long g t = length-map (rows_at g.edges t) _
