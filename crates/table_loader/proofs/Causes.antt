-- A row that was read does not fit for three causes alone.
use Rattle.std.proofs.Common.{◌≡◌, ◌∙◌, refl, sym, ap, subst, ℕ, ℤ, ◌+◌, ◌-◌, ◌<◌, ◌≤◌, ◌⊎◌, inl, inr, Bool, true, false, ◌||◌, not, ◌==◌, nat_lt, List, [], length, drop, Option, Some, None, Result, Ok, Err, arith}
use Rattle.std.specs.Prelude.{if◌then◌else◌}
use Rattle.std.proofs.lemmas.Bool.Decides.{nat_tests}
use Rattle.column_types.specs.declared.value.Value.{Value}
use Rattle.graph_schema.specs.declared.schema.Prop.{Prop}
use Rattle.graph_schema.specs.Schema.{SchemaData}
use Rattle.graph_model.specs.declared.row.VertexRow.{VertexRow}
use Rattle.graph_model.specs.declared.row.EdgeRow.{EdgeRow}
use Rattle.graph_model.specs.declared.change.Change.{Change}
use Rattle.graph_model.specs.declared.change.Change.TheVariants.{InsertVertex, InsertEdge}
use Rattle.graph_model.specs.declared.change.Why.{Why}
use Rattle.graph_model.specs.declared.change.Why.TheVariants.{Table, Count, Prop as NoProp, Kind, KeyTaken, KeyMissing, EndMissing, HasEdges, Limit}
use Rattle.graph_model.specs.Keys.{rows_at, is_taken}
use Rattle.graph_model.specs.Graph.{GraphData, kinds_fit, vertex_props_at, edge_props_at, source_at, destination_at, has_vertex_in, vertex_key, edge_key, vertex_total, edge_total, cell_total, most_vertices, most_edges, most_cells}
use Rattle.graph_model.specs.Change.{misfit, changed}
use Rattle.table_loader.specs.Fault.{◌>>=◌}
use Rattle.table_loader.specs.Record.{or_fault, fields_checked, key_at, values_of, values_from, vertex_of, edge_of}
use Rattle.table_loader.specs.Put.{unless_misfit}
use Rattle.table_loader.specs.Tables.{vertex_change, edge_change, file_change}
use Rattle.table_loader.specs.Law.{IsRowCause, FirstLine, RecordsHaveRowCauses, LinesHaveRowCauses, LineFaultsAreRowFaults}
use Rattle.table_loader.proofs.First.{first_line}
use Rattle.table_loader.proofs.FieldKinds.{values_fit}

-- ---- chains of causes

skip : (b : Bool) (x : Why) (o : Option Why) (why : Why) → b ≡ false → (if b then Some x else o) ≡ Some why → o ≡ Some why
skip true x o why e so = cc
skip false x o why e so = so

two_or : (taken passed : Bool) (why : Why) → (if taken then Some KeyTaken else if passed then Some Limit else None) ≡ Some why → IsRowCause why
two_or true passed why so = inl cc
two_or false true why so = inr (inr cc)
two_or false false why so = cc

three_or : (taken missing passed : Bool) (why : Why) → (if taken then Some KeyTaken else if missing then Some EndMissing else if passed then Some Limit else None) ≡ Some why → IsRowCause why
three_or true missing passed why so = inl cc
three_or false true passed why so = inr (inl cc)
three_or false false true why so = inr (inr cc)
three_or false false false why so = cc

-- an insertion whose table and values are right
vertex_cause : (g : GraphData) (t : ℕ) (k : ℤ) (vs : List Value) (why : Why) → t < length g.schema.vertices → length vs ≡ length (vertex_props_at g.schema t) → kinds_fit (vertex_props_at g.schema t) vs ≡ true
    → misfit g (InsertVertex t k vs) ≡ Some why → IsRowCause why
vertex_cause g t k vs why table count kinds so =
    let a : not (nat_lt t (length g.schema.vertices)) ≡ false = grind (arith, nat_tests) in
    let b : not (length vs == length (vertex_props_at g.schema t)) ≡ false = grind (arith, nat_tests) in
    let c : not (kinds_fit (vertex_props_at g.schema t) vs) ≡ false = ap (λ x. not x) kinds in
    let rest = skip _ Kind _ why c (skip _ Count _ why b (skip _ Table _ why a so)) in
    two_or (is_taken g.schema.keys vertex_key k g.vertices t) (nat_lt most_vertices (vertex_total g + 1) || nat_lt most_cells (cell_total g + length vs)) why rest

edge_cause : (g : GraphData) (t : ℕ) (k s d : ℤ) (vs : List Value) (why : Why) → t < length g.schema.edges → length vs ≡ length (edge_props_at g.schema t) → kinds_fit (edge_props_at g.schema t) vs ≡ true
    → misfit g (InsertEdge t k s d vs) ≡ Some why → IsRowCause why
edge_cause g t k s d vs why table count kinds so =
    let a : not (nat_lt t (length g.schema.edges)) ≡ false = grind (arith, nat_tests) in
    let b : not (length vs == length (edge_props_at g.schema t)) ≡ false = grind (arith, nat_tests) in
    let c : not (kinds_fit (edge_props_at g.schema t) vs) ≡ false = ap (λ x. not x) kinds in
    let rest = skip _ Kind _ why c (skip _ Count _ why b (skip _ Table _ why a so)) in
    three_or (is_taken g.schema.keys edge_key k g.edges t)
    (not (has_vertex_in s (rows_at g.vertices (source_at g.schema t))) || not (has_vertex_in d (rows_at g.vertices (destination_at g.schema t))))
    (nat_lt most_edges (edge_total g + 1) || nat_lt most_cells (cell_total g + length vs)) why rest

-- ---- records

chain : {A B : Type 0} (r : Result A ℕ) (f : A → Result B ℕ) (x : B) → (r >>= f) ≡ Ok x → (a : A) × (r ≡ Ok a) × (f a ≡ Ok x)
chain (Err n) f x e = cc
chain (Ok a) f x e = (a, refl, e)

found : (o : Option (List Value)) (vs : List Value) → or_fault 10 o ≡ Ok vs → o ≡ Some vs
found None vs e = cc
found (Some ws) vs e = cc

vertex_values_fit : (props : List Prop) (fields : List (List ℕ)) (row : VertexRow) → vertex_of props fields ≡ Ok row → (length row.values ≡ length props) × (kinds_fit props row.values ≡ true)
unfolding vertex_of values_from
vertex_values_fit props fields row e =
    let a = chain (fields_checked (length props + 1) fields) _ row e in
    let b = chain (key_at fields 0) _ row a.2 in
    let c = chain (or_fault 10 (values_of props (drop 1 fields))) _ row b.2 in
    let is : row.values ≡ c.0 = cc (c.2) in
    rw is (values_fit props (drop 1 fields) c.0 (found _ c.0 c.1))

edge_values_fit : (props : List Prop) (fields : List (List ℕ)) (row : EdgeRow) → edge_of props fields ≡ Ok row → (length row.values ≡ length props) × (kinds_fit props row.values ≡ true)
unfolding edge_of values_from
edge_values_fit props fields row e =
    let a = chain (fields_checked (length props + 3) fields) _ row e in
    let b = chain (key_at fields 0) _ row a.2 in
    let s = chain (key_at fields 1) _ row b.2 in
    let d = chain (key_at fields 2) _ row s.2 in
    let c = chain (or_fault 10 (values_of props (drop 3 fields))) _ row d.2 in
    let is : row.values ≡ c.0 = cc (c.2) in
    rw is (values_fit props (drop 3 fields) c.0 (found _ c.0 c.1))

same_change : (c d : Change) → ◌≡◌ {A = Result Change ℕ} (Ok c) (Ok d) → d ≡ c
same_change c d e = cc

vertex_record_cause : (s : SchemaData) (t : ℕ) (fields : List (List ℕ)) (c : Change) (g : GraphData) (why : Why) → g.schema ≡ s → t < length s.vertices
    → vertex_change t (vertex_props_at s t) fields ≡ Ok c → misfit g c ≡ Some why → IsRowCause why
unfolding vertex_change
vertex_record_cause s t fields c g why same within e so =
    let p = chain (vertex_of (vertex_props_at s t) fields) _ c e in
    let fits = vertex_values_fit (vertex_props_at s t) fields p.0 p.1 in
    let props : vertex_props_at s t ≡ vertex_props_at g.schema t = ap (λ x. vertex_props_at x t) (sym same) in
    vertex_cause g t p.0.key p.0.values why (subst (λ x. t < length x.vertices) (sym same) within) (fits.0 ∙ ap (λ ps. length ps) props) (subst (λ ps. kinds_fit ps p.0.values ≡ true) props fits.1)
    (subst (λ x. misfit g x ≡ Some why) (same_change _ c p.2) so)

edge_record_cause : (s : SchemaData) (t : ℕ) (fields : List (List ℕ)) (c : Change) (g : GraphData) (why : Why) → g.schema ≡ s → t < length s.edges
    → edge_change t (edge_props_at s t) fields ≡ Ok c → misfit g c ≡ Some why → IsRowCause why
unfolding edge_change
edge_record_cause s t fields c g why same within e so =
    let p = chain (edge_of (edge_props_at s t) fields) _ c e in
    let fits = edge_values_fit (edge_props_at s t) fields p.0 p.1 in
    let props : edge_props_at s t ≡ edge_props_at g.schema t = ap (λ x. edge_props_at x t) (sym same) in
    edge_cause g t p.0.key p.0.source p.0.destination p.0.values why (subst (λ x. t < length x.edges) (sym same) within) (fits.0 ∙ ap (λ ps. length ps) props) (subst (λ ps. kinds_fit ps p.0.values ≡ true) props fits.1)
    (subst (λ x. misfit g x ≡ Some why) (same_change _ c p.2) so)

record_by : (s : SchemaData) (file : ℕ) (fields : List (List ℕ)) (c : Change) (g : GraphData) (why : Why) (b : Bool) → nat_lt file (length s.vertices) ≡ b → g.schema ≡ s → file < length s.vertices + length s.edges
    → (if b then vertex_change file (vertex_props_at s file) fields else edge_change (file - length s.vertices) (edge_props_at s (file - length s.vertices)) fields) ≡ Ok c → misfit g c ≡ Some why → IsRowCause why
record_by s file fields c g why true is same within e so = vertex_record_cause s file fields c g why same (grind (arith, nat_tests)) e so
record_by s file fields c g why false is same within e so =
    let past : length s.vertices ≤ file = grind (arith, nat_tests) in
    edge_record_cause s (file - length s.vertices) fields c g why same (omega (arith, past, within)) e so

pub record_causes : RecordsHaveRowCauses
unfolding file_change
record_causes = λ s file fields c g why same within e so. record_by s file fields c g why (nat_lt file (length s.vertices)) refl same within e so

-- ---- lines

pub line_causes : LinesHaveRowCauses
line_causes = λ g why same. (
  λ key so. vertex_cause g 0 key [] why (subst (λ s. 0 < length s.vertices) (sym same) (omega arith)) (subst (λ s. 0 ≡ length (vertex_props_at s 0)) (sym same) refl) (subst (λ s. kinds_fit (vertex_props_at s 0) [] ≡ true) (sym same) refl) so,
  λ key source destination so. edge_cause g 0 key source destination [] why (subst (λ s. 0 < length s.edges) (sym same) (omega arith)) (subst (λ s. 0 ≡ length (edge_props_at s 0)) (sym same) refl) (subst (λ s. kinds_fit (edge_props_at s 0) [] ≡ true) (sym same) refl) so,
)

number_by : (o : Option Why) (g : GraphData) (number : ℕ) → unless_misfit o g ≡ Err number → (number ≡ 11) ⊎ ((number ≡ 12) ⊎ (number ≡ 13))
number_by None g number e = cc
number_by (Some KeyTaken) g number e = inl cc
number_by (Some EndMissing) g number e = inr (inl cc)
number_by (Some Limit) g number e = inr (inr cc)
number_by (Some Table) g number e = inr (inr cc)
number_by (Some Count) g number e = inr (inr cc)
number_by (Some NoProp) g number e = inr (inr cc)
number_by (Some Kind) g number e = inr (inr cc)
number_by (Some KeyMissing) g number e = inr (inr cc)
number_by (Some HasEdges) g number e = inr (inr cc)

line_by : (vertices : List ℤ) (edges : List (ℤ × ℤ × ℤ)) (file row number : ℕ) → FirstLine vertices edges file row number → (number ≡ 11) ⊎ ((number ≡ 12) ⊎ (number ≡ 13))
line_by vertices edges file row number (inl p) = number_by (misfit p.1.before (InsertVertex 0 p.1.item [])) (changed p.1.before (InsertVertex 0 p.1.item [])) number p.1.fault
line_by vertices edges file row number (inr p) =
    let at = p.1.2 in
    let c = InsertEdge 0 at.item.0 at.item.1 at.item.2 [] in
    number_by (misfit at.before c) (changed at.before c) number at.fault

pub line_faults : LineFaultsAreRowFaults
line_faults = λ vertices edges file row number e. line_by vertices edges file row number (first_line vertices edges file row number e)
