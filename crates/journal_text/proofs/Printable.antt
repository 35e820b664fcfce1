-- the values of a graph are printable
use Rattle.std.proofs.Common.{◌≡◌, ℕ, zero, suc, Bool, true, false, ◌&&◌, List, [], ◌∷◌, length, get_or, refl, arith, rules, All}
use Rattle.std.specs.Prelude.{IsTrue}
use Rattle.std.specs.List.{AllZip, list_all}
use Rattle.std.proofs.lemmas.List.Elements.{All-weaker}
use Rattle.column_types.specs.declared.kind.Kind.{Kind}
use Rattle.column_types.specs.declared.kind.Kind.TheVariants as kind
use Rattle.column_types.specs.declared.value.Value.{Value}
use Rattle.column_types.specs.declared.value.Value.TheVariants.{Null, Integer, Long, Boolean, Text, Date}
use Rattle.column_types.specs.Value.{fits_kind, is_printable}
use Rattle.graph_schema.specs.declared.schema.Prop.{Prop}
use Rattle.graph_schema.specs.declared.schema.VertexTable.{VertexTable}
use Rattle.graph_schema.specs.declared.schema.EdgeTable.{EdgeTable}
use Rattle.graph_model.specs.declared.row.VertexRow.{VertexRow}
use Rattle.graph_model.specs.declared.row.EdgeRow.{EdgeRow}
use Rattle.graph_model.specs.Graph.{kinds_fit, AreValues, AreVertices, IsEdge, AreEdges}

fits_printable : (k : Kind) (v : Value) → fits_kind k v ≡ true → is_printable v ≡ true
fits_printable k Null h = refl
fits_printable k (Integer n) h = refl
fits_printable k (Long n) h = refl
fits_printable k (Boolean b) h = refl
fits_printable k (Text t) h = refl
fits_printable kind.Integer (Date d) h = cc
fits_printable kind.Long (Date d) h = cc
fits_printable kind.Boolean (Date d) h = cc
fits_printable kind.Text (Date d) h = cc
fits_printable kind.Date (Date d) h = h

both : (a b : Bool) → (a && b) ≡ true → (a ≡ true) × (b ≡ true)
both true b h = (refl, h)
both false b h = cc

joined : (a b : Bool) → a ≡ true → b ≡ true → (a && b) ≡ true
joined true b h k = k
joined false b h k = cc

-- values that fit their properties
printable_values : (props : List Prop) (values : List Value) → length values ≡ length props → kinds_fit props values ≡ true → list_all is_printable values ≡ true
printable_values props [] n h = refl
printable_values [] (v ∷ values) n h = absurd (omega arith)
printable_values (p ∷ props) (v ∷ values) n h =
    let parts : (fits_kind p.kind v ≡ true) × (kinds_fit props values ≡ true) = both _ _ h in
    joined _ _ (fits_printable p.kind v parts.0) (printable_values props values (omega arith) parts.1)

row_values : (props : List Prop) (values : List Value) → AreValues props values → IsTrue (list_all is_printable values)
row_values props values h = printable_values props values h.count h.kinds

no_rows : {R : Type 0} (P : R → Type 0) → All P []
no_rows P = search rules

-- the vertices of a table
pub printable_vertices : (ts : List VertexTable) (tables : List (List VertexRow)) (i : ℕ) → AllZip AreVertices ts tables → All (λ r. IsTrue (list_all is_printable r.values)) (get_or tables i [])
printable_vertices [] [] i h = no_rows _
printable_vertices [] (rows ∷ more) i h = absurd h
printable_vertices (t ∷ ts) [] i h = absurd h
printable_vertices (t ∷ ts) (rows ∷ more) zero h = All-weaker _ _ (λ r. row_values t.props r.values) rows h.0
printable_vertices (t ∷ ts) (rows ∷ more) (suc i) h = printable_vertices ts more i h.1

-- the edges of a table
pub printable_edges : (vs : List (List VertexRow)) (ts : List EdgeTable) (tables : List (List EdgeRow)) (i : ℕ) → AllZip (AreEdges vs) ts tables → All (λ r. IsTrue (list_all is_printable r.values)) (get_or tables i [])
printable_edges vs [] [] i h = no_rows _
printable_edges vs [] (rows ∷ more) i h = absurd h
printable_edges vs (t ∷ ts) [] i h = absurd h
printable_edges vs (t ∷ ts) (rows ∷ more) zero h = All-weaker (IsEdge vs t) _ (λ r e. row_values t.props r.values e.values) rows h.0
printable_edges vs (t ∷ ts) (rows ∷ more) (suc i) h = printable_edges vs ts more i h.1
