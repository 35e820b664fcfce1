-- a graph with its edges turned round
use Rattle.std.proofs.Common.{◌≡◌, ℕ, ◌+◌, Bool, true, false, ◌&&◌, ◌||◌, List, [], ◌∷◌, ◌++◌, Option, Some, None, option_map, length, get_or, slice_get, map, refl, ap, sym, ◌∙◌, subst, arith}
use Rattle.std.specs.Prelude.{nat_lt, IsTrue}
use Rattle.std.specs.List.{list_any, list_all}
use Rattle.std.specs.Ordering.{int_eq}
use Rattle.std.proofs.lemmas.List.{length-map, map-append}
use Rattle.std.proofs.lemmas.List.Elements.{All-map}
use Rattle.std.proofs.lemmas.Option.{slice_get-map}
use Rattle.graph_schema.specs.declared.schema.Prop.{Prop}
use Rattle.graph_schema.specs.declared.schema.VertexTable.{VertexTable}
use Rattle.graph_schema.specs.declared.schema.EdgeTable.{EdgeTable}
use Rattle.graph_schema.specs.declared.location.Side.TheVariants.{Vertices, Edges}
use Rattle.graph_schema.specs.declared.location.Location.{Location}
use Rattle.graph_schema.specs.declared.location.Location.TheVariants.{Tables, TableName, PropType}
use Rattle.graph_schema.specs.Name.{is_name}
use Rattle.graph_schema.specs.Fault.{fault_if, each_from, wide_table, wide_tables, same_name, is_named, repeated_table, repeated_tables, repeated_props, repeated_in_tables, clash, clashing_prop, clashing_props, clashing_tables, long_lists, repeated_names, differing_kinds, schema_faults}
use Rattle.graph_schema.specs.Answer.{schema_fault}
use Rattle.graph_schema.specs.Location.{number_of, path_of}
use Rattle.graph_schema.specs.Fault.{first}
use Rattle.graph_schema.specs.Schema.{SchemaData, IsSchema, all_named, ends_exist, props_named}
use Rattle.graph_model.specs.declared.row.VertexRow.{VertexRow}
use Rattle.graph_model.specs.declared.row.EdgeRow.{EdgeRow}
use Rattle.graph_model.specs.Keys.{rows_at, cells_in}
use Rattle.graph_model.specs.Graph.{GraphData, IsGraph, IsEdge, AreEdges, edge_values, edge_key, edge_table_props, source_table, destination_table, edge_props_at, source_at, destination_at}
use Rattle.graph_slots.specs.declared.slot.SlotName.{SlotName}
use Rattle.graph_slots.specs.declared.slot.SlotName.TheVariants.{VertexKey, VertexProp, EdgeKey, Source, Destination, Out, Into, EdgeProp}
use Rattle.graph_slots.specs.Slots.{slots, edge_slots, edge_table_slots, vertex_slots}
use Rattle.graph_slots.specs.Meaning.{slot_value, edge_rows, cells, longs, places, place_in, value_at, prop_kind, source_places, destination_places, edge_prop_kind, edge_prop_values}
use Rattle.graph_slots.specs.Numbers.{HasSlot}
use Rattle.graph_slots.proofs.Kept.{map_map}
use Rattle.graph_mutate.specs.Transposed.{turned_edge, turned_table, turned_schema, turned_rows, transposed, turned_slot}
use Rattle.graph_mutate.proofs.Sums.{sum_same, count_same, all_same, any_same, rows_of_map, AllZip-maps, distinct_in_tables}

-- ---- the schema

-- faults that do not see the change of the tables
each_map : {A : Type 0} (f : A → A) (faults : List A → ℕ → A → List Location) → ((before : List A) (p : ℕ) (x : A) → faults (map f before) p (f x) ≡ faults before p x) → (before xs : List A) (p : ℕ) → each_from faults (map f before) p (map f xs) ≡ each_from faults before p xs
each_map f faults same before [] p = refl
each_map f faults same before (x ∷ xs) p =
    ap (λ l. l ++ each_from faults (map f before ++ f x ∷ []) (p + 1) (map f xs)) (same before p x)
    ∙ ap (λ b. faults before p x ++ each_from faults b (p + 1) (map f xs)) (sym (map-append f before (x ∷ [])))
    ∙ ap (λ l. faults before p x ++ l) (each_map f faults same (before ++ x ∷ []) xs (p + 1))

each_same : {A : Type 0} (f h : List A → ℕ → A → List Location) → ((before : List A) (p : ℕ) (x : A) → f before p x ≡ h before p x) → (before xs : List A) (p : ℕ) → each_from f before p xs ≡ each_from h before p xs
each_same f h same before [] p = refl
each_same f h same before (x ∷ xs) p =
    ap (λ l. l ++ each_from f (before ++ x ∷ []) (p + 1) xs) (same before p x) ∙ ap (λ l. h before p x ++ l) (each_same f h same (before ++ x ∷ []) xs (p + 1))

abbrev name_of : EdgeTable → List ℕ
name_of x = x.name

abbrev props_of : EdgeTable → List Prop
props_of x = x.props

names_same : (others : List VertexTable) (before : List EdgeTable) (t : ℕ) (x : EdgeTable) → repeated_table Edges name_of others (map turned_table before) t (turned_table x) ≡ repeated_table Edges name_of others before t x
names_same others before t x =
    ap (λ b. fault_if (is_named (λ (o : VertexTable). o.name) others x.name || b) (TableName Edges t)) (any_same (λ (e : EdgeTable). same_name e.name x.name) turned_table (λ (e : EdgeTable). same_name e.name x.name) before (λ e. refl))

kinds_same : (before : List EdgeTable) (t : ℕ) (x : EdgeTable) → clashing_props Edges props_of (map turned_table before) t (turned_table x) ≡ clashing_props Edges props_of before t x
kinds_same before t x =
    each_same (clashing_prop Edges props_of (map turned_table before) t) (clashing_prop Edges props_of before t)
    (λ b p q. ap (λ c. fault_if c (PropType Edges t p)) (any_same (λ (e : EdgeTable). list_any (λ r. clash r q) e.props) turned_table (λ (e : EdgeTable). list_any (λ r. clash r q) e.props) before (λ e. refl))) [] x.props 0

faults_turned : (vs : List VertexTable) (es : List EdgeTable) → schema_faults vs (map turned_table es) ≡ schema_faults vs es
faults_turned vs es =
    let wide = each_map turned_table (wide_table Edges props_of) (λ b p x. refl) [] es 0 in
    let names = each_map turned_table (repeated_table Edges name_of vs) (names_same vs) [] es 0 in
    let repeats = each_map turned_table (repeated_props Edges props_of) (λ b p x. refl) [] es 0 in
    let kinds = each_map turned_table (clashing_props Edges props_of) kinds_same [] es 0 in
    let long : long_lists vs (map turned_table es) ≡ long_lists vs es =
    ap (λ n. fault_if (nat_lt 32 (length vs)) (Tables Vertices) ++ wide_tables Vertices (λ v. v.props) vs ++ fault_if (nat_lt 32 (length vs + n)) (Tables Edges) ++ wide_tables Edges props_of (map turned_table es)) (length-map es turned_table)
    ∙ ap (λ l. fault_if (nat_lt 32 (length vs)) (Tables Vertices) ++ wide_tables Vertices (λ v. v.props) vs ++ fault_if (nat_lt 32 (length vs + length es)) (Tables Edges) ++ l) wide in
    let repeated : repeated_names vs (map turned_table es) ≡ repeated_names vs es =
    ap (λ l. repeated_tables Vertices (λ v. v.name) [] vs ++ l ++ repeated_in_tables Vertices (λ v. v.props) vs ++ repeated_in_tables Edges props_of (map turned_table es)) names
    ∙ ap (λ l. repeated_tables Vertices (λ v. v.name) [] vs ++ repeated_tables Edges name_of vs es ++ repeated_in_tables Vertices (λ v. v.props) vs ++ l) repeats in
    let differ : differing_kinds vs (map turned_table es) ≡ differing_kinds vs es = ap (λ l. clashing_tables Vertices (λ v. v.props) vs ++ l) kinds in
    ap (λ l. l ++ repeated_names vs (map turned_table es) ++ differing_kinds vs (map turned_table es)) long
    ∙ ap (λ l. long_lists vs es ++ l ++ differing_kinds vs (map turned_table es)) repeated
    ∙ ap (λ l. long_lists vs es ++ repeated_names vs es ++ l) differ

and_swapped : (a b : Bool) → (a && b) ≡ (b && a)
and_swapped true true = refl
and_swapped true false = refl
and_swapped false true = refl
and_swapped false false = refl

pub named_turned : (vs : List VertexTable) (es : List EdgeTable) → all_named vs (map turned_table es) ≡ all_named vs es
named_turned vs es = ap (λ b. list_all (λ (v : VertexTable). is_name v.name && props_named v.props) vs && b) (all_same (λ (e : EdgeTable). is_name e.name && props_named e.props) turned_table (λ (e : EdgeTable). is_name e.name && props_named e.props) es (λ e. refl))

pub ends_turned : (vs : List VertexTable) (es : List EdgeTable) → ends_exist vs (map turned_table es) ≡ ends_exist vs es
ends_turned vs es = all_same (λ (e : EdgeTable). nat_lt e.source (length vs) && nat_lt e.destination (length vs)) turned_table (λ (e : EdgeTable). nat_lt e.source (length vs) && nat_lt e.destination (length vs)) es (λ e. and_swapped (nat_lt e.destination (length vs)) (nat_lt e.source (length vs)))

pub schema_turned : (s : SchemaData) → IsSchema s → IsSchema (turned_schema s)
schema_turned s is = record {
  named = subst IsTrue (sym (named_turned s.vertices s.edges)) is.named;
  ends = subst IsTrue (sym (ends_turned s.vertices s.edges)) is.ends;
  faultless = faults_turned s.vertices s.edges ∙ is.faultless;
}

-- ---- the graph

edge_turned : (vertices : List (List VertexRow)) (x : EdgeTable) (r : EdgeRow) → IsEdge vertices x r → IsEdge vertices (turned_table x) (turned_edge r)
edge_turned vertices x r e = record { values = e.values; source = e.destination; destination = e.source }

pub transposed_is : (g : GraphData) → IsGraph g → IsGraph (transposed g)
transposed_is g is = record {
  schema = schema_turned g.schema is.schema;
  vertices = is.vertices;
  edges = AllZip-maps (AreEdges g.vertices) (AreEdges g.vertices) turned_table turned_rows g.schema.edges g.edges
      (λ x rows old. All-map (IsEdge g.vertices (turned_table x)) turned_edge rows (λ i d h. edge_turned g.vertices x (get_or rows i d) (old i d h))) is.edges;
  vertex_keys = is.vertex_keys;
  edge_keys = distinct_in_tables g.schema.keys edge_key turned_rows g.edges refl
      (λ k rows. let same = count_same (λ (r : EdgeRow). int_eq r.key k) turned_edge (λ r. int_eq r.key k) rows (λ r. refl) in omega (arith, same)) is.edge_keys;
  few_vertices = is.few_vertices;
  few_edges = omega (arith, is.few_edges, sum_same (λ (rows : List EdgeRow). length rows) turned_rows (λ (rows : List EdgeRow). length rows) g.edges (λ rows. length-map rows turned_edge));
  few_cells = omega (
    arith,
    is.few_cells,
    sum_same (λ (rows : List EdgeRow). cells_in edge_values rows) turned_rows (λ (rows : List EdgeRow). cells_in edge_values rows) g.edges
        (λ rows. sum_same (λ (r : EdgeRow). length (edge_values r)) turned_edge (λ (r : EdgeRow). length (edge_values r)) rows (λ r. refl)),
  );
}

-- ---- its slots

source_turned : (o : Option EdgeTable) → source_table (option_map turned_table o) ≡ destination_table o
source_turned None = refl
source_turned (Some x) = refl

destination_turned : (o : Option EdgeTable) → destination_table (option_map turned_table o) ≡ source_table o
destination_turned None = refl
destination_turned (Some x) = refl

props_turned : (o : Option EdgeTable) → edge_table_props (option_map turned_table o) ≡ edge_table_props o
props_turned None = refl
props_turned (Some x) = refl

pub source_of : (s : SchemaData) (t : ℕ) → source_at (turned_schema s) t ≡ destination_at s t
source_of s t = ap source_table (slice_get-map turned_table s.edges t) ∙ source_turned (slice_get s.edges t)

pub destination_of : (s : SchemaData) (t : ℕ) → destination_at (turned_schema s) t ≡ source_at s t
destination_of s t = ap destination_table (slice_get-map turned_table s.edges t) ∙ destination_turned (slice_get s.edges t)

pub props_at : (s : SchemaData) (t : ℕ) → edge_props_at (turned_schema s) t ≡ edge_props_at s t
props_at s t = ap edge_table_props (slice_get-map turned_table s.edges t) ∙ props_turned (slice_get s.edges t)

turned_part : {S : Type 0} (f h : EdgeRow → S) (g : GraphData) (t : ℕ) → ((r : EdgeRow) → f (turned_edge r) ≡ h r) → map f (rows_at (map turned_rows g.edges) t) ≡ map h (rows_at g.edges t)
turned_part f h g t e = ap (map f) (rows_of_map turned_rows g.edges t refl) ∙ map_map turned_edge f h (rows_at g.edges t) e

sources_turned : (g : GraphData) (t : ℕ) → source_places (transposed g) t ≡ destination_places g t
sources_turned g t =
    ap (λ u. map (λ (r : EdgeRow). place_in (rows_at g.vertices u) r.source) (rows_at (map turned_rows g.edges) t)) (source_of g.schema t)
    ∙ turned_part (λ r. place_in (rows_at g.vertices (destination_at g.schema t)) r.source) (λ r. place_in (rows_at g.vertices (destination_at g.schema t)) r.destination) g t (λ r. refl)

destinations_turned : (g : GraphData) (t : ℕ) → destination_places (transposed g) t ≡ source_places g t
destinations_turned g t =
    ap (λ u. map (λ (r : EdgeRow). place_in (rows_at g.vertices u) r.destination) (rows_at (map turned_rows g.edges) t)) (destination_of g.schema t)
    ∙ turned_part (λ r. place_in (rows_at g.vertices (source_at g.schema t)) r.destination) (λ r. place_in (rows_at g.vertices (source_at g.schema t)) r.source) g t (λ r. refl)

pub transposed_slot : (g : GraphData) (x : SlotName) → slot_value (transposed g) x ≡ slot_value g (turned_slot x)
transposed_slot g (VertexKey t) = refl
transposed_slot g (VertexProp t p) = refl
transposed_slot g (EdgeKey t) = ap longs (turned_part edge_key edge_key g t (λ r. refl))
transposed_slot g (Source t) = ap places (sources_turned g t)
transposed_slot g (Destination t) = ap places (destinations_turned g t)
transposed_slot g (Out t) = ap edge_rows (sources_turned g t)
transposed_slot g (Into t) = ap edge_rows (destinations_turned g t)
transposed_slot g (EdgeProp t p) =
    ap (λ ps. cells (prop_kind (slice_get ps p)) (edge_prop_values (transposed g) t p)) (props_at g.schema t)
    ∙ ap (cells (edge_prop_kind g.schema t p)) (turned_part (λ r. value_at p r.values) (λ r. value_at p r.values) g t (λ r. refl))

edge_slots_turned : (t : ℕ) (es : List EdgeTable) → edge_slots t (map turned_table es) ≡ edge_slots t es
edge_slots_turned t [] = refl
edge_slots_turned t (x ∷ es) = ap (λ more. edge_table_slots t x ++ more) (edge_slots_turned (t + 1) es)

-- the slots of the turned schema are those of the schema
pub slots_turned : (s : SchemaData) → slots (turned_schema s) ≡ slots s
slots_turned s = ap (λ more. vertex_slots 0 s.vertices ++ more) (edge_slots_turned 0 s.edges)

-- and it has them
pub turned_known : (s : SchemaData) (x : SlotName) → HasSlot s x → HasSlot s (turned_slot x)
turned_known s (VertexKey t) has = has
turned_known s (VertexProp t p) has = has
turned_known s (EdgeKey t) has = has
turned_known s (Source t) has = has
turned_known s (Destination t) has = has
turned_known s (Out t) has = has
turned_known s (Into t) has = has
turned_known s (EdgeProp t p) has = has

-- ---- turned twice

back : {X : Type 0} (f : X → X) (xs : List X) → ((x : X) → f (f x) ≡ x) → map f (map f xs) ≡ xs
back f [] e = refl
back f (x ∷ xs) e = ap (λ y. y ∷ map f (map f xs)) (e x) ∙ ap (λ ys. x ∷ ys) (back f xs e)

pub transposed_twice : (g : GraphData) → transposed (transposed g) ≡ g
transposed_twice g =
    let schema : turned_schema (turned_schema g.schema) ≡ g.schema =
    ap (λ es. let s : SchemaData = record { keys = g.schema.keys; vertices = g.schema.vertices; edges = es } in s) (back turned_table g.schema.edges (λ x. refl)) in
    let edges = back turned_rows g.edges (λ rows. back turned_edge rows (λ r. refl)) in
    ap (λ s. let h : GraphData = record { schema = s; vertices = g.vertices; edges = map turned_rows (map turned_rows g.edges) } in h) schema
    ∙ ap (λ es. let h : GraphData = record { schema = g.schema; vertices = g.vertices; edges = es } in h) edges

-- the turned tables have no fault
pub never_refused : (s : SchemaData) (es : List EdgeTable) (number : ℕ) (path : List ℕ) → IsSchema s → es ≡ map turned_table s.edges → schema_fault s.vertices es ≡ Some (number, path) → ⊥
never_refused s es number path is same told =
    let none : schema_faults s.vertices es ≡ [] = ap (schema_faults s.vertices) same ∙ (schema_turned s is).faultless in
    let never = sym (ap (λ l. option_map (λ x. (number_of x, path_of x)) (first l)) none) ∙ told in
    cc
