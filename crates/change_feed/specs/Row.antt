-- What one row of changes stands for: a change, or the first cause for which it is none.
use Rattle.std.specs.Prelude.{ℕ, ◌+◌, ◌==◌, not, ℤ, Bool, if◌then◌else◌, List, [], ◌∷◌, length, drop, slice_get, position, codes, Option, Some, None, option_and_then, option_map, Result, Ok, Err}
use Rattle.std.specs.Str.{bytes_eq}
use Rattle.csv_records.specs.Texts.{are_texts}
use Rattle.csv.specs.Records.{field_at}
use Rattle.column_types.specs.declared.kind.Kind.{Kind}
use Rattle.column_types.specs.declared.kind.Kind.TheVariants as kind
use Rattle.column_types.specs.declared.value.Value.{Value}
use Rattle.column_types.specs.declared.value.Value.TheVariants.{Null, Integer, Long, Boolean, Text, Date}
use Rattle.column_types.specs.Reading.{read_value}
use Rattle.graph_schema.specs.declared.schema.Prop.{Prop}
use Rattle.graph_schema.specs.declared.schema.VertexTable.{VertexTable}
use Rattle.graph_schema.specs.declared.schema.EdgeTable.{EdgeTable}
use Rattle.graph_schema.specs.Schema.{SchemaData}
use Rattle.graph_model.specs.Graph.{vertex_props_at, edge_props_at}
use Rattle.graph_model.specs.declared.change.Change.{Change}
use Rattle.graph_model.specs.declared.change.Change.TheVariants.{InsertVertex, DeleteVertex, InsertEdge, DeleteEdge, SetVertex, SetEdge}
use Rattle.change_feed.specs.declared.fault.RowCause.{RowCause}
use Rattle.change_feed.specs.declared.fault.RowCause.TheVariants as cause
use Rattle.change_feed.specs.declared.verb.Verb.{Verb}
use Rattle.change_feed.specs.declared.verb.Verb.TheVariants as verb
use Rattle.change_feed.specs.declared.setting.Setting.{Setting}
use Rattle.change_feed.specs.Fault.{◌>>=◌}

-- what is there, or a cause
abbrev pub or_cause : {A : Type 0} → RowCause → Option A → Result A RowCause
or_cause why None = Err why
or_cause why (Some x) = Ok x

-- ---- texts, word, table and number of fields

unfoldable pub texts_checked : List (List ℕ) → Result (Unit {0}) RowCause
texts_checked fields = if not (are_texts fields) then Err cause.Utf8 else Ok tt

-- the six words
abbrev pub verb_of : List ℕ → Option Verb
verb_of word =
    if bytes_eq word (codes "iv") then Some verb.InsertVertex
    else if bytes_eq word (codes "dv") then Some verb.DeleteVertex
    else if bytes_eq word (codes "ie") then Some verb.InsertEdge
    else if bytes_eq word (codes "de") then Some verb.DeleteEdge
    else if bytes_eq word (codes "sv") then Some verb.SetVertex
    else if bytes_eq word (codes "se") then Some verb.SetEdge
    else None

-- the first field is one of them
unfoldable pub verb_at : List (List ℕ) → Result Verb RowCause
verb_at fields = or_cause cause.Word (option_and_then verb_of (field_at fields 0))

abbrev pub is_vertex_table : List ℕ → VertexTable → Bool
is_vertex_table name t = bytes_eq t.name name

abbrev pub is_edge_table : List ℕ → EdgeTable → Bool
is_edge_table name t = bytes_eq t.name name

-- the table of a name, of vertices or of edges as the word says
abbrev pub table_named : SchemaData → Verb → List ℕ → Option ℕ
table_named s verb.InsertVertex name = position (is_vertex_table name) s.vertices
table_named s verb.DeleteVertex name = position (is_vertex_table name) s.vertices
table_named s verb.SetVertex name = position (is_vertex_table name) s.vertices
table_named s verb.InsertEdge name = position (is_edge_table name) s.edges
table_named s verb.DeleteEdge name = position (is_edge_table name) s.edges
table_named s verb.SetEdge name = position (is_edge_table name) s.edges

-- the second field is the name of one
unfoldable pub table_at : SchemaData → Verb → List (List ℕ) → Result ℕ RowCause
table_at s v fields = or_cause cause.Table (option_and_then (table_named s v) (field_at fields 1))

-- its properties
abbrev pub props_of : SchemaData → Verb → ℕ → List Prop
props_of s verb.InsertVertex t = vertex_props_at s t
props_of s verb.DeleteVertex t = vertex_props_at s t
props_of s verb.SetVertex t = vertex_props_at s t
props_of s verb.InsertEdge t = edge_props_at s t
props_of s verb.DeleteEdge t = edge_props_at s t
props_of s verb.SetEdge t = edge_props_at s t

-- how many fields a row of a word has, where the table has so many properties
abbrev pub fields_due : Verb → ℕ → ℕ
fields_due verb.InsertVertex width = width + 3
fields_due verb.DeleteVertex width = 3
fields_due verb.InsertEdge width = width + 5
fields_due verb.DeleteEdge width = 3
fields_due verb.SetVertex width = 5
fields_due verb.SetEdge width = 5

unfoldable pub count_checked : Verb → ℕ → List (List ℕ) → Result (Unit {0}) RowCause
count_checked v width fields = if not (length fields == fields_due v width) then Err cause.Count else Ok tt

-- ---- keys and values

-- the value of a kind that the field at a place, counted from 0, writes
unfoldable pub value_at : Kind → List (List ℕ) → ℕ → Result Value RowCause
value_at k fields place = or_cause cause.Field (option_and_then (read_value k) (field_at fields place))

-- a LONG that is not NULL
abbrev pub long_in : Value → Option ℤ
long_in (Long n) = Some n
long_in Null = None
long_in (Integer n) = None
long_in (Boolean b) = None
long_in (Text bs) = None
long_in (Date d) = None

-- the key that the field at a place writes
unfoldable pub key_at : List (List ℕ) → ℕ → Result ℤ RowCause
key_at fields place = value_at kind.Long fields place >>= (λ v. or_cause cause.Field (long_in v))

-- fields as values of properties, a field for each property in order
unfoldable pub values_of : List Prop → List (List ℕ) → Option (List Value)
values_of [] [] = Some []
values_of [] (f ∷ fs) = None
values_of (p ∷ ps) [] = None
values_of (p ∷ ps) (f ∷ fs) = option_and_then (λ v. option_map (λ vs. v ∷ vs) (values_of ps fs)) (read_value p.kind f)

-- the fields from a place on as values of properties
unfoldable pub values_from : List Prop → List (List ℕ) → ℕ → Result (List Value) RowCause
values_from props fields place = or_cause cause.Field (values_of props (drop place fields))

-- ---- the change

abbrev pub is_prop : List ℕ → Prop → Bool
is_prop name p = bytes_eq p.name name

-- the fourth field is the name of a property
unfoldable pub prop_at : List Prop → List (List ℕ) → Result ℕ RowCause
prop_at props fields = or_cause cause.Prop (option_and_then (λ name. position (is_prop name) props) (field_at fields 3))

-- the fifth field is a value of its kind
abbrev pub value_of_prop : Option Prop → List (List ℕ) → Result Value RowCause
value_of_prop None fields = Err cause.Field
value_of_prop (Some p) fields = value_at p.kind fields 4

-- what a row sets: the property first, since its cause comes first, then key and value
unfoldable pub setting_of : List Prop → List (List ℕ) → Result Setting RowCause
setting_of props fields = do
  p ← prop_at props fields
  key ← key_at fields 2
  value ← value_of_prop (slice_get props p) fields
  Ok (record { key = key; prop = p; value = value })

unfoldable pub inserted_vertex : ℕ → List Prop → List (List ℕ) → Result Change RowCause
inserted_vertex t props fields = do
  key ← key_at fields 2
  values ← values_from props fields 3
  Ok (InsertVertex t key values)

unfoldable pub inserted_edge : ℕ → List Prop → List (List ℕ) → Result Change RowCause
inserted_edge t props fields = do
  key ← key_at fields 2
  source ← key_at fields 3
  destination ← key_at fields 4
  values ← values_from props fields 5
  Ok (InsertEdge t key source destination values)

-- the change of a word, a table and its properties
unfoldable pub change_in : Verb → ℕ → List Prop → List (List ℕ) → Result Change RowCause
change_in verb.InsertVertex t props fields = inserted_vertex t props fields
change_in verb.DeleteVertex t props fields = key_at fields 2 >>= (λ key. Ok (DeleteVertex t key))
change_in verb.InsertEdge t props fields = inserted_edge t props fields
change_in verb.DeleteEdge t props fields = key_at fields 2 >>= (λ key. Ok (DeleteEdge t key))
change_in verb.SetVertex t props fields = setting_of props fields >>= (λ set. Ok (SetVertex t set.key set.prop set.value))
change_in verb.SetEdge t props fields = setting_of props fields >>= (λ set. Ok (SetEdge t set.key set.prop set.value))

-- the change of a row; the first cause decides
unfoldable pub change_of : SchemaData → List (List ℕ) → Result Change RowCause
change_of s fields = do
  texts ← texts_checked fields
  v ← verb_at fields
  t ← table_at s v fields
  counted ← count_checked v (length (props_of s v t)) fields
  change_in v t (props_of s v t) fields
