-- What reading says, in words that speak of no order of work.
use Rattle.std.specs.Prelude.{◌≡◌, ◌↔◌, ℕ, ◌+◌, ℤ, List, [], ◌∷◌, take, codes, IsTrue, Some, slice_get, Ok, Err}
use Rattle.std.specs.List.{AllZip}
use Rattle.column_types.specs.declared.kind.Kind.TheVariants as kind
use Rattle.column_types.specs.declared.value.Value.{Value}
use Rattle.column_types.specs.declared.value.Value.TheVariants.{Long}
use Rattle.column_types.specs.Reading.{read_value}
use Rattle.graph_schema.specs.declared.schema.Prop.{Prop}
use Rattle.graph_schema.specs.declared.schema.VertexTable.{VertexTable}
use Rattle.graph_schema.specs.declared.schema.EdgeTable.{EdgeTable}
use Rattle.graph_schema.specs.Schema.{SchemaData, IsSchema}
use Rattle.graph_model.specs.declared.change.Change.{Change}
use Rattle.graph_model.specs.declared.change.Change.TheVariants.{InsertVertex, DeleteVertex, InsertEdge, DeleteEdge, SetVertex, SetEdge}
use Rattle.change_feed.specs.declared.fault.RowCause.{RowCause}
use Rattle.change_feed.specs.declared.fault.FeedFault.TheVariants.{BadRow}
use Rattle.csv_records.specs.Reading.{records_of}
use Rattle.csv_records.specs.Texts.{are_texts}
use Rattle.change_feed.specs.Row.{values_of, change_of}
use Rattle.change_feed.specs.Changes.{changes_of}

-- ---- the fields that write a change

-- a field writes a key
abbrev pub WritesKey : List ℕ → ℤ → Type 0
WritesKey field k = read_value kind.Long field ≡ Some (Long k)

-- `iv`, the name of the table, the key, and a value for each of its properties
pub record InsertsVertex (s : SchemaData) (fields : List (List ℕ)) (t : ℕ) (k : ℤ) (vs : List Value) : Type 0 where
  pub table : VertexTable
  pub there : slice_get s.vertices t ≡ Some table
  pub key : List ℕ
  pub values : List (List ℕ)
  pub spelled : fields ≡ codes "iv" ∷ table.name ∷ key ∷ values
  pub writes_key : WritesKey key k
  pub write_values : values_of table.props values ≡ Some vs

-- `dv`, the name of the table, the key
pub record DeletesVertex (s : SchemaData) (fields : List (List ℕ)) (t : ℕ) (k : ℤ) : Type 0 where
  pub table : VertexTable
  pub there : slice_get s.vertices t ≡ Some table
  pub key : List ℕ
  pub spelled : fields ≡ codes "dv" ∷ table.name ∷ key ∷ []
  pub writes_key : WritesKey key k

-- `ie`, the name of the table, the keys of the edge, of its source and of its destination, and a value for each property
pub record InsertsEdge (s : SchemaData) (fields : List (List ℕ)) (t : ℕ) (k from to : ℤ) (vs : List Value) : Type 0 where
  pub table : EdgeTable
  pub there : slice_get s.edges t ≡ Some table
  pub key : List ℕ
  pub source : List ℕ
  pub destination : List ℕ
  pub values : List (List ℕ)
  pub spelled : fields ≡ codes "ie" ∷ table.name ∷ key ∷ source ∷ destination ∷ values
  pub writes_key : WritesKey key k
  pub writes_source : WritesKey source from
  pub writes_destination : WritesKey destination to
  pub write_values : values_of table.props values ≡ Some vs

-- `de`, the name of the table, the key
pub record DeletesEdge (s : SchemaData) (fields : List (List ℕ)) (t : ℕ) (k : ℤ) : Type 0 where
  pub table : EdgeTable
  pub there : slice_get s.edges t ≡ Some table
  pub key : List ℕ
  pub spelled : fields ≡ codes "de" ∷ table.name ∷ key ∷ []
  pub writes_key : WritesKey key k

-- `sv`, the name of the table, the key, the name of a property and a value of its kind
pub record SetsVertex (s : SchemaData) (fields : List (List ℕ)) (t : ℕ) (k : ℤ) (p : ℕ) (v : Value) : Type 0 where
  pub table : VertexTable
  pub there : slice_get s.vertices t ≡ Some table
  pub prop : Prop
  pub has_prop : slice_get table.props p ≡ Some prop
  pub key : List ℕ
  pub value : List ℕ
  pub spelled : fields ≡ codes "sv" ∷ table.name ∷ key ∷ prop.name ∷ value ∷ []
  pub writes_key : WritesKey key k
  pub writes_value : read_value prop.kind value ≡ Some v

-- `se`, the same of an edge
pub record SetsEdge (s : SchemaData) (fields : List (List ℕ)) (t : ℕ) (k : ℤ) (p : ℕ) (v : Value) : Type 0 where
  pub table : EdgeTable
  pub there : slice_get s.edges t ≡ Some table
  pub prop : Prop
  pub has_prop : slice_get table.props p ≡ Some prop
  pub key : List ℕ
  pub value : List ℕ
  pub spelled : fields ≡ codes "se" ∷ table.name ∷ key ∷ prop.name ∷ value ∷ []
  pub writes_key : WritesKey key k
  pub writes_value : read_value prop.kind value ≡ Some v

-- the fields of a row write a change
abbrev pub Writes : SchemaData → List (List ℕ) → Change → Type 0
Writes s fields (InsertVertex t k vs) = InsertsVertex s fields t k vs
Writes s fields (DeleteVertex t k) = DeletesVertex s fields t k
Writes s fields (InsertEdge t k from to vs) = InsertsEdge s fields t k from to vs
Writes s fields (DeleteEdge t k) = DeletesEdge s fields t k
Writes s fields (SetVertex t k p v) = SetsVertex s fields t k p v
Writes s fields (SetEdge t k p v) = SetsEdge s fields t k p v

-- a row of texts that write a change
abbrev pub IsRow : SchemaData → List (List ℕ) → Change → Type 0
IsRow s fields c = IsTrue (are_texts fields) × Writes s fields c

-- ---- what is accepted

-- the row of a schema is read as a change exactly where its fields write it
abbrev pub RowsWriteChanges : Type 0
RowsWriteChanges = (s : SchemaData) (fields : List (List ℕ)) (c : Change) → IsSchema s → ((change_of s fields ≡ Ok c) ↔ IsRow s fields c)

-- a file is read as a list of changes exactly where its rows, one by one in order, write them
abbrev pub FilesWriteLists : Type 0
FilesWriteLists = (s : SchemaData) (bytes : List ℕ) (changes : List Change) → IsSchema s → ((changes_of s bytes ≡ Ok changes) ↔ AllZip (IsRow s) (records_of bytes) changes)

-- ---- the first fault

-- the row of this number is the first with a fault: the rows before it are changes, and this one has the cause
pub record FirstRow (s : SchemaData) (bytes : List ℕ) (row : ℕ) (cause : RowCause) : Type 0 where
  pub place : ℕ
  pub counted : row ≡ place + 1
  pub before : List Change
  pub taken : AllZip (λ fields c. change_of s fields ≡ Ok c) (take place (records_of bytes)) before
  pub fields : List (List ℕ)
  pub there : slice_get (records_of bytes) place ≡ Some fields
  pub fault : change_of s fields ≡ Err cause

abbrev pub FaultsAreFirst : Type 0
FaultsAreFirst = (s : SchemaData) (bytes : List ℕ) (row : ℕ) (cause : RowCause) → changes_of s bytes ≡ Err (BadRow row cause) → FirstRow s bytes row cause
