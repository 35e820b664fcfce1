-- Which configuration a JSON document states, field by field.
use Rattle.std.specs.Prelude.{◌≡◌, ◌↔◌, ◌⊎◌, ℕ, IsTrue, List, [], ◌++◌, codes, slice_get, Some, None, Ok}
use Rattle.std.specs.List.{AllZip}
use Rattle.serde_json.specs.Data.{Data, number, unsigned, string, array}
use Rattle.serde_json.specs.Find.{get}
use Rattle.serde_json.specs.View.{items_of}
use Rattle.column_types.specs.declared.kind.Kind.{Kind}
use Rattle.column_types.specs.declared.kind.Kind.TheVariants as kind
use Rattle.graph_schema.specs.declared.schema.Keys.{Keys}
use Rattle.graph_schema.specs.declared.schema.Keys.TheVariants.{Whole, PerTable}
use Rattle.graph_schema.specs.declared.schema.Prop.{Prop}
use Rattle.graph_schema.specs.declared.schema.VertexTable.{VertexTable}
use Rattle.graph_schema.specs.declared.schema.EdgeTable.{EdgeTable}
use Rattle.graph_schema.specs.Name.{is_name}
use Rattle.graph_schema.specs.Law.{MakeSchema}
use Rattle.graph_config.specs.Field.{is_file_name}
use Rattle.graph_config.specs.Config.{ConfigData, config_at}

-- ---- fields. Of fields with equal names a JSON object keeps the last, and a value that is no object has no field.

-- the field is a text
abbrev pub HasText : List ℕ → Data → List ℕ → Type 0
HasText field entry text = get field entry ≡ Some (string text)

-- the field is a list of these items, in order
abbrev pub HasList : List ℕ → Data → List Data → Type 0
HasList field entry items = get field entry ≡ Some (array (items_of items))

-- the field `name` is this, and it is a name
pub record HasName (entry : Data) (name : List ℕ) : Type 0 where
  pub text : HasText (codes "name") entry name
  pub valid : IsTrue (is_name name)

-- the field `file` is this, and it is a file name
pub record HasFile (entry : Data) (file : List ℕ) : Type 0 where
  pub text : HasText (codes "file") entry file
  pub valid : IsTrue (is_file_name file)

-- ---- properties

-- how a configuration writes a kind
abbrev pub kind_word : Kind → List ℕ
kind_word kind.Integer = codes "integer"
kind_word kind.Long = codes "long"
kind_word kind.Boolean = codes "boolean"
kind_word kind.Text = codes "string"
kind_word kind.Date = codes "local_date"

pub record StatesProp (entry : Data) (prop : Prop) : Type 0 where
  pub name : HasName entry prop.name
  pub kind : HasText (codes "type") entry (kind_word prop.kind)

-- the field `props` lists these properties; where it is missing there are none
abbrev pub StatesProps : Data → List Prop → Type 0
StatesProps entry props =
    ((get (codes "props") entry ≡ None) × (props ≡ []))
    ⊎ ((items : List Data) × HasList (codes "props") entry items × AllZip StatesProp items props)

-- ---- tables

pub record StatesVertexTable (entry : Data) (table : VertexTable) : Type 0 where
  pub name : HasName entry table.name
  pub props : StatesProps entry table.props

-- the field is the name of the vertex table at this place
pub record NamesTable (vertices : List VertexTable) (field : List ℕ) (entry : Data) (place : ℕ) : Type 0 where
  pub table : VertexTable
  pub there : slice_get vertices place ≡ Some table
  pub text : HasText field entry table.name

pub record StatesEdgeTable (vertices : List VertexTable) (entry : Data) (table : EdgeTable) : Type 0 where
  pub name : HasName entry table.name
  pub source : NamesTable vertices (codes "source_vertex_provider") entry table.source
  pub destination : NamesTable vertices (codes "destination_vertex_provider") entry table.destination
  pub props : StatesProps entry table.props

-- ---- the whole

-- keys differ over all tables where there is no version or it is 1, and within each table where it is 2
pub data StatesKeys (d : Data) (keys : Keys) : Type 0 where
  no_version : get (codes "version") d ≡ None → keys ≡ Whole → StatesKeys d keys
  version_one : get (codes "version") d ≡ Some (number (unsigned 1)) → keys ≡ Whole → StatesKeys d keys
  version_two : get (codes "version") d ≡ Some (number (unsigned 2)) → keys ≡ PerTable → StatesKeys d keys

-- the two lists state the tables in order, and the files of the vertex tables and then those of the edge tables
pub record IsConfigOf (d : Data) (c : ConfigData) : Type 0 where
  pub keys : StatesKeys d c.schema.keys
  pub vertex_entries : List Data
  pub edge_entries : List Data
  pub vertex_list : HasList (codes "vertex_providers") d vertex_entries
  pub edge_list : HasList (codes "edge_providers") d edge_entries
  pub vertices : AllZip StatesVertexTable vertex_entries c.schema.vertices
  pub edges : AllZip (StatesEdgeTable c.schema.vertices) edge_entries c.schema.edges
  pub files : AllZip HasFile (vertex_entries ++ edge_entries) c.files

-- a configuration is accepted exactly where the document states it, field by field, and its tables make a schema: at most 32
-- tables with at most 64 properties each, no name twice, and one kind for all properties of one name
abbrev pub AcceptedConfigurations : Type 0
AcceptedConfigurations = (d : Data) (c : ConfigData) → (config_at d ≡ Ok c) ↔ (IsConfigOf d c × MakeSchema c.schema.vertices c.schema.edges)
