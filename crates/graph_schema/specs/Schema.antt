-- What a schema is.
use Rattle.std.specs.Prelude.{◌≡◌, Bool, ◌&&◌, nat_lt, List, [], length, IsTrue}
use Rattle.std.specs.List.{list_all}
use Rattle.graph_schema.specs.declared.schema.Keys.{Keys}
use Rattle.graph_schema.specs.declared.schema.Prop.{Prop}
use Rattle.graph_schema.specs.declared.schema.VertexTable.{VertexTable}
use Rattle.graph_schema.specs.declared.schema.EdgeTable.{EdgeTable}
use Rattle.graph_schema.specs.Name.{is_name}
use Rattle.graph_schema.specs.Fault.{schema_faults}

-- where keys differ, vertex tables in order and edge tables in order
pub record SchemaData : Type 0 where
  pub keys : Keys
  pub vertices : List VertexTable
  pub edges : List EdgeTable

-- the schema of keys and tables
abbrev pub schema_with : Keys → List VertexTable → List EdgeTable → SchemaData
schema_with keys vs es = record { keys = keys; vertices = vs; edges = es }

-- the properties of a table have names
abbrev pub props_named : List Prop → Bool
props_named = list_all (λ p. is_name p.name)

-- each table and each property has a name
abbrev pub all_named : List VertexTable → List EdgeTable → Bool
all_named vs es =
    list_all (λ v. is_name v.name && props_named v.props) vs && list_all (λ e. is_name e.name && props_named e.props) es

-- each edge table starts and ends at a table of the list
abbrev pub ends_exist : List VertexTable → List EdgeTable → Bool
ends_exist vs es = list_all (λ e. nat_lt e.source (length vs) && nat_lt e.destination (length vs)) es

-- what every schema keeps: names are names, edges have end tables, and nothing is at fault
pub record IsSchema (s : SchemaData) : Type 0 where
  pub named : IsTrue (all_named s.vertices s.edges)
  pub ends : IsTrue (ends_exist s.vertices s.edges)
  pub faultless : schema_faults s.vertices s.edges ≡ []
