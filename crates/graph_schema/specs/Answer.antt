-- What is answered to two lists of tables.
use Rattle.std.specs.Prelude.{◌≡◌, ℕ, List, Option, Some, None, Result, Ok, Err, option_map, ⊤}
use Rattle.graph_schema.specs.declared.schema.Keys.{Keys}
use Rattle.graph_schema.specs.declared.schema.VertexTable.{VertexTable}
use Rattle.graph_schema.specs.declared.schema.EdgeTable.{EdgeTable}
use Rattle.graph_schema.specs.declared.fault.SchemaFault.{SchemaFault}
use Rattle.graph_schema.specs.declared.fault.SchemaFault.TheVariants.{At, NoMemory}
use Rattle.graph_schema.specs.Location.{number_of, path_of}
use Rattle.graph_schema.specs.Fault.{first, schema_faults}
use Rattle.graph_schema.specs.Schema.{SchemaData, schema_with}

-- the number and path of the first fault
abbrev pub schema_fault : List VertexTable → List EdgeTable → Option (ℕ × List ℕ)
schema_fault vs es = option_map (λ l. (number_of l, path_of l)) (first (schema_faults vs es))

-- a schema of these very tables, and these keys, where they have no fault, else the first fault; memory may run out
abbrev pub GivesSchema : Keys → List VertexTable → List EdgeTable → Result SchemaData SchemaFault → Type 0
GivesSchema keys vs es (Ok s) = (schema_fault vs es ≡ None) × (s ≡ schema_with keys vs es)
GivesSchema keys vs es (Err (At number path)) = schema_fault vs es ≡ Some (number, path)
GivesSchema keys vs es (Err NoMemory) = ⊤
