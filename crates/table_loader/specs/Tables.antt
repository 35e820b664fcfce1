-- The graph that table files stand for.
use Rattle.std.specs.Prelude.{ℕ, ◌+◌, ◌-◌, nat_lt, if◌then◌else◌, List, [], ◌∷◌, length, map, Result, Ok}
use Rattle.graph_schema.specs.declared.schema.Prop.{Prop}
use Rattle.graph_schema.specs.Schema.{SchemaData}
use Rattle.graph_model.specs.declared.change.Change.{Change}
use Rattle.graph_model.specs.declared.change.Change.TheVariants.{InsertVertex, InsertEdge}
use Rattle.graph_model.specs.Graph.{GraphData, empty_graph, vertex_props_at, edge_props_at}
use Rattle.csv_records.specs.Reading.{records_of}
use Rattle.table_loader.specs.declared.fault.LoadFault.{LoadFault}
use Rattle.table_loader.specs.Fault.{◌>>=◌}
use Rattle.table_loader.specs.Record.{vertex_of, edge_of}
use Rattle.table_loader.specs.Put.{put_all}

-- the record of a vertex, or of an edge, puts it at the end of a table with these properties
unfoldable pub vertex_change : ℕ → List Prop → List (List ℕ) → Result Change ℕ
vertex_change t props fields = vertex_of props fields >>= (λ row. Ok (InsertVertex t row.key row.values))

unfoldable pub edge_change : ℕ → List Prop → List (List ℕ) → Result Change ℕ
edge_change t props fields = edge_of props fields >>= (λ row. Ok (InsertEdge t row.key row.source row.destination row.values))

-- a record of the file at a place: the files of the vertex tables come first, and behind them those of the edge tables
unfoldable pub file_change : SchemaData → ℕ → List (List ℕ) → Result Change ℕ
file_change s file fields =
    if nat_lt file (length s.vertices) then vertex_change file (vertex_props_at s file) fields
    else edge_change (file - length s.vertices) (edge_props_at s (file - length s.vertices)) fields

-- the graph after a file
abbrev pub put_file : SchemaData → ℕ → GraphData → List ℕ → Result GraphData LoadFault
put_file s file g bytes = put_all file 1 g (map (file_change s file) (records_of bytes))

-- the graph after the files from a place on
unfoldable pub put_files : SchemaData → ℕ → GraphData → List (List ℕ) → Result GraphData LoadFault
put_files s file g [] = Ok g
put_files s file g (bytes ∷ rest) = put_file s file g bytes >>= (λ h. put_files s (file + 1) h rest)

-- the graph of the files of a schema's tables, or the first fault
abbrev pub tables_of : SchemaData → List (List ℕ) → Result GraphData LoadFault
tables_of s files = put_files s 0 (empty_graph s) files
