-- What files and lines stand for, in words that speak of no order of work.
use Rattle.std.specs.Prelude.{◌≡◌, ◌↔◌, ◌⊎◌, ◌+◌, ◌<◌, ℕ, ℤ, List, [], length, map, take, drop, slice_get, Result, Ok, Err, Some}
use Rattle.std.specs.List.{AllZip, zip}
use Rattle.graph_schema.specs.Schema.{SchemaData, IsSchema}
use Rattle.graph_model.specs.declared.change.Change.{Change}
use Rattle.graph_model.specs.declared.change.Change.TheVariants.{InsertVertex, InsertEdge}
use Rattle.graph_model.specs.declared.change.Why.{Why}
use Rattle.graph_model.specs.declared.change.Why.TheVariants.{KeyTaken, EndMissing, Limit}
use Rattle.graph_model.specs.Graph.{GraphData, IsGraph, empty_graph}
use Rattle.graph_model.specs.Change.{misfit}
use Rattle.table_loader.specs.declared.fault.LoadFault.TheVariants.{Bad}
use Rattle.table_loader.specs.Record.{vertex_of, edge_of}
use Rattle.table_loader.specs.Put.{put_read, put_all}
use Rattle.csv_records.specs.Reading.{records_of}
use Rattle.table_loader.specs.Tables.{file_change, tables_of}
use Rattle.table_loader.specs.Inline.{inline_schema, inline_of, vertex_line, edge_line, put_vertices}

-- ---- the first fault

-- the item at a place is the first with a fault: those before it are taken over, and this one has the fault
pub record FirstItem {A : Type 0} (read : A → Result Change ℕ) (file first : ℕ) (g : GraphData) (items : List A) (row number : ℕ) : Type 0 where
  pub place : ℕ
  pub counted : row ≡ first + place
  pub before : GraphData
  pub taken : put_all file first g (map read (take place items)) ≡ Ok before
  pub item : A
  pub there : slice_get items place ≡ Some item
  pub fault : put_read (read item) before ≡ Err number

-- the record of this number of this file is the first with a fault: the files before it are taken over, and so are the records
-- before it in its file
pub record FirstRecord (s : SchemaData) (files : List (List ℕ)) (file row number : ℕ) : Type 0 where
  pub before : GraphData
  pub taken : tables_of s (take file files) ≡ Ok before
  pub bytes : List ℕ
  pub there : slice_get files file ≡ Some bytes
  pub first : FirstItem (file_change s file) file 1 before (records_of bytes) row number

-- a fault of table files is that of the first record with one
abbrev pub FaultsAreFirst : Type 0
FaultsAreFirst = (s : SchemaData) (files : List (List ℕ)) (file row number : ℕ) → tables_of s files ≡ Err (Bad file row number) → FirstRecord s files file row number

-- the line is the first with a fault: where it is an edge, the vertices are taken over
abbrev pub FirstLine : List ℤ → List (ℤ × ℤ × ℤ) → ℕ → ℕ → ℕ → Type 0
FirstLine vertices edges file row number =
    ((file ≡ 0) × FirstItem vertex_line 0 1 (empty_graph inline_schema) vertices row number)
    ⊎ ((file ≡ 1) × ((before : GraphData) × (put_vertices 1 (empty_graph inline_schema) vertices ≡ Ok before) × FirstItem edge_line 1 1 before edges row number))

abbrev pub LineFaultsAreFirst : Type 0
LineFaultsAreFirst =
    (vertices : List ℤ) (edges : List (ℤ × ℤ × ℤ)) (file row number : ℕ) → inline_of vertices edges ≡ Err (Bad file row number) → FirstLine vertices edges file row number

-- ---- what is accepted

-- rows that are read of a file's records, one by one in order
abbrev pub AreRead : {R : Type 0} → (List (List ℕ) → Result R ℕ) → List ℕ → List R → Type 0
AreRead read bytes rows = AllZip (λ fields row. read fields ≡ Ok row) (records_of bytes) rows

-- a graph of the schema in which each table has the rows that are read of its file: the files of the vertex tables come first
pub record HasRowsOf (s : SchemaData) (files : List (List ℕ)) (g : GraphData) : Type 0 where
  pub schema : g.schema ≡ s
  pub vertices : AllZip (λ table rows. AreRead (vertex_of table.0.props) table.1 rows) (zip s.vertices files) g.vertices
  pub edges : AllZip (λ table rows. AreRead (edge_of table.0.props) table.1 rows) (zip s.edges (drop (length s.vertices) files)) g.edges

-- the files of a schema's tables, one for each, stand for a graph exactly where each record reads as a row, and these rows are a
-- graph: it is the graph of these rows
abbrev pub TablesStandForAGraph : Type 0
TablesStandForAGraph =
    (s : SchemaData) (files : List (List ℕ)) (g : GraphData) → IsSchema s → length files ≡ length s.vertices + length s.edges
    → ((tables_of s files ≡ Ok g) ↔ (HasRowsOf s files g × IsGraph g))

-- ---- the causes

-- the key of a row is taken (11), an end is missing (12), or the row passes a limit (13)
abbrev pub IsRowCause : Why → Type 0
IsRowCause why = (why ≡ KeyTaken) ⊎ ((why ≡ EndMissing) ⊎ (why ≡ Limit))

-- a record that was read has no other cause not to fit a graph of the schema
abbrev pub RecordsHaveRowCauses : Type 0
RecordsHaveRowCauses =
    (s : SchemaData) (file : ℕ) (fields : List (List ℕ)) (c : Change) (g : GraphData) (why : Why) → g.schema ≡ s → file < length s.vertices + length s.edges
    → file_change s file fields ≡ Ok c → misfit g c ≡ Some why → IsRowCause why

-- and neither has a line
abbrev pub LinesHaveRowCauses : Type 0
LinesHaveRowCauses =
    (g : GraphData) (why : Why) → g.schema ≡ inline_schema
    → ((key : ℤ) → misfit g (InsertVertex 0 key []) ≡ Some why → IsRowCause why)
    × ((key source destination : ℤ) → misfit g (InsertEdge 0 key source destination []) ≡ Some why → IsRowCause why)

-- so a fault of lines is 11, 12 or 13
abbrev pub LineFaultsAreRowFaults : Type 0
LineFaultsAreRowFaults =
    (vertices : List ℤ) (edges : List (ℤ × ℤ × ℤ)) (file row number : ℕ) → inline_of vertices edges ≡ Err (Bad file row number)
    → (number ≡ 11) ⊎ ((number ≡ 12) ⊎ (number ≡ 13))
