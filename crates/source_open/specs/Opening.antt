-- What the sources of a script open to, over the files of a library.
use Rattle.std.specs.Prelude.{◌≡◌, ℕ, ℤ, List, [], ◌∷◌, ◌++◌, map, codes, slice_get, unwrap_or, Option, Some, None, IfSome, Result, Ok, Err, ⊤}
use Rattle.std.specs.List.{AllZip}
use Rattle.pgx_io.specs.Files.{Files}
use Rattle.pgx_io.specs.Seen.{LibrarySeen, LibraryFailed}
use Rattle.graph_config.specs.Config.{ConfigData, config_of}
use Rattle.graph_config.specs.Fault.{Fault}
use Rattle.graph_config.specs.declared.fault.ConfigFault.{ConfigFault}
use Rattle.graph_config.specs.declared.fault.ConfigFault.TheVariants as config_fault
use Rattle.table_loader.specs.Fault.{◌>>=◌}
use Rattle.table_loader.specs.Tables.{tables_of}
use Rattle.table_loader.specs.Inline.{inline_of}
use Rattle.table_loader.specs.declared.fault.LoadFault.{LoadFault}
use Rattle.table_loader.specs.declared.fault.LoadFault.TheVariants as load_fault
use Rattle.graph_model.specs.Graph.{GraphData}
use Rattle.script_read.specs.declared.script.SourceForm.{SourceForm}
use Rattle.script_read.specs.declared.script.SourceForm.TheVariants as form
use Rattle.script_read.specs.declared.script.SourceText.{SourceText}
use Rattle.catalogue_state.specs.declared.parts.SourceData.{SourceData}
use Rattle.source_open.specs.declared.fault.SourceFault.{SourceFault}
use Rattle.source_open.specs.declared.fault.SourceFault.TheVariants.{NoFile, BadConfig, BadTable, ReadFault, NoMemory}

-- what was looked up under a name, or that no file has it
abbrev pub found : List ℕ → Option (List ℕ) → Result (List ℕ) SourceFault
found name None = Err (NoFile name)
found name (Some bytes) = Ok bytes

-- the bytes of the file of this name
abbrev pub file_got : Files → List ℕ → Result (List ℕ) SourceFault
file_got files name = found name (files name)

-- what stands got already, and the bytes of the files of the other names, or the first name without a file
abbrev pub got_after : Files → List (List ℕ) → List (List ℕ) → Result (List (List ℕ)) SourceFault
got_after files done [] = Ok done
got_after files done (name ∷ names) = file_got files name >>= λ bytes. got_after files (done ++ bytes ∷ []) names

-- the bytes of the files of these names in their order, or the first name without a file
abbrev pub files_got : Files → List (List ℕ) → Result (List (List ℕ)) SourceFault
files_got files names = got_after files [] names

-- what the file of this name was read as, or its fault with the name
abbrev pub config_named : List ℕ → Result ConfigData Fault → Result ConfigData SourceFault
config_named name (Ok config) = Ok config
config_named name (Err fault) = Err (BadConfig name (config_fault.At fault.0 fault.1))

-- a fault in the records of the files of these names, told with the name of its file
abbrev pub table_fault : List (List ℕ) → LoadFault → SourceFault
table_fault names (load_fault.Bad file row number) = BadTable (unwrap_or (slice_get names file) []) row number
table_fault names load_fault.NoMemory = NoMemory

-- what the files of these names were read as, or their fault with the name
abbrev pub tables_named : List (List ℕ) → Result GraphData LoadFault → Result GraphData SourceFault
tables_named names (Ok graph) = Ok graph
tables_named names (Err fault) = Err (table_fault names fault)

-- the graph in these files of a configuration
abbrev pub tables_read : ConfigData → List (List ℕ) → Result GraphData SourceFault
tables_read config tables = tables_named config.files (tables_of config.schema tables)

-- the graph of a configuration: all its files are got, and then they are read
abbrev pub config_graph : Files → ConfigData → Result GraphData SourceFault
config_graph files config = files_got files config.files >>= λ tables. tables_read config tables

-- the configuration in the file of this name with these bytes
abbrev pub config_read : List ℕ → List ℕ → Result ConfigData SourceFault
config_read name bytes = config_named name (config_of bytes)

-- the graph of the configuration in the file of this name
abbrev pub file_graph : Files → List ℕ → Result GraphData SourceFault
file_graph files name = file_got files name >>= λ bytes. config_read name bytes >>= λ config. config_graph files config

-- the lines of an inline source are the records of two files, which have these names
abbrev pub inline_files : List ℕ → List (List ℕ)
inline_files name = (name ++ codes ".V") ∷ (name ++ codes ".E") ∷ []

-- the graph in the lines of an inline source of this name
abbrev pub lines_graph : List ℕ → List ℤ → List (ℤ × ℤ × ℤ) → Result GraphData SourceFault
lines_graph name vertices edges = tables_named (inline_files name) (inline_of vertices edges)

-- A source without a file of changes. No other is opened yet, and no script has one: `open_sources` and `check_sources` ask for it.
abbrev pub HasNoChanges : SourceForm → Type 0
HasNoChanges (form.Inline vertices edges) = ⊤
HasNoChanges (form.Files config None) = ⊤
HasNoChanges (form.Files config (Some changes)) = ⊥

-- The graph of a source of this name before any change. What a file of changes brings is not defined here: `HasNoChanges` keeps the
-- last case from being asked for.
abbrev pub form_graph : Files → List ℕ → SourceForm → Result GraphData SourceFault
form_graph files name (form.Inline vertices edges) = lines_graph name vertices edges
form_graph files name (form.Files config None) = file_graph files config
form_graph files name (form.Files config (Some changes)) = file_graph files config

-- the graph of a source: an inline source looks up no file, another the one of its configuration and then those of its tables
abbrev pub source_graph : Files → SourceText → Result GraphData SourceFault
source_graph files source = form_graph files source.name source.form

-- what one source opens to: its name and its graph
abbrev pub source_opened : Files → SourceText → Result SourceData SourceFault
source_opened files source = source_graph files source >>= λ graph. Ok (record { name = source.name; opening = graph; changes = [] })

-- what stands open already, and what the other sources open to, or the first fault
abbrev pub opened_after : Files → List SourceData → List SourceText → Result (List SourceData) SourceFault
opened_after files done [] = Ok done
opened_after files done (source ∷ sources) = source_opened files source >>= λ opening. opened_after files (done ++ opening ∷ []) sources

-- what the sources open to in their order, or the first fault
abbrev pub opened : Files → List SourceText → Result (List SourceData) SourceFault
opened files sources = opened_after files [] sources

-- the names of sources, and of what they open to
abbrev pub names_of : List SourceText → List (List ℕ)
names_of sources = map (λ source. source.name) sources

abbrev pub opened_names : List SourceData → List (List ℕ)
opened_names openings = map (λ opening. opening.name) openings

-- the graph is that of the lines, where the records stand in the script; of files nothing is said
abbrev pub IsOfLines : SourceForm → GraphData → Type 0
IsOfLines (form.Inline vertices edges) graph = inline_of vertices edges ≡ Ok graph
IsOfLines (form.Files config changes) graph = ⊤

-- what an inline source opens to, whatever the library tells: the graph of its lines, without changes
abbrev pub IsInlineOf : SourceForm → SourceData → Type 0
IsInlineOf (form.Inline vertices edges) opening = (inline_of vertices edges ≡ Ok opening.opening) × (opening.changes ≡ [])
IsInlineOf (form.Files config changes) opening = ⊤

-- each inline source is open in its place with the graph of its lines
abbrev pub AreInlineOf : List SourceText → List SourceData → Type 0
AreInlineOf sources openings = AllZip (λ source opening. IsInlineOf source.form opening) sources openings

-- a fault with its number and path: it never tells that memory ran out
abbrev pub HasNumber : ConfigFault → Type 0
HasNumber (config_fault.At number path) = ⊤
HasNumber config_fault.NoMemory = ⊥

-- why reading what was got ends with a fault: it comes to this fault, or memory ran out
abbrev pub ReadCause : {A : Type 0} → Result A SourceFault → SourceFault → Type 0
ReadCause expected (NoFile name) = ⊥
ReadCause expected (BadConfig file fault) = HasNumber fault × (expected ≡ Err (BadConfig file fault))
ReadCause expected (BadTable file row number) = expected ≡ Err (BadTable file row number)
ReadCause expected ReadFault = ⊥
ReadCause expected NoMemory = ⊤

-- Why opening ends with a fault, where `expected` is what comes of the library's files: it comes to this fault, or the library failed,
-- or memory ran out.
abbrev pub OpenCause : {A : Type 0} → LibrarySeen → LibrarySeen → (Files → Result A SourceFault) → SourceFault → Type 0
OpenCause before after expected (NoFile name) = IfSome before.files (λ files. expected files ≡ Err (NoFile name))
OpenCause before after expected (BadConfig file fault) = HasNumber fault × IfSome before.files (λ files. expected files ≡ Err (BadConfig file fault))
OpenCause before after expected (BadTable file row number) = IfSome before.files (λ files. expected files ≡ Err (BadTable file row number))
OpenCause before after expected ReadFault = LibraryFailed before after
OpenCause before after expected NoMemory = ⊤
