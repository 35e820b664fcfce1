-- What opening sources comes to, in words that do not go through them one after another.
use Rattle.std.specs.Prelude.{◌≡◌, ◌↔◌, ℕ, ℤ, List, ◌∷◌, ◌++◌, All, None, IsSome, Ok, Err, IsOk}
use Rattle.std.specs.List.{AllZip}
use Rattle.pgx_io.specs.Files.{Files}
use Rattle.graph_config.specs.Config.{ConfigData}
use Rattle.script_read.specs.declared.script.SourceForm.TheVariants.{Inline}
use Rattle.script_read.specs.declared.script.SourceText.{SourceText}
use Rattle.catalogue_state.specs.declared.parts.SourceData.{SourceData}
use Rattle.source_open.specs.Opening.{config_graph, source_graph, source_opened, opened}
use Rattle.source_open.specs.declared.fault.SourceFault.{SourceFault}
use Rattle.source_open.specs.declared.fault.SourceFault.TheVariants.{NoFile, BadTable}

-- sources open to a list exactly where each opens to what stands in its place there
abbrev pub OpenEach : Type 0
OpenEach = (files : Files) (sources : List SourceText) (openings : List SourceData)
    → (opened files sources ≡ Ok openings) ↔ AllZip (λ source opening. source_opened files source ≡ Ok opening) sources openings

-- a fault is that of one source, and all before it open
abbrev pub FaultAtFirst : Type 0
FaultAtFirst = (files : Files) (sources : List SourceText) (fault : SourceFault) → opened files sources ≡ Err fault
    → (before : List SourceText) × (source : SourceText) × (after : List SourceText) × (sources ≡ before ++ source ∷ after)
    × All (λ other. IsOk (source_opened files other)) before × (source_opened files source ≡ Err fault)

-- an inline source is the same over any files
abbrev pub InlineNeedsNoFile : Type 0
InlineNeedsNoFile = (files others : Files) (name : List ℕ) (vertices : List ℤ) (edges : List (ℤ × ℤ × ℤ))
    → source_graph files (record { name = name; form = Inline vertices edges }) ≡ source_graph others (record { name = name; form = Inline vertices edges })

-- a file that is told as missing is missing
abbrev pub ToldMissing : Type 0
ToldMissing = (files : Files) (sources : List SourceText) (name : List ℕ) → opened files sources ≡ Err (NoFile name) → files name ≡ None

-- where a record of a configuration's files is told at fault, all these files are there
abbrev pub RecordsAfterFiles : Type 0
RecordsAfterFiles = (files : Files) (config : ConfigData) (file : List ℕ) (row number : ℕ)
    → config_graph files config ≡ Err (BadTable file row number) → All (λ name. IsSome (files name)) config.files
