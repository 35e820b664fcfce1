-- What a configuration is, and which one bytes stand for.
use Rattle.std.specs.Prelude.{◌≡◌, ℕ, ◌+◌, IsTrue, if◌then◌else◌, List, [], length, codes, All, Option, Some, None, Result, Ok, Err}
use Rattle.std.specs.Str.{is_utf8}
use Rattle.serde_json.specs.Data.{Data}
use Rattle.serde_json.specs.Find.{get}
use Rattle.serde_json.specs.Read.{read}
use Rattle.graph_schema.specs.declared.schema.Keys.{Keys}
use Rattle.graph_schema.specs.Schema.{SchemaData, schema_with}
use Rattle.graph_config.specs.declared.tables.Tables.{Tables}
use Rattle.graph_config.specs.Fault.{Fault, ◌>>=◌}
use Rattle.graph_config.specs.Field.{is_file_name, keys_of}
use Rattle.graph_config.specs.Walk.{walk}
use Rattle.graph_config.specs.Check.{checked}

-- a schema, and the files of its vertex tables and then of its edge tables
pub record ConfigData : Type 0 where
  pub schema : SchemaData
  pub files : List (List ℕ)

-- each table has one file, and files have file names
pub record IsConfig (c : ConfigData) : Type 0 where
  pub one_each : length c.files ≡ length c.schema.vertices + length c.schema.edges
  pub named : All (λ file. IsTrue (is_file_name file)) c.files

-- the configuration of tables, where the checks find no fault
unfoldable pub config_with : Keys → Tables → Result ConfigData Fault
config_with keys t = checked t >>= (λ none. Ok (record { schema = schema_with keys t.vertices t.edges; files = t.files }))

-- the JSON that bytes stand for: `read` is the meaning that serde_json gives to a text
abbrev pub json : List ℕ → Option Data
json bytes = if is_utf8 bytes then read bytes else None

-- 3, with the empty path, where there is none
abbrev pub json_or : Option Data → Result Data Fault
json_or None = Err (3, [])
json_or (Some d) = Ok d

-- the configuration that a JSON value stands for
unfoldable pub config_at : Data → Result ConfigData Fault
config_at d = walk d >>= config_with (keys_of (get (codes "version") d))

-- the configuration that bytes stand for, or its first fault
unfoldable pub config_of : List ℕ → Result ConfigData Fault
config_of bytes = json_or (json bytes) >>= config_at
