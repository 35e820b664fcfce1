-- What a fault tells of a document.
use Rattle.std.specs.Prelude.{◌≡◌, ◌⊎◌, ℕ, ◌==◌, ◌||◌, Bool, List, [], Option, Some, None, true, Ok, Err, ⊤}
use Rattle.serde_json.specs.Data.{Data}
use Rattle.graph_config.specs.declared.fault.ConfigFault.{ConfigFault}
use Rattle.graph_config.specs.declared.fault.ConfigFault.TheVariants.{At, NoMemory}
use Rattle.graph_config.specs.declared.tables.Tables.{Tables}
use Rattle.graph_config.specs.Walk.{walk}
use Rattle.graph_config.specs.Check.{checked}
use Rattle.graph_config.specs.Config.{ConfigData, json, config_at}
use Rattle.graph_config.specs.Form.{JsonPath, form_of, fault_at, IsFirstFault}

-- the document has the form of a configuration: no path has a fault
abbrev pub HasForm : Data → Type 0
HasForm d = (path : JsonPath) → fault_at path (form_of d) d ≡ None

-- 6, 7 and 50 are looked for where the document has the form
abbrev pub is_later : ℕ → Bool
is_later number = (number == 6) || (number == 7) || (number == 50)

-- the document has the form, and this is the first fault of its tables
pub record IsLaterFault (d : Data) (number : ℕ) (path : List ℕ) : Type 0 where
  pub formed : HasForm d
  pub tables : Tables
  pub walked : walk d ≡ Ok tables
  pub found : checked tables ≡ Err (number, path)
  pub later : is_later number ≡ true

-- a fault of the form, 4, 5 or 52, that no other one comes before, or a fault of the tables
abbrev pub Locates : Data → ℕ → List ℕ → Type 0
Locates d number path = IsFirstFault d number path ⊎ IsLaterFault d number path

-- the same of bytes; 3 has the empty path, and comes where they are no JSON
abbrev pub LocatesOf : Option Data → ℕ → List ℕ → Type 0
LocatesOf None number path = (number ≡ 3) × (path ≡ [])
LocatesOf (Some d) number path = Locates d number path

-- what an error tells
abbrev pub LocatesFault : List ℕ → ConfigFault → Type 0
LocatesFault bytes (At number path) = LocatesOf (json bytes) number path
LocatesFault bytes NoMemory = ⊤

-- a document that is not accepted has this fault first
abbrev pub FirstFaults : Type 0
FirstFaults = (d : Data) (number : ℕ) (path : List ℕ) → config_at d ≡ Err (number, path) → Locates d number path

-- one that is accepted has the form
abbrev pub AcceptedHaveTheForm : Type 0
AcceptedHaveTheForm = (d : Data) (c : ConfigData) → config_at d ≡ Ok c → HasForm d
