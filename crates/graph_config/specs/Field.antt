-- The fields of an object: 4 for one that is missing, 5 for a value that is not allowed.
use Rattle.std.specs.Prelude.{ℕ, suc, ◌==◌, ◌&&◌, ◌||◌, Bool, false, nat_eq, nat_le, nat_lt, if◌then◌else◌, List, ◌++◌, length, codes, Option, Some, None, option_and_then, is_some, Result, Ok, Err}
use Rattle.std.specs.List.{list_all}
use Rattle.std.specs.Fmt.{decimal}
use Rattle.std.specs.Cmp.Lexicographic.{pointwise}
use Rattle.serde_json.specs.Data.{Data, Items, no_items, item}
use Rattle.serde_json.specs.Find.{get, as_str, as_array, as_object, as_number, as_u64}
use Rattle.column_types.specs.declared.kind.Kind.{Kind}
use Rattle.column_types.specs.declared.kind.Kind.TheVariants as kind
use Rattle.graph_schema.specs.declared.schema.Keys.{Keys}
use Rattle.graph_schema.specs.declared.schema.Keys.TheVariants.{Whole, PerTable}
use Rattle.graph_schema.specs.Name.{is_name, continues_name}
use Rattle.graph_config.specs.Fault.{Fault, ◌>>=◌, required, allowed}

-- ---- paths

-- the path of a field of the object at a path
abbrev pub field_path : List ℕ → List ℕ → List ℕ
field_path path field = path ++ codes "." ++ field

-- the path of an item of the list at a path, places from 0
abbrev pub item_path : List ℕ → ℕ → List ℕ
item_path path place = path ++ codes "[" ++ decimal place ++ codes "]"

-- the paths of a part of the table at a place of a list, and of the name of one of its properties
abbrev pub part_path : List ℕ → ℕ → List ℕ → List ℕ
part_path list table part = list ++ codes "[" ++ decimal table ++ codes "]." ++ part

abbrev pub prop_name_path : List ℕ → ℕ → ℕ → List ℕ
prop_name_path list table prop = list ++ codes "[" ++ decimal table ++ codes "].props[" ++ decimal prop ++ codes "].name"

-- ---- words

-- whether two texts have the same bytes
abbrev pub same : List ℕ → List ℕ → Bool
same a b = pointwise nat_eq a b

-- an ASCII letter, a digit, `_`, `.`, `-` or `/`
abbrev pub is_file_byte : ℕ → Bool
is_file_byte b = continues_name b || (b == 46) || (b == 45) || (b == 47)

-- 1 to 255 of them
abbrev pub is_file_name : List ℕ → Bool
is_file_name text = nat_le 1 (length text) && (nat_le (length text) 255 && list_all is_file_byte text)

-- the kind that a word names
abbrev pub kind_of : List ℕ → Option Kind
kind_of word =
    if same word (codes "integer") then Some kind.Integer
    else if same word (codes "long") then Some kind.Long
    else if same word (codes "boolean") then Some kind.Boolean
    else if same word (codes "string") then Some kind.Text
    else if same word (codes "local_date") then Some kind.Date
    else None

-- ---- values at a path

-- an object, whose fields the next steps look at
unfoldable pub object_at : List ℕ → Data → Result (Unit {0}) Fault
object_at path d = if is_some (as_object d) then Ok tt else Err (5, path)

abbrev pub items_len : Items → ℕ
items_len no_items = 0
items_len (item d ds) = suc (items_len ds)

-- a list of at most so many items; 52 comes before any fault of an item
unfoldable pub list_at : List ℕ → ℕ → Data → Result Items Fault
list_at path most d =
    allowed path (as_array d) >>= (λ ds. if nat_lt most (items_len ds) then Err (52, path) else Ok ds)

-- the same where it may be missing
unfoldable pub optional_list_at : List ℕ → ℕ → Option Data → Result Items Fault
optional_list_at path most None = Ok no_items
optional_list_at path most (Some d) = list_at path most d

-- ---- fields of the object at a path

unfoldable pub string_at : List ℕ → List ℕ → Data → Result (List ℕ) Fault
string_at path field d =
    required (field_path path field) (get field d) >>= (λ v. allowed (field_path path field) (as_str v))

-- the text where it passes the test
abbrev pub passing : (List ℕ → Bool) → List ℕ → Option (List ℕ)
passing test text = if test text then Some text else None

unfoldable pub name_at : List ℕ → List ℕ → Data → Result (List ℕ) Fault
name_at path field d = string_at path field d >>= (λ text. allowed (field_path path field) (passing is_name text))

unfoldable pub file_at : List ℕ → List ℕ → Data → Result (List ℕ) Fault
file_at path field d =
    string_at path field d >>= (λ text. allowed (field_path path field) (passing is_file_name text))

unfoldable pub kind_at : List ℕ → List ℕ → Data → Result Kind Fault
kind_at path field d = string_at path field d >>= (λ word. allowed (field_path path field) (kind_of word))

-- ---- fields of the whole, whose paths are their names

abbrev pub is_one_or_two : Option ℕ → Bool
is_one_or_two None = false
is_one_or_two (Some n) = n == 1 || n == 2

-- the number 1 or 2, without fraction or exponent
abbrev pub is_version : Data → Bool
is_version d = is_one_or_two (option_and_then as_u64 (as_number d))

-- keys differ within each table where the version is 2, and else over all tables
abbrev pub keys_for : Option ℕ → Keys
keys_for None = Whole
keys_for (Some n) = if n == 2 then PerTable else Whole

abbrev pub keys_of : Option Data → Keys
keys_of None = Whole
keys_of (Some d) = keys_for (option_and_then as_u64 (as_number d))

-- a version, which may be missing
unfoldable pub version_of : Option Data → Result (Unit {0}) Fault
version_of None = Ok tt
version_of (Some d) = if is_version d then Ok tt else Err (5, codes "version")

-- a list that must be there
unfoldable pub top_list_at : List ℕ → ℕ → Data → Result Items Fault
top_list_at field most d = required field (get field d) >>= list_at field most
