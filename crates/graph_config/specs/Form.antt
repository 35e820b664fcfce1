-- The form that a configuration has, and the faults of a document that is to have it, each at its path.
use Rattle.std.specs.Prelude.{◌≡◌, ◌⊎◌, ◌+◌, ◌-◌, ◌<◌, ◌&&◌, ◌==◌, ◌||◌, ℕ, suc, Bool, true, false, nat_lt, is_some, if◌then◌else◌, List, [], ◌∷◌, length, codes, Option, Some, None, option_and_then, ⊤}
use Rattle.serde_json.specs.Data.{Data, Items}
use Rattle.serde_json.specs.Find.{get, at, as_str, as_array, as_object}
use Rattle.graph_schema.specs.Name.{is_name}
use Rattle.graph_config.specs.Field.{field_path, item_path, same, is_file_name, kind_of, items_len, is_version}

-- ---- forms

mutual
  -- a text that passes a test, a version, a list of at most so many items of one form, or an object
  pub data Form : Type 0 where
    text : (List ℕ → Bool) → Form
    version : Form
    list : ℕ → Form → Form
    fields : Fields → Form

  -- the fields of an object in order: the name of each, whether it must be there, and its form; other fields are passed over
  pub data Fields : Type 0 where
    no_more : Fields
    field : List ℕ → Bool → Form → Fields → Fields

abbrev pub is_kind : List ℕ → Bool
is_kind word = is_some (kind_of word)

abbrev pub prop_form : Form
prop_form = fields (field (codes "name") true (text is_name) (field (codes "type") true (text is_kind) no_more))

abbrev pub props_form : Form
props_form = list 64 prop_form

abbrev pub vertex_form : Form
vertex_form =
    fields (field (codes "name") true (text is_name)
    (field (codes "file") true (text is_file_name)
    (field (codes "props") false props_form no_more)))

abbrev pub edge_form : Form
edge_form =
    fields (field (codes "name") true (text is_name)
    (field (codes "file") true (text is_file_name)
    (field (codes "source_vertex_provider") true (text is_name)
    (field (codes "destination_vertex_provider") true (text is_name)
    (field (codes "props") false props_form no_more)))))

-- the fields of a configuration with so many vertex tables: at most 32 tables in both lists together
abbrev pub top_fields : ℕ → Fields
top_fields vertex_tables =
    field (codes "version") false version
    (field (codes "vertex_providers") true (list 32 vertex_form)
    (field (codes "edge_providers") true (list (32 - vertex_tables) edge_form) no_more))

-- how many items a list has; what is no list has none
abbrev pub count_of : Option Items → ℕ
count_of None = 0
count_of (Some items) = items_len items

-- the form that a document is to have
abbrev pub form_of : Data → Form
form_of d = fields (top_fields (count_of (option_and_then as_array (get (codes "vertex_providers") d))))

-- ---- paths

-- into the field of an object, or into the item of a list
pub data Step : Type 0 where
  in_field : List ℕ → Step
  in_item : ℕ → Step

-- from the whole inwards
abbrev pub JsonPath : Type 0
JsonPath = List Step

-- the text of a path whose first part has a text, as `vertex_providers[0].props[1].type`
abbrev pub text_from : List ℕ → JsonPath → List ℕ
text_from start [] = start
text_from start (in_field name ∷ rest) = text_from (field_path start name) rest
text_from start (in_item i ∷ rest) = text_from (item_path start i) rest

abbrev pub path_text : JsonPath → List ℕ
path_text [] = codes "$"
path_text (in_field name ∷ rest) = text_from name rest
path_text (in_item i ∷ rest) = text_from (item_path (codes "$") i) rest

-- the part of a value that a step leads to
abbrev pub part : Step → Data → Option Data
part (in_field name) d = get name d
part (in_item i) d = at i d

-- the field of this name: whether it must be there, and its form
abbrev pub field_named : List ℕ → Fields → Option (Bool × Form)
field_named name no_more = None
field_named name (field first must form more) = if same first name then Some (must, form) else field_named name more

-- the same of what a step leads to; an item that is not there is not missing
abbrev pub part_form : Step → Form → Option (Bool × Form)
part_form (in_field name) (fields fs) = field_named name fs
part_form (in_field name) (list most form) = None
part_form (in_field name) (text test) = None
part_form (in_field name) version = None
part_form (in_item i) (fields fs) = None
part_form (in_item i) (list most form) = Some (false, form)
part_form (in_item i) (text test) = None
part_form (in_item i) version = None

-- ---- faults

abbrev pub is_text : (List ℕ → Bool) → Option (List ℕ) → Bool
is_text test None = false
is_text test (Some s) = test s

abbrev pub five_unless : Bool → Option ℕ
five_unless b = if b then None else Some 5

-- 5 for what is no list, and 52 for a list that is too long
abbrev pub list_fault : ℕ → Option Items → Option ℕ
list_fault most None = Some 5
list_fault most (Some items) = if nat_lt most (items_len items) then Some 52 else None

-- the fault of a value itself
abbrev pub fault_here : Form → Data → Option ℕ
fault_here (text test) d = five_unless (is_text test (as_str d))
fault_here version d = five_unless (is_version d)
fault_here (list most form) d = list_fault most (as_array d)
fault_here (fields fs) d = five_unless (is_some (as_object d))

abbrev pub is_end : JsonPath → Bool
is_end [] = true
is_end (step ∷ rest) = false

-- the fault of a part of an object or list: 4 at the end of the path where the part must be there and is not, and else the
-- fault of what is there
abbrev pub part_fault : (Form → Data → Option ℕ) → JsonPath → Bool → Option (Bool × Form) → Option Data → Option ℕ
part_fault inside rest is_object None d = None
part_fault inside rest is_object (Some entry) None = if entry.0 && (is_object && is_end rest) then Some 4 else None
part_fault inside rest is_object (Some entry) (Some d) = inside entry.1 d

-- the number of the fault at a path of a document that is to have a form, if there is one
abbrev pub fault_at : JsonPath → Form → Data → Option ℕ
fault_at [] form d = fault_here form d
fault_at (step ∷ rest) form d = part_fault (fault_at rest) rest (is_some (as_object d)) (part_form step form) (part step d)

-- ---- the order of paths

abbrev pub field_place : List ℕ → Fields → ℕ
field_place name no_more = 0
field_place name (field first must form more) = if same first name then 0 else suc (field_place name more)

-- fields in the order of the form, items in the order of the list
abbrev pub step_place : Step → Form → ℕ
step_place (in_item i) form = i
step_place (in_field name) (fields fs) = field_place name fs
step_place (in_field name) (list most form) = 0
step_place (in_field name) (text test) = 0
step_place (in_field name) version = 0

abbrev pub places_in : (Form → List ℕ) → Option (Bool × Form) → List ℕ
places_in inside None = []
places_in inside (Some entry) = inside entry.1

-- the places of the steps of a path
abbrev pub places : JsonPath → Form → List ℕ
places [] form = []
places (step ∷ rest) form = step_place step form ∷ places_in (places rest) (part_form step form)

-- an object or a list comes before what is in it, and else the first step that differs decides
abbrev pub IsBefore : List ℕ → List ℕ → Type 0
IsBefore [] [] = ⊥
IsBefore (x ∷ xs) [] = ⊥
IsBefore [] (y ∷ ys) = ⊤
IsBefore (x ∷ xs) (y ∷ ys) = (x < y) ⊎ ((x ≡ y) × IsBefore xs ys)

-- the path of this text has the fault of this number, and no path before it has a fault
pub record IsFirstFault (d : Data) (number : ℕ) (path_is : List ℕ) : Type 0 where
  pub path : JsonPath
  pub told : path_is ≡ path_text path
  pub fault : fault_at path (form_of d) d ≡ Some number
  pub first : (other : JsonPath) (also : ℕ) → fault_at other (form_of d) d ≡ Some also → IsBefore (places other (form_of d)) (places path (form_of d)) → ⊥
