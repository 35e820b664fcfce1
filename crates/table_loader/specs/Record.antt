-- What one record of a table file stands for. A fault is told by its number.
use Rattle.std.specs.Prelude.{ℕ, ◌+◌, ◌==◌, not, ℤ, Bool, if◌then◌else◌, List, [], ◌∷◌, length, drop, Option, Some, None, option_and_then, option_map, Result, Ok, Err}
use Rattle.csv_records.specs.Texts.{are_texts}
use Rattle.csv.specs.Records.{field_at}
use Rattle.column_types.specs.declared.kind.Kind.{Kind}
use Rattle.column_types.specs.declared.kind.Kind.TheVariants as kind
use Rattle.column_types.specs.declared.value.Value.{Value}
use Rattle.column_types.specs.declared.value.Value.TheVariants.{Long}
use Rattle.column_types.specs.Reading.{read_value}
use Rattle.graph_schema.specs.declared.schema.Prop.{Prop}
use Rattle.graph_model.specs.declared.row.VertexRow.{VertexRow}
use Rattle.graph_model.specs.declared.row.EdgeRow.{EdgeRow}
use Rattle.table_loader.specs.Fault.{◌>>=◌}

-- what is there, or a fault
abbrev pub or_fault : {A : Type 0} → ℕ → Option A → Result A ℕ
or_fault number None = Err number
or_fault number (Some x) = Ok x

-- so many fields, each of them UTF-8
unfoldable pub fields_checked : ℕ → List (List ℕ) → Result (Unit {0}) ℕ
fields_checked count fields =
    if not (length fields == count) then Err 9
    else if not (are_texts fields) then Err 8
    else Ok tt

-- the value of a kind that the field at a place, counted from 0, writes
unfoldable pub value_at : Kind → List (List ℕ) → ℕ → Result Value ℕ
value_at k fields place = or_fault 10 (option_and_then (read_value k) (field_at fields place))

-- a LONG that is not NULL
abbrev pub long_in : Value → Option ℤ
long_in (Long n) = Some n
long_in v = None

-- the key that the field at a place writes
unfoldable pub key_at : List (List ℕ) → ℕ → Result ℤ ℕ
key_at fields place = value_at kind.Long fields place >>= (λ v. or_fault 10 (long_in v))

-- fields as values of properties, a field for each property in order
unfoldable pub values_of : List Prop → List (List ℕ) → Option (List Value)
values_of [] [] = Some []
values_of [] (f ∷ fs) = None
values_of (p ∷ ps) [] = None
values_of (p ∷ ps) (f ∷ fs) = option_and_then (λ v. option_map (λ vs. v ∷ vs) (values_of ps fs)) (read_value p.kind f)

-- the fields from a place on as values of properties
unfoldable pub values_from : List Prop → List (List ℕ) → ℕ → Result (List Value) ℕ
values_from props fields place = or_fault 10 (values_of props (drop place fields))

-- a vertex: its key, and a value for each property of its table
unfoldable pub vertex_of : List Prop → List (List ℕ) → Result VertexRow ℕ
vertex_of props fields = do
  checked ← fields_checked (length props + 1) fields
  key ← key_at fields 0
  values ← values_from props fields 1
  Ok (record { key = key; values = values })

-- an edge: its key, the keys of its ends, and a value for each property of its table
unfoldable pub edge_of : List Prop → List (List ℕ) → Result EdgeRow ℕ
edge_of props fields = do
  checked ← fields_checked (length props + 3) fields
  key ← key_at fields 0
  source ← key_at fields 1
  destination ← key_at fields 2
  values ← values_from props fields 3
  Ok (record { key = key; source = source; destination = destination; values = values })
