-- Transient properties: a map from names to columns, seen as the list of its entries.
use Rattle.std.specs.Prelude.{◌≡◌, ◌≢◌, ℕ, Bool, ◌||◌, if◌then◌else◌, List, [], ◌∷◌, map, AllPairs, Option, Some, None, is_some}
use Rattle.std.specs.List.{list_any}
use Rattle.std.specs.Ordering.{nat_cmp}
use Rattle.std.specs.Cmp.Lexicographic.{slice_cmp}
use Rattle.std.specs.declared.cmp.Ordering.TheVariants.{Less}
use Rattle.column_types.specs.Column.{ColumnData}
use Rattle.graph_schema.specs.declared.schema.Prop.{Prop}
use Rattle.graph_schema.specs.Fault.{same_name, is_named}
use Rattle.graph_schema.specs.Schema.{SchemaData}

-- an entry of the map
pub record Transient : Type 0 where
  pub name : List ℕ
  pub column : ColumnData

-- the column of a name, where the map has the name
abbrev pub column_of : List Transient → List ℕ → Option ColumnData
column_of [] n = None
column_of (t ∷ ts) n = if same_name t.name n then Some t.column else column_of ts n

-- the new map has this answer at the name, and at every other name the answer of the old map
pub record ChangesOnly (old new : List Transient) (n : List ℕ) (answer : Option ColumnData) : Type 0 where
  pub at : column_of new n ≡ answer
  pub others : (m : List ℕ) → m ≢ n → column_of new m ≡ column_of old m

-- each name is below all later ones, in the order of their bytes
abbrev pub NamesRise : List Transient → Type 0
NamesRise = AllPairs (λ s t. slice_cmp nat_cmp s.name t.name ≡ Less)

-- an entry's name, with the kind of its column
abbrev pub prop_of : Transient → Prop
prop_of t = record { name = t.name; kind = t.column.kind }

-- ---- names that are taken

-- a vertex table of the schema has a property of the name
abbrev pub is_vertex_prop : SchemaData → List ℕ → Bool
is_vertex_prop schema n = list_any (λ table. is_named (λ p. p.name) table.props n) schema.vertices

-- a vertex table or the map has the name
abbrev pub is_taken : SchemaData → List Transient → List ℕ → Bool
is_taken schema ts n = is_vertex_prop schema n || is_some (column_of ts n)

-- ---- how the map is kept

-- the entries of two lists of one length, one with their names and one with their columns
abbrev pub entries_of : List Prop → List ColumnData → List Transient
entries_of [] cs = []
entries_of (p ∷ ps) [] = []
entries_of (p ∷ ps) (c ∷ cs) = record { name = p.name; column = c } ∷ entries_of ps cs

-- both lists are those of the entries, in the order of the names
pub record IsKept (ps : List Prop) (cs : List ColumnData) : Type 0 where
  pub props : ps ≡ map prop_of (entries_of ps cs)
  pub columns : cs ≡ map (λ t. t.column) (entries_of ps cs)
  pub rising : NamesRise (entries_of ps cs)
