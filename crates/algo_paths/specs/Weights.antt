-- The weights of the edges of a graph, by a property.
use Rattle.std.specs.Prelude.{◌≡◌, ℕ, ℤ, pos, negsuc, ◌++◌, ◌&&◌, Bool, true, false, List, ◌∷◌, Option, Some, None, map}
use Rattle.std.specs.List.{list_any, position_or_len}
use Rattle.std.specs.Str.{bytes_eq}
use Rattle.column_types.specs.declared.kind.Kind.{Kind}
use Rattle.column_types.specs.declared.kind.Kind.TheVariants as kind
use Rattle.column_types.specs.declared.value.Value.{Value}
use Rattle.column_types.specs.declared.value.Value.TheVariants.{Integer, Long}
use Rattle.graph_schema.specs.declared.schema.Prop.{Prop}
use Rattle.graph_schema.specs.declared.schema.EdgeTable.{EdgeTable}
use Rattle.graph_model.specs.declared.row.EdgeRow.{EdgeRow}
use Rattle.graph_model.specs.Graph.{GraphData, edge_props_at}
use Rattle.graph_slots.specs.Meaning.{value_at}

-- the property has the name
abbrev pub is_named : List ℕ → Prop → Bool
is_named name p = bytes_eq p.name name

-- its values are whole numbers
abbrev pub is_whole : Kind → Bool
is_whole kind.Integer = true
is_whole kind.Long = true
is_whole k = false

-- some edge table has a property of the name with whole numbers
abbrev pub has_whole : List ℕ → List Prop → Bool
has_whole name props = list_any (λ p. is_named name p && is_whole p.kind) props

abbrev pub has_weight : List ℕ → List EdgeTable → Bool
has_weight name tables = list_any (λ t. has_whole name t.props) tables

-- a whole number that is not negative is a weight
abbrev pub natural : ℤ → Option ℕ
natural (pos n) = Some n
natural (negsuc n) = None

abbrev pub weight_of_value : Value → Option ℕ
weight_of_value (Integer n) = natural n
weight_of_value (Long n) = natural n
weight_of_value v = None

-- the weight of an edge of a table: the value of the property of the name, where it is a weight. Where the table has no such
-- property the value is NULL.
abbrev pub edge_weight : List ℕ → GraphData → ℕ × EdgeRow → Option ℕ
edge_weight name g p = weight_of_value (value_at (position_or_len (is_named name) (edge_props_at g.schema p.0)) p.1.values)

-- each edge has a weight, and these are the weights
abbrev pub AreWeights : {X : Type 0} → (X → Option ℕ) → List X → List ℕ → Type 0
AreWeights weight edges weights = map weight edges ≡ map Some weights

-- an edge has no weight, and each before it has one
pub record IsFirstBad {X : Type 0} (weight : X → Option ℕ) (edges : List X) (edge : X) : Type 0 where
  pub before : List X
  pub after : List X
  pub weights : List ℕ
  pub split : edges ≡ before ++ edge ∷ after
  pub earlier : AreWeights weight before weights
  pub bad : weight edge ≡ None
