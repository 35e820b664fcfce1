-- The parts that the columns of a table give.
use Rattle.std.specs.Prelude.{◌≡◌, ◌<◌, ◌+◌, ◌∷◌, ℕ, pos, negsuc, ℤ, List, All, length, map, sum_by, position}
use Rattle.std.specs.Ordering.{int_eq}
use Rattle.column_types.specs.declared.kind.Kind.TheVariants as kind
use Rattle.column_types.specs.declared.value.Value.TheVariants.{Integer}
use Rattle.column_types.specs.Column.{ColumnData}
use Rattle.key_places.specs.Places.{place_of}
use Rattle.graph_model.specs.declared.columns.VertexColumns.{VertexColumns}
use Rattle.graph_model.specs.declared.columns.EdgeColumns.{EdgeColumns}
use Rattle.graph_slots.specs.declared.part.Part.{Part}
use Rattle.graph_slots.specs.declared.part.Part.TheVariants.{Cells}
use Rattle.graph_slots.specs.Meaning.{longs, cells, edge_rows}

-- the place that a number tells; one below 0 tells none
abbrev pub place_of_number : ℤ → ℕ
place_of_number (pos n) = n
place_of_number (negsuc n) = 0

-- the places that numbers tell
abbrev pub places_told : List ℤ → List ℕ
places_told ns = map place_of_number ns

-- numbers that are places of a table of vertices
pub record ArePlaces (ns : List ℤ) : Type 0 where
  pub told : ns ≡ map pos (places_told ns)
  pub small : All (λ place. place < 1048576) (places_told ns)

-- numbers are a column of INTEGERs
abbrev pub integers : List ℤ → Part
integers ns = cells kind.Integer (map Integer ns)

-- the key part, then a part for each property
abbrev pub vertex_parts : VertexColumns → List Part
vertex_parts c = longs c.keys ∷ map Cells c.values

-- the key part, then those that tell where the edges start and end, then a part for each property
abbrev pub edge_parts : EdgeColumns → List Part
edge_parts c =
    longs c.keys ∷ integers c.sources ∷ integers c.destinations ∷ edge_rows (places_told c.sources) ∷ edge_rows (places_told c.destinations) ∷ map Cells c.values

-- how many values a column has
abbrev pub cells_of : ColumnData → ℕ
cells_of c = length c.values

-- a step for each value of each part
abbrev pub vertex_steps : VertexColumns → ℕ
vertex_steps c = length c.keys + sum_by cells_of c.values

abbrev pub edge_steps : EdgeColumns → ℕ
edge_steps c = length c.keys + (length c.sources + length c.destinations) + (length c.sources + length c.destinations) + sum_by cells_of c.values

-- what the columns of a vertex table keep
pub record IsVertexTable (c : VertexColumns) : Type 0 where
  pub few : length c.keys < 4294967296
  pub places : (k : ℤ) → place_of c.places k ≡ position (λ q. int_eq q k) c.keys

-- what the columns of an edge table keep
pub record IsEdgeTable (c : EdgeColumns) : Type 0 where
  pub few : length c.keys < 4294967296
  pub few_sources : length c.sources < 4294967295
  pub few_destinations : length c.destinations < 4294967295
  pub sources : ArePlaces c.sources
  pub destinations : ArePlaces c.destinations
  pub places : (k : ℤ) → place_of c.places k ≡ position (λ q. int_eq q k) c.keys
