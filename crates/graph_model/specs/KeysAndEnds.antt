-- What keys tell and what an end is, in words that speak of single rows.
use Rattle.std.specs.Prelude.{◌≡◌, ◌<◌, ◌⊎◌, ℕ, ℤ, List, length, Some, slice_get}
use Rattle.graph_schema.specs.Schema.{SchemaData}
use Rattle.graph_model.specs.declared.row.EdgeRow.{EdgeRow}
use Rattle.graph_model.specs.Keys.{rows_at}
use Rattle.graph_model.specs.Graph.{source_at, destination_at}

-- the row at place i of table t
abbrev pub IsRowAt : {R : Type 0} → List (List R) → ℕ → ℕ → R → Type 0
IsRowAt tables t i r = slice_get (rows_at tables t) i ≡ Some r

-- two rows of one key are one row, wherever they stand
abbrev pub KeysNameRows : {R : Type 0} → (R → ℤ) → List (List R) → Type 0
KeysNameRows {R} key tables =
    (s t i j : ℕ) (a b : R) → IsRowAt tables s i a → IsRowAt tables t j b → key a ≡ key b → (s ≡ t) × (i ≡ j)

-- two rows of one key in one table are one row
abbrev pub KeysNameRowsOfTables : {R : Type 0} → (R → ℤ) → List (List R) → Type 0
KeysNameRowsOfTables {R} key tables =
    (t i j : ℕ) (a b : R) → IsRowAt tables t i a → IsRowAt tables t j b → key a ≡ key b → i ≡ j

-- an edge of edge table u starts at the vertex of key k in vertex table t, or ends at it
abbrev pub StartsOrEndsAt : SchemaData → ℕ → ℤ → ℕ → EdgeRow → Type 0
StartsOrEndsAt s t k u r = ((source_at s u ≡ t) × (r.source ≡ k)) ⊎ ((destination_at s u ≡ t) × (r.destination ≡ k))

-- some edge does
abbrev pub SomeEdgeEndsAt : SchemaData → ℕ → ℤ → List (List EdgeRow) → Type 0
SomeEdgeEndsAt s t k edges =
    (u : ℕ) × (i : ℕ) × (r : EdgeRow) × (u < length s.edges) × IsRowAt edges u i r × StartsOrEndsAt s t k u r
