-- A stored table on its way into columns: where the rows are that are still there, and what is taken of them.
use Rattle.std.specs.Prelude.{◌≡◌, ℕ, ◌<◌, ℤ, pos, Bool, not, filter, map, List, [], length, take, slice_index_or, slice_get, Some, position, IsTrue}
use Rattle.std.specs.List.{range_with_len, zip}
use Rattle.std.specs.Ordering.{int_eq}
use Rattle.column_types.specs.declared.kind.Kind.TheVariants as kind
use Rattle.column_types.specs.declared.value.Value.{Value}
use Rattle.column_types.specs.declared.value.Value.TheVariants.{Null}
use Rattle.column_types.specs.Column.{ColumnData}
use Rattle.key_places.specs.declared.index.KeyPlaces.{KeyPlaces}
use Rattle.key_places.specs.Places.{place_of}
use Rattle.graph_schema.specs.declared.schema.EdgeTable.{EdgeTable}
use Rattle.graph_model.specs.declared.columns.VertexColumns.{VertexColumns}
use Rattle.graph_model.specs.declared.columns.EdgeColumns.{EdgeColumns}
use Rattle.graph_model.specs.declared.ends.Ends.{Ends}
use Rattle.graph_model.specs.declared.parts.TableParts.{TableParts}
use Rattle.graph_model.specs.declared.places.EdgePlaces.{EdgePlaces}
use Rattle.graph_model.specs.Columns.{value_at}
use Rattle.graph_model.specs.Seats.{Seat, TableData, seat_key, live_seats, flag_at}
use Rattle.graph_model.specs.Graph.{source_table, destination_table}
use Rattle.graph_model.specs.Stored.{edge_is_live, table_at, seats_at, ends_at}

-- ---- rows that are still there

-- the row at a place is still there
abbrev pub is_kept : List Bool → ℕ → Bool
is_kept dead i = not (flag_at dead i)

-- the places of the first n rows, of those that are still there
abbrev pub kept_places : List Bool → ℕ → List ℕ
kept_places dead n = filter (is_kept dead) (range_with_len 0 n)

-- the keys, or the values of a column, at places
abbrev pub keys_of : List ℤ → List ℕ → List ℤ
keys_of keys places = map (λ i. slice_index_or keys i (pos 0)) places

abbrev pub values_of : ColumnData → List ℕ → List Value
values_of column places = map (λ i. slice_index_or column.values i Null) places

abbrev pub column_of : List ℕ → ColumnData → ColumnData
column_of places column = record { kind = column.kind; values = values_of column places }

-- ---- the parts of a table

-- an index tells of each key its place in a list of keys
abbrev pub TellsPlaces : List ℤ → KeyPlaces → Type 0
TellsPlaces keys places = (k : ℤ) → place_of places k ≡ position (int_eq k) keys

-- the column of a property of the rows that are still there
abbrev pub part_column : TableData → ℕ → ColumnData
part_column x p = record { kind = slice_index_or x.kinds p kind.Long; values = map (λ s. value_at p s.values) (live_seats x.seats) }

-- the rows of a table that are still there: keys, a column for each property, and where the keys stand
pub record ArePartsOf (x : TableData) (p : TableParts) : Type 0 where
  pub keys : p.keys ≡ map seat_key (live_seats x.seats)
  pub columns : p.columns ≡ map (part_column x) (range_with_len 0 (length x.kinds))
  pub places : TellsPlaces p.keys p.places

-- ---- places among the rows that are still there

-- how many rows before a seat are still there: where one sits, this is its place among them
abbrev pub rank : List Seat → ℕ → ℕ
rank seats i = length (live_seats (take i seats))

-- the place of a seat by a list of ranks; where the list has none it is the seat
abbrev pub place_by : List ℤ → ℕ → ℤ
place_by ranks i = slice_index_or ranks i (pos i)

-- a list gives the ranks of seats; it may be empty where all of them sit
pub record AreRanks (seats : List Seat) (ranks : List ℤ) : Type 0 where
  pub few : length seats < 2147483648
  pub told : (i : ℕ) → i < length seats → place_by ranks i ≡ pos (rank seats i)

-- the places where an edge starts and ends
abbrev pub source_place : List ℤ → Seat × Ends → ℤ
source_place ranks p = place_by ranks p.1.source

abbrev pub destination_place : List ℤ → Seat × Ends → ℤ
destination_place ranks p = place_by ranks p.1.destination

-- the seats of the ends of an edge that is there are below 2 ^ 31
abbrev pub HasFewEnds : Seat × Ends → Type 0
HasFewEnds p = IsTrue p.0.live → (p.1.source < 2147483648) × (p.1.destination < 2147483648)

-- the places of edges, by the ranks of the tables where they start and end
pub record ArePlacesOf (from to : List ℤ) (pairs : List (Seat × Ends)) (p : EdgePlaces) : Type 0 where
  pub sources : p.sources ≡ map (source_place from) (filter edge_is_live pairs)
  pub destinations : p.destinations ≡ map (destination_place to) (filter edge_is_live pairs)

-- ---- the columns of all tables

-- a list of so many items, each of which stands to its place as told
pub record AreEach {C : Type 0} (P : ℕ → C → Type 0) (n : ℕ) (xs : List C) : Type 0 where
  pub count : length xs ≡ n
  pub each : (i : ℕ) (x : C) → slice_get xs i ≡ Some x → P i x

-- the ranks of a table, none where there is no such table
abbrev pub ranks_at : List (List ℤ) → ℕ → List ℤ
ranks_at ranks t = slice_index_or ranks t []

-- ranks for each table
abbrev pub AreRanksOf : List TableData → List (List ℤ) → Type 0
AreRanksOf tables ranks = AreEach (λ t r. AreRanks (seats_at tables t) r) (length tables) ranks

-- the columns of a vertex table
pub record HasVertexParts (x : TableData) (c : VertexColumns) : Type 0 where
  pub keys : c.keys ≡ map seat_key (live_seats x.seats)
  pub values : c.values ≡ map (part_column x) (range_with_len 0 (length x.kinds))
  pub places : TellsPlaces c.keys c.places

abbrev pub HaveVertexParts : List TableData → List VertexColumns → Type 0
HaveVertexParts tables columns = AreEach (λ t c. HasVertexParts (table_at tables t) c) (length tables) columns

-- the columns of an edge table with these ends, by the ranks of the tables where it starts and ends
pub record HasEdgeParts (x : TableData) (ends : List Ends) (from to : List ℤ) (c : EdgeColumns) : Type 0 where
  pub keys : c.keys ≡ map seat_key (live_seats x.seats)
  pub sources : c.sources ≡ map (source_place from) (filter edge_is_live (zip x.seats ends))
  pub destinations : c.destinations ≡ map (destination_place to) (filter edge_is_live (zip x.seats ends))
  pub values : c.values ≡ map (part_column x) (range_with_len 0 (length x.kinds))
  pub places : TellsPlaces c.keys c.places

abbrev pub HasEdgePartsAt : List EdgeTable → List TableData → List (List Ends) → List (List ℤ) → ℕ → EdgeColumns → Type 0
HasEdgePartsAt shapes edges ends ranks u c =
    HasEdgeParts (table_at edges u) (ends_at ends u) (ranks_at ranks (source_table (slice_get shapes u))) (ranks_at ranks (destination_table (slice_get shapes u))) c
