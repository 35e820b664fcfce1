-- How a graph is stored: tables of seats, and for each edge the seats where it starts and ends.
use Rattle.std.specs.Prelude.{◌≡◌, ℕ, ◌+◌, ◌≤◌, ℤ, Bool, ◌&&◌, ◌||◌, ◌==◌, filter, map, List, [], ◌∷◌, ◌++◌, Option, Some, None, length, slice_get, slice_index_or, slice_set, take, sum_by, All, IsTrue}
use Rattle.std.specs.List.{AllZip, list_any, range_with_len, zip}
use Rattle.column_types.specs.declared.kind.Kind.{Kind}
use Rattle.graph_schema.specs.declared.schema.Keys.{Keys}
use Rattle.graph_schema.specs.declared.schema.Keys.TheVariants.{Whole, PerTable}
use Rattle.graph_schema.specs.declared.schema.Prop.{Prop}
use Rattle.graph_schema.specs.declared.schema.VertexTable.{VertexTable}
use Rattle.graph_schema.specs.declared.schema.EdgeTable.{EdgeTable}
use Rattle.graph_schema.specs.Schema.{SchemaData}
use Rattle.graph_model.specs.declared.row.VertexRow.{VertexRow}
use Rattle.graph_model.specs.declared.row.EdgeRow.{EdgeRow}
use Rattle.graph_model.specs.declared.ends.Ends.{Ends}
use Rattle.graph_model.specs.Seats.{Seat, TableData, live_seats, no_seat, sits, sits_at, key_at}
use Rattle.graph_model.specs.Graph.{GraphData, IsGraph, source_at, destination_at, source_table, destination_table}

-- ---- tables

abbrev pub no_table : TableData
no_table = record { kinds = []; seats = [] }

abbrev pub table_at : List TableData → ℕ → TableData
table_at tables t = slice_index_or tables t no_table

-- the seats of a table, none where there is no such table
abbrev pub seats_at : List TableData → ℕ → List Seat
seats_at tables t = (table_at tables t).seats

-- a key that no new row of table t can have, as `is_taken` says of rows
abbrev pub key_sits : Keys → ℤ → List TableData → ℕ → Bool
key_sits Whole k tables t = list_any (λ x. list_any (sits k) x.seats) tables
key_sits PerTable k tables t = list_any (sits k) (seats_at tables t)

-- how many rows all tables have, and how many values
abbrev pub live_total : List TableData → ℕ
live_total tables = sum_by (λ x. length (live_seats x.seats)) tables

abbrev pub live_cells : List TableData → ℕ
live_cells tables = sum_by (λ x. sum_by (λ s. length s.values) (live_seats x.seats)) tables

-- ---- the rows that stored tables stand for

abbrev pub vertex_row : Seat → VertexRow
vertex_row s = record { key = s.key; values = s.values }

abbrev pub vertex_rows : TableData → List VertexRow
vertex_rows x = map vertex_row (live_seats x.seats)

-- the ends of the edges of a table, by their seats; there may be one more, which the next edge writes over
abbrev pub ends_at : List (List Ends) → ℕ → List Ends
ends_at ends t = slice_index_or ends t []

abbrev pub edge_is_live : Seat × Ends → Bool
edge_is_live p = p.0.live

-- an edge starts and ends at the keys of the rows that were put in the seats of its ends
abbrev pub edge_row : List Seat → List Seat → Seat × Ends → EdgeRow
edge_row from to p = record { key = p.0.key; source = key_at from p.1.source; destination = key_at to p.1.destination; values = p.0.values }

abbrev pub edge_rows : List Seat → List Seat → List (Seat × Ends) → List EdgeRow
edge_rows from to pairs = map (edge_row from to) (filter edge_is_live pairs)

-- no edge
abbrev pub no_ends : Ends
no_ends = record { source = 0; destination = 0 }

abbrev pub no_pair : Seat × Ends
no_pair = (no_seat, no_ends)

-- the seats of an edge table with their ends
abbrev pub pairs_at : List TableData → List (List Ends) → ℕ → List (Seat × Ends)
pairs_at edges ends u = zip (seats_at edges u) (ends_at ends u)

abbrev pub edge_rows_at : SchemaData → List TableData → List TableData → List (List Ends) → ℕ → List EdgeRow
edge_rows_at s vertices edges ends u =
    edge_rows (seats_at vertices (source_at s u)) (seats_at vertices (destination_at s u)) (pairs_at edges ends u)

-- the graph that is stored
abbrev pub stored_graph : SchemaData → List TableData → List TableData → List (List Ends) → GraphData
stored_graph s vertices edges ends = record {
  schema = s;
  vertices = map vertex_rows vertices;
  edges = map (edge_rows_at s vertices edges ends) (range_with_len 0 (length edges));
}

-- ---- what a stored graph keeps

abbrev pub kinds_of_props : List Prop → List Kind
kinds_of_props props = map (λ p. p.kind) props

abbrev pub HasVertexKinds : VertexTable → TableData → Type 0
HasVertexKinds x t = t.kinds ≡ kinds_of_props x.props

abbrev pub HasEdgeKinds : EdgeTable → TableData → Type 0
HasEdgeKinds x t = t.kinds ≡ kinds_of_props x.props

-- where an edge is there, rows sit in the seats of its ends
abbrev pub EndsSit : List Seat → List Seat → Seat × Ends → Type 0
EndsSit from to p = IsTrue p.0.live → IsTrue (sits_at from p.1.source) × IsTrue (sits_at to p.1.destination)

pub record IsStored (s : SchemaData) (vertices edges : List TableData) (ends : List (List Ends)) : Type 0 where
  pub graph : IsGraph (stored_graph s vertices edges ends)
  pub vertex_kinds : AllZip HasVertexKinds s.vertices vertices
  pub edge_kinds : AllZip HasEdgeKinds s.edges edges
  pub lists : length ends ≡ length edges
  pub long : (u : ℕ) → length (seats_at edges u) ≤ length (ends_at ends u)
  pub sit : (u : ℕ) → All (EndsSit (seats_at vertices (source_at s u)) (seats_at vertices (destination_at s u))) (pairs_at edges ends u)

-- ---- where edges end

-- the seats of an edge's ends, where both keys sit
abbrev pub both_ends : Option ℕ → Option ℕ → Option Ends
both_ends None d = None
both_ends (Some i) None = None
both_ends (Some i) (Some j) = Some (record { source = i; destination = j })

-- an edge that is there starts in seat i, where its table starts in the table of the seat, or ends in it likewise
abbrev pub is_seat_end : Bool → Bool → ℕ → Seat × Ends → Bool
is_seat_end starts leads i p = p.0.live && ((starts && p.1.source == i) || (leads && p.1.destination == i))

-- some edge of edge table u starts or ends in seat i of vertex table t
abbrev pub seat_ends_in : List EdgeTable → List TableData → List (List Ends) → ℕ → ℕ → ℕ → Bool
seat_ends_in shapes edges ends t i u =
    list_any (is_seat_end (source_table (slice_get shapes u) == t) (destination_table (slice_get shapes u) == t) i) (pairs_at edges ends u)

-- ---- ends put at a place of a table

pub record PutsEnds (t place : ℕ) (put : Ends) (before after : List (List Ends)) : Type 0 where
  pub others : after ≡ slice_set before t (ends_at after t)
  pub here : take (place + 1) (ends_at after t) ≡ take place (ends_at before t) ++ put ∷ []
