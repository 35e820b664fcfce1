-- A graph with a reverse edge for each edge.
use Rattle.std.specs.Prelude.{int_lt, ℕ, ◌+◌, ℤ, pos, negsuc, ◌+ℤ◌, Bool, not, ◌&&◌, ◌||◌, ◌==◌, nat_lt, if◌then◌else◌, List, [], ◌∷◌, ◌++◌, length, map, filter, fold, take, Option, Some, None, sum_by}
use Rattle.std.specs.List.{range_with_len}
use Rattle.std.specs.Int.{int_max}
use Rattle.std.specs.Ordering.{int_eq}
use Rattle.graph_schema.specs.declared.schema.EdgeTable.{EdgeTable}
use Rattle.graph_model.specs.declared.row.EdgeRow.{EdgeRow}
use Rattle.graph_model.specs.Graph.{GraphData, edge_key, edge_total, cell_total, most_edges, most_cells}

-- an edge that ends where it starts. A graph with an edge table that starts and ends in two vertex tables is refused, so the
-- ends of an edge are one vertex where their keys are equal
abbrev pub is_loop : EdgeRow → Bool
is_loop r = int_eq r.source r.destination

-- the edges that are no loops
abbrev pub straight : List EdgeRow → List EdgeRow
straight rows = filter (λ r. not (is_loop r)) rows

-- an edge the other way, with the same values and a key of its own
abbrev pub reverse_edge : ℤ → EdgeRow → EdgeRow
reverse_edge k r = record { key = k; source = r.destination; destination = r.source; values = r.values }

-- the reverse edges of edges in order, with the keys after k
abbrev pub reverses : ℤ → List EdgeRow → List EdgeRow
reverses k [] = []
reverses k (r ∷ rows) = reverse_edge (k +ℤ pos 1) r ∷ reverses (k +ℤ pos 1) rows

-- each table, and behind it the reverse edges of its edges that are no loops, with the keys after k by tables and places
abbrev pub with_reverses : ℤ → List (List EdgeRow) → List (List EdgeRow)
with_reverses k [] = []
with_reverses k (rows ∷ tables) = (rows ++ reverses k (straight rows)) ∷ with_reverses (k +ℤ pos (length (straight rows))) tables

-- the greatest of k and the keys of a table, and of all tables
abbrev pub greatest_in : ℤ → List EdgeRow → ℤ
greatest_in k rows = fold int_max k (map edge_key rows)

abbrev pub greatest_of : ℤ → List (List EdgeRow) → ℤ
greatest_of k tables = fold greatest_in k tables

-- the greatest key of all edges; the least LONG where there is no edge
abbrev pub greatest_key : GraphData → ℤ
greatest_key g = greatest_of (negsuc 9223372036854775807) g.edges

-- each edge table has a reverse edge for each of its edges that is no loop
abbrev pub undirected : GraphData → GraphData
undirected g = record { schema = g.schema; vertices = g.vertices; edges = with_reverses (greatest_key g) g.edges }

-- ---- when it is refused

-- the first edge table whose end tables differ, where the first of the tables is the t-th
abbrev pub mixed_from : ℕ → List EdgeTable → Option ℕ
mixed_from t [] = None
mixed_from t (x ∷ xs) = if x.source == x.destination then mixed_from (t + 1) xs else Some t

abbrev pub mixed_table : GraphData → Option ℕ
mixed_table g = mixed_from 0 g.schema.edges

-- how many reverse edges there are
abbrev pub reverse_total : GraphData → ℕ
reverse_total g = sum_by (λ rows. length (straight rows)) g.edges

-- there are reverse edges, and their keys would pass the greatest LONG
abbrev pub keys_are_spent : GraphData → Bool
keys_are_spent g = nat_lt 0 (reverse_total g) && int_lt (pos 9223372036854775807) (greatest_key g +ℤ pos (reverse_total g))

-- the graph would pass the limit of edges or of cells
abbrev pub is_too_big : GraphData → Bool
is_too_big g = nat_lt most_edges (edge_total (undirected g)) || nat_lt most_cells (cell_total (undirected g))

-- ---- keys of reverse edges

-- n keys after k
abbrev pub keys_after : ℤ → ℕ → List ℤ
keys_after k n = map (λ i. k +ℤ pos (i + 1)) (range_with_len 0 n)

-- the last key before those of a table's reverse edges
abbrev pub last_key : GraphData → ℕ → ℤ
last_key g t = greatest_key g +ℤ pos (sum_by (λ rows. length (straight rows)) (take t g.edges))
