-- How many ends of edges stand in each seat of a vertex table, and the lists that hold these numbers.
use Rattle.std.specs.Prelude.{◌≡◌, ℕ, ◌+◌, ◌≤◌, Bool, true, false, ◌&&◌, ◌==◌, List, [], length, slice_get, slice_index_or, slice_set, sum_by, if◌then◌else◌}
use Rattle.std.specs.List.{range_with_len}
use Rattle.graph_schema.specs.declared.schema.EdgeTable.{EdgeTable}
use Rattle.graph_schema.specs.Schema.{SchemaData}
use Rattle.graph_model.specs.declared.ends.Ends.{Ends}
use Rattle.graph_model.specs.Graph.{source_table, destination_table}
use Rattle.graph_model.specs.Seats.{Seat, TableData}
use Rattle.graph_model.specs.Stored.{pairs_at, IsStored}

-- ---- what is counted

abbrev pub one_if : Bool → ℕ
one_if true = 1
one_if false = 0

-- how many of an edge's two ends stand in seat i of vertex table t, where its table starts in table `from` and leads to table `to`
abbrev pub ends_there : ℕ → ℕ → ℕ → ℕ → Ends → ℕ
ends_there from to t i e = one_if (from == t && e.source == i) + one_if (to == t && e.destination == i)

-- the same of an edge that may have been taken out; then none does
abbrev pub live_ends_there : ℕ → ℕ → ℕ → ℕ → Seat × Ends → ℕ
live_ends_there from to t i p = if p.0.live then ends_there from to t i p.1 else 0

-- how many ends of the edges of table u stand there
abbrev pub end_count_in : List EdgeTable → List TableData → List (List Ends) → ℕ → ℕ → ℕ → ℕ
end_count_in shapes edges ends t i u =
    sum_by (live_ends_there (source_table (slice_get shapes u)) (destination_table (slice_get shapes u)) t i) (pairs_at edges ends u)

-- how many ends of the edges of all tables do
abbrev pub end_count : List EdgeTable → List TableData → List (List Ends) → ℕ → ℕ → ℕ
end_count shapes edges ends t i = sum_by (end_count_in shapes edges ends t i) (range_with_len 0 (length edges))

-- ---- the lists that hold the numbers

-- the numbers of a vertex table, for its first seats
abbrev pub counts_of : List (List ℕ) → ℕ → List ℕ
counts_of counts t = slice_index_or counts t []

-- the number of a seat; that of a seat behind the last is 0
abbrev pub count_at : List (List ℕ) → ℕ → ℕ → ℕ
count_at counts t i = slice_index_or (counts_of counts t) i 0

-- the lists with another number for a seat
abbrev pub with_count : List (List ℕ) → ℕ → ℕ → ℕ → List (List ℕ)
with_count counts t i n = slice_set counts t (slice_set (counts_of counts t) i n)

-- the lists hold the numbers of ends
pub record AreCounts (s : SchemaData) (edges : List TableData) (ends : List (List Ends)) (counts : List (List ℕ)) : Type 0 where
  pub lists : length counts ≡ length s.vertices
  pub each : (t i : ℕ) → count_at counts t i ≡ end_count s.edges edges ends t i

-- what every graph keeps of the way it is stored
pub record IsKept (s : SchemaData) (vertices edges : List TableData) (ends : List (List Ends)) (counts : List (List ℕ)) : Type 0 where
  pub stored : IsStored s vertices edges ends
  pub counted : AreCounts s edges ends counts

-- ---- what is made of the lists

-- a list became no shorter, and each seat has its number
pub record CountsGrow (before after : List (List ℕ)) : Type 0 where
  pub lists : length after ≡ length before
  pub long : (t : ℕ) → length (counts_of before t) ≤ length (counts_of after t)
  pub each : (t i : ℕ) → count_at after t i ≡ count_at before t i

-- an end in seat i of vertex table t is counted after and not before
pub record CountsOne (t i : ℕ) (before after : List (List ℕ)) : Type 0 where
  pub lists : length after ≡ length before
  pub long : (w : ℕ) → length (counts_of after w) ≡ length (counts_of before w)
  pub each : (w j : ℕ) → count_at after w j ≡ count_at before w j + one_if (t == w && i == j)

-- the two ends of an edge are counted after and not before
pub record CountsEnds (from to : ℕ) (e : Ends) (before after : List (List ℕ)) : Type 0 where
  pub lists : length after ≡ length before
  pub each : (t i : ℕ) → count_at after t i ≡ count_at before t i + ends_there from to t i e
