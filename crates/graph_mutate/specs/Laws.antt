-- What changed graphs are, in words that speak of single edges.
use Rattle.std.specs.Prelude.{◌≡◌, ◌==◌, ◌≤◌, ℕ, ◌+◌, pos, ◌+ℤ◌, ◌&&◌, false, List, All, Contains, Some, length, slice_get, take, filter}
use Rattle.std.specs.List.{AllPairs, list_any}
use Rattle.graph_schema.specs.declared.schema.EdgeTable.{EdgeTable}
use Rattle.graph_model.specs.declared.row.VertexRow.{VertexRow}
use Rattle.graph_model.specs.declared.row.EdgeRow.{EdgeRow}
use Rattle.graph_model.specs.Keys.{rows_at}
use Rattle.graph_model.specs.Graph.{GraphData}
use Rattle.graph_mutate.specs.Undirected.{is_loop, straight, reverse_edge, last_key}
use Rattle.graph_mutate.specs.Simplified.{has_loops, same_ends}

-- an edge table of the new graph has the edges of the old one first, and then a reverse edge of each of them that is no loop, in
-- order. Their keys follow one another
pub record HasReverses (old new : GraphData) (t : ℕ) : Type 0 where
  pub first : take (length (rows_at old.edges t)) (rows_at new.edges t) ≡ rows_at old.edges t
  pub one_each : length (rows_at new.edges t) ≡ length (rows_at old.edges t) + length (straight (rows_at old.edges t))
  pub reverse : (i : ℕ) (r : EdgeRow) → slice_get (straight (rows_at old.edges t)) i ≡ Some r → slice_get (rows_at new.edges t) (length (rows_at old.edges t) + i) ≡ Some (reverse_edge (last_key old t +ℤ pos (i + 1)) r)

-- of the edges of a table those are left that are no loops, one of each pair of ends, and that is the first
pub record IsSimple (x : EdgeTable) (old new : List EdgeRow) : Type 0 where
  pub no_loop : All (λ r. (has_loops x && is_loop r) ≡ false) new
  pub one_each : AllPairs (λ q r. same_ends q r ≡ false) new
  pub first_stays : (i : ℕ) (r : EdgeRow) → slice_get old i ≡ Some r → (has_loops x && is_loop r) ≡ false → list_any (same_ends r) (take i old) ≡ false → Contains new r

-- vertices by falling number: none has a greater one than a vertex before it, and those of the number of any vertex q are the old
-- ones in their old order
pub record IsSorted (number : VertexRow → ℕ) (old new : List VertexRow) : Type 0 where
  pub falls : AllPairs (λ q r. number r ≤ number q) new
  pub stable : (q : VertexRow) → filter (λ r. number q == number r) new ≡ filter (λ r. number q == number r) old
  pub same : length new ≡ length old
