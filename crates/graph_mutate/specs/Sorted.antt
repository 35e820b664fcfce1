-- A graph whose vertices stand by falling degree.
use Rattle.std.specs.Prelude.{ℕ, ◌+◌, ◌==◌, ℤ, nat_lt, if◌then◌else◌, List, [], ◌∷◌, length, count_by, sum_by}
use Rattle.std.specs.List.{range_with_len}
use Rattle.std.specs.Ordering.{int_eq}
use Rattle.graph_model.specs.declared.row.VertexRow.{VertexRow}
use Rattle.graph_model.specs.Keys.{rows_at}
use Rattle.graph_model.specs.Graph.{GraphData, source_at, destination_at}

-- how many edges of edge table e start, or end, at the vertex of key k in vertex table t
abbrev pub starts_in : GraphData → ℕ → ℤ → ℕ → ℕ
starts_in g t k e = if source_at g.schema e == t then count_by (λ r. int_eq r.source k) (rows_at g.edges e) else 0

abbrev pub ends_in : GraphData → ℕ → ℤ → ℕ → ℕ
ends_in g t k e = if destination_at g.schema e == t then count_by (λ r. int_eq r.destination k) (rows_at g.edges e) else 0

-- how many edge ends the vertex is, out and in, over all edge tables. A loop counts twice
abbrev pub degree : GraphData → ℕ → ℤ → ℕ
degree g t k = sum_by (λ e. starts_in g t k e + ends_in g t k e) (range_with_len 0 (length g.schema.edges))

-- an item before all whose number is not greater
abbrev pub put_falling : {X : Type 0} → (X → ℕ) → X → List X → List X
put_falling n x [] = x ∷ []
put_falling n x (y ∷ ys) = if nat_lt (n x) (n y) then y ∷ put_falling n x ys else x ∷ y ∷ ys

-- items by falling number, those of one number in their old order
abbrev pub falling : {X : Type 0} → (X → ℕ) → List X → List X
falling n [] = []
falling n (x ∷ xs) = put_falling n x (falling n xs)

-- the degree of a vertex of table t
abbrev pub row_degree : GraphData → ℕ → VertexRow → ℕ
row_degree g t r = degree g t r.key

-- the vertices of tables by falling degree, the first of which is the t-th
abbrev pub by_degree : GraphData → ℕ → List (List VertexRow) → List (List VertexRow)
by_degree g t [] = []
by_degree g t (rows ∷ tables) = falling (row_degree g t) rows ∷ by_degree g (t + 1) tables

-- each vertex table stands by falling degree; edges keep their order
abbrev pub sorted : GraphData → GraphData
sorted g = record { schema = g.schema; vertices = by_degree g 0 g.vertices; edges = g.edges }
