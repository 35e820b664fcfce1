-- The text of a graph.
use Rattle.std.specs.Prelude.{ℕ, ℤ, List, [], ◌∷◌, ◌++◌, codes}
use Rattle.std.specs.List.{flat_map, enumerate_from}
use Rattle.std.specs.Fmt.{decimal, signed_decimal}
use Rattle.column_types.specs.declared.value.Value.{Value}
use Rattle.column_types.specs.Printing.{printed}
use Rattle.graph_schema.specs.declared.schema.VertexTable.{VertexTable}
use Rattle.graph_schema.specs.declared.schema.EdgeTable.{EdgeTable}
use Rattle.graph_model.specs.declared.row.VertexRow.{VertexRow}
use Rattle.graph_model.specs.declared.row.EdgeRow.{EdgeRow}
use Rattle.graph_model.specs.Graph.{GraphData, vertex_total, edge_total}
use Rattle.journal_text.specs.Ends.{leaving, entering}

-- a number, with one space before it
abbrev pub spaced_number : ℤ → List ℕ
spaced_number n = codes " " ++ signed_decimal n

-- a value, with one space before it
abbrev pub spaced_value : Value → List ℕ
spaced_value v = codes " " ++ printed v

-- `WORD TABLE KEY`, with two spaces before it
abbrev pub heading : List ℕ → List ℕ → ℤ → List ℕ
heading word table key = codes "  " ++ word ++ codes " " ++ table ++ spaced_number key

-- `v TABLE KEY` and the values
abbrev pub vertex_line : VertexTable → VertexRow → List ℕ
vertex_line table v = heading (codes "v") table.name v.key ++ flat_map spaced_value v.values ++ codes "\n"

-- `e TABLE KEY SOURCE DESTINATION` and the values
abbrev pub edge_line : EdgeTable → EdgeRow → List ℕ
edge_line table e =
    heading (codes "e") table.name e.key ++ spaced_number e.source ++ spaced_number e.destination
    ++ flat_map spaced_value e.values ++ codes "\n"

-- `WORD TABLE KEY:` and the keys of edges
abbrev pub keys_line : List ℕ → VertexTable → ℤ → List ℤ → List ℕ
keys_line word table key edges = heading word table.name key ++ codes ":" ++ flat_map spaced_number edges ++ codes "\n"

-- the two lines of the vertex of a key of a vertex table, told by its place and its shape: the edges that leave the vertex, and
-- those that enter it
abbrev pub two_lines : GraphData → ℕ × VertexTable → ℤ → List ℕ
two_lines g table key =
    keys_line (codes "out") table.1 key (leaving g table.0 key)
    ++ keys_line (codes "in") table.1 key (entering g table.0 key)

-- the same of a vertex
abbrev pub ends_of_vertex : GraphData → ℕ × VertexTable → VertexRow → List ℕ
ends_of_vertex g table v = two_lines g table v.key

-- the lines of all rows, by tables and then by places in the table; each is told by its table and itself
abbrev pub by_tables : {T R : Type 0} → (T → R → List ℕ) → List T → List (List R) → List ℕ
by_tables line [] rows = []
by_tables line (t ∷ ts) [] = []
by_tables line (t ∷ ts) (rows ∷ more) = flat_map (line t) rows ++ by_tables line ts more

-- `ok V E` with the numbers of vertices and edges
abbrev pub count_line : GraphData → List ℕ
count_line g = codes "  ok " ++ decimal (vertex_total g) ++ codes " " ++ decimal (edge_total g) ++ codes "\n"

-- the reply lines: the counts, the vertices, the edges, and for each vertex the edges at it
abbrev pub text_of : GraphData → List ℕ
text_of g =
    count_line g
    ++ by_tables vertex_line g.schema.vertices g.vertices
    ++ by_tables edge_line g.schema.edges g.edges
    ++ by_tables (ends_of_vertex g) (enumerate_from 0 g.schema.vertices) g.vertices
