-- A graph without loops, and with one edge alone for each pair of ends.
use Rattle.std.specs.Prelude.{Bool, not, ◌&&◌, ◌==◌, if◌then◌else◌, List, [], ◌∷◌, ◌++◌, map}
use Rattle.std.specs.List.{list_any, zip}
use Rattle.std.specs.Ordering.{int_eq}
use Rattle.graph_schema.specs.declared.schema.EdgeTable.{EdgeTable}
use Rattle.graph_model.specs.declared.row.EdgeRow.{EdgeRow}
use Rattle.graph_model.specs.Graph.{GraphData}
use Rattle.graph_mutate.specs.Undirected.{is_loop}

-- an edge table starts and ends in one vertex table. Only then an edge whose ends have one key is a loop, since two vertex tables
-- may use the same keys
abbrev pub has_loops : EdgeTable → Bool
has_loops x = x.source == x.destination

-- two edges of a table from one vertex to one vertex
abbrev pub same_ends : EdgeRow → EdgeRow → Bool
same_ends q r = int_eq q.source r.source && int_eq q.destination r.destination

-- an edge stays where it is no loop, and none of the edges before it has the same ends
abbrev pub stays : Bool → List EdgeRow → EdgeRow → Bool
stays loops before r = not (loops && is_loop r) && not (list_any (same_ends r) before)

-- the edges that stay, where those of the first list come before
abbrev pub simple_from : Bool → List EdgeRow → List EdgeRow → List EdgeRow
simple_from loops before [] = []
simple_from loops before (r ∷ rows) =
    if stays loops before r then r ∷ simple_from loops (before ++ r ∷ []) rows else simple_from loops (before ++ r ∷ []) rows

-- the edges of a table that stay
abbrev pub simple : EdgeTable → List EdgeRow → List EdgeRow
simple x rows = simple_from (has_loops x) [] rows

-- each edge table has the edges that stay
abbrev pub simplified : GraphData → GraphData
simplified g = record { schema = g.schema; vertices = g.vertices; edges = map (λ p. simple p.0 p.1) (zip g.schema.edges g.edges) }
