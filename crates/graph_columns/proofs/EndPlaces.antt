-- the places where edges start and end
use Rattle.std.proofs.Common.{ℕ, ◌<◌, ◌≤◌, List, All, length, get_or, refl, arith}
use Rattle.std.specs.Ordering.{int_eq}
use Rattle.std.proofs.lemmas.List.Elements.{All-map}
use Rattle.graph_model.specs.declared.row.VertexRow.{VertexRow}
use Rattle.graph_model.specs.declared.row.EdgeRow.{EdgeRow}
use Rattle.graph_model.specs.Keys.{rows_at}
use Rattle.graph_model.specs.Graph.{GraphData, IsGraph, source_at, destination_at}
use Rattle.graph_slots.specs.Meaning.{place_in, source_places, destination_places}
use Rattle.graph_slots.proofs.Kept.{ends_stand}
use Rattle.graph_columns.proofs.Standing.{place_there, rows_within}

-- each end is a row of its table
pub sources_below : (g : GraphData) (t : ℕ) → IsGraph g → All (λ p. p < length (rows_at g.vertices (source_at g.schema t))) (source_places g t)
sources_below g t is =
    let rows = rows_at g.vertices (source_at g.schema t) in
    let stand = ends_stand g t is in
    All-map (λ p. p < length rows) (λ (r : EdgeRow). place_in rows r.source) (rows_at g.edges t)
    (λ i d l. (place_there (λ r. int_eq r.key (get_or (rows_at g.edges t) i d).source) rows (stand i d l).source).within)

pub destinations_below : (g : GraphData) (t : ℕ) → IsGraph g → All (λ p. p < length (rows_at g.vertices (destination_at g.schema t))) (destination_places g t)
destinations_below g t is =
    let rows = rows_at g.vertices (destination_at g.schema t) in
    let stand = ends_stand g t is in
    All-map (λ p. p < length rows) (λ (r : EdgeRow). place_in rows r.destination) (rows_at g.edges t)
    (λ i d l. (place_there (λ r. int_eq r.key (get_or (rows_at g.edges t) i d).destination) rows (stand i d l).destination).within)

-- tables are as small as the graph's limits
pub few_vertices_in : (g : GraphData) (t : ℕ) → IsGraph g → length (rows_at g.vertices t) ≤ 1048576
few_vertices_in g t is = omega (arith, is.few_vertices, rows_within (λ (rows : List VertexRow). length rows) g.vertices t refl)

pub few_edges_in : (g : GraphData) (t : ℕ) → IsGraph g → length (rows_at g.edges t) ≤ 4194304
few_edges_in g t is = omega (arith, is.few_edges, rows_within (λ (rows : List EdgeRow). length rows) g.edges t refl)
