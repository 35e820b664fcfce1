-- the sides of the tables of a graph
use Rattle.std.proofs.Common.{◌≡◌, ℕ, ◌+◌, ◌<◌, ◌≤◌, pos, List, [], ◌∷◌, ◌++◌, All, length, map, take, get_or, slice_index, refl, ap, sym, ◌∙◌, subst, arith}
use Rattle.std.specs.Prelude.{flat_map, sum, sum_by}
use Rattle.std.specs.List.{range_with_len}
use Rattle.std.specs.Int.RustNames.{unsigned_abs}
use Rattle.std.proofs.lemmas.List.{length-map, append-nil}
use Rattle.std.proofs.lemmas.List.Elements.{All-map, All-same}
use Rattle.std.proofs.lemmas.List.Sums.{sum_by-take-le}
use Rattle.std.proofs.lemmas.Grind.{flat_map-append}
use Rattle.csr_rows.specs.Rows.{rows_of}
use Rattle.graph_model.specs.declared.row.VertexRow.{VertexRow}
use Rattle.graph_model.specs.declared.row.EdgeRow.{EdgeRow}
use Rattle.graph_model.specs.Keys.{rows_at}
use Rattle.graph_model.specs.Graph.{GraphData, IsGraph, edge_total, source_at, destination_at}
use Rattle.graph_model.proofs.Zips.{AllZip-length}
use Rattle.graph_slots.specs.declared.part.Part.TheVariants.{Rows}
use Rattle.graph_slots.specs.Meaning.{place_in, source_places, destination_places}
use Rattle.graph_slots.proofs.Kept.{ends_stand}
use Rattle.graph_snap.proofs.GraphOf.{place_found, ends_below}
use Rattle.algo_digraph.specs.declared.side.Side.{Side}
use Rattle.algo_digraph.specs.DigraphOf.{table_sizes, table_edges, ends_of}
use Rattle.algo_digraph.specs.Sides.{side_ends, all_ends, IsEnd, IsSide, IsSideOf}
use Rattle.algo_digraph.proofs.Lists.{map_pairs, numbers_back}
use Rattle.algo_digraph.proofs.Edges.{parts_more, edges_from}
use Rattle.algo_digraph.proofs.Orders.{one_within, table_within, size_at}

blank_vertex : VertexRow
blank_vertex = record { key = pos 0; values = [] }

-- a place of a table is that of a vertex
place_in_order : (g : GraphData) (t k : ℕ) → k < length (rows_at g.vertices t) → sum (take t (table_sizes g)) + k < sum (table_sizes g)
place_in_order g t k lt =
    let within : k < slice_index (table_sizes g) t = omega (arith, lt, size_at g.vertices t) in
    one_within (table_sizes g) t k (table_within (table_sizes g) t k within) within

module _ (g : GraphData) (t : ℕ) (is : IsGraph g) where
  -- the places where the edges of a table start and end
  pub sources_in : All (λ k. sum (take (source_at g.schema t) (table_sizes g)) + k < sum (table_sizes g)) (source_places g t)
  sources_in =
      All-map (λ k. sum (take (source_at g.schema t) (table_sizes g)) + k < sum (table_sizes g)) (λ (r : EdgeRow). place_in (rows_at g.vertices (source_at g.schema t)) r.source) (rows_at g.edges t)
      (λ i d lt. place_in_order g (source_at g.schema t) _ (place_found (get_or (rows_at g.edges t) i d).source (rows_at g.vertices (source_at g.schema t)) blank_vertex (ends_stand g t is i d lt).source).0)

  pub destinations_in : All (λ k. sum (take (destination_at g.schema t) (table_sizes g)) + k < sum (table_sizes g)) (destination_places g t)
  destinations_in =
      All-map (λ k. sum (take (destination_at g.schema t) (table_sizes g)) + k < sum (table_sizes g)) (λ (r : EdgeRow). place_in (rows_at g.vertices (destination_at g.schema t)) r.destination) (rows_at g.edges t)
      (λ i d lt. place_in_order g (destination_at g.schema t) _ (place_found (get_or (rows_at g.edges t) i d).destination (rows_at g.vertices (destination_at g.schema t)) blank_vertex (ends_stand g t is i d lt).destination).0)

  pub places_long : length (source_places g t) ≡ length (destination_places g t)
  places_long =
      length-map (rows_at g.edges t) (λ (r : EdgeRow). place_in (rows_at g.vertices (source_at g.schema t)) r.source)
      ∙ sym (length-map (rows_at g.edges t) (λ (r : EdgeRow). place_in (rows_at g.vertices (destination_at g.schema t)) r.destination))

-- a side of a table, beside the other
module _ (g : GraphData) (first from to : ℕ) (here there : List ℕ) (s o : Side) (side : IsSideOf g first from to here there s) (other : IsSideOf g first to from there here o)
    (long : length here ≡ length there) (within : All (λ k. sum (take to (table_sizes g)) + k < sum (table_sizes g)) there) where
  pub is_side : IsSide (sum (table_sizes g)) first s o
  is_side = record {
    number = side.number;
    long = ap length side.ends ∙ length-map there pos ∙ sym long ∙ sym (length-map here pos) ∙ ap length (sym other.ends);
    here = side.here_first ∙ sym other.there_first;
    rows = side.rows ∙ ap rows_of (sym (numbers_back here)) ∙ ap (λ zs. rows_of (map unsigned_abs zs)) (sym other.ends);
    ends = All-same (IsEnd (sum (table_sizes g)) s.there_first) s.there.now (map pos there) side.ends
        (All-map (IsEnd (sum (table_sizes g)) s.there_first) pos there (λ k d lt. (get_or there k d, refl, subst (λ f. f + get_or there k d < sum (table_sizes g)) (sym side.there_first) (within k d lt))));
  }

-- the ends of a side of a table
side_ends_are : (g : GraphData) (first from to : ℕ) (here there : List ℕ) (s : Side) → IsSideOf g first from to here there s → side_ends s ≡ map (λ k. sum (take to (table_sizes g)) + k) there
side_ends_are g first from to here there s side =
    ap (λ f. map (λ z. f + unsigned_abs z) s.there.now) side.there_first
    ∙ ap (map (λ z. sum (take to (table_sizes g)) + unsigned_abs z)) side.ends
    ∙ map_pairs (λ z. sum (take to (table_sizes g)) + unsigned_abs z) pos there

pub target_ends : (g : GraphData) (t first from : ℕ) (here : List ℕ) (s : Side) → IsSideOf g first from (destination_at g.schema t) here (destination_places g t) s → side_ends s ≡ map (λ p. p.1) (table_edges g t)
target_ends g t first from here s side =
    side_ends_are g first from (destination_at g.schema t) here (destination_places g t) s side
    ∙ map_pairs (λ k. sum (take (destination_at g.schema t) (table_sizes g)) + k) (λ (r : EdgeRow). place_in (rows_at g.vertices (destination_at g.schema t)) r.destination) (rows_at g.edges t)
    ∙ sym (map_pairs (λ (p : ℕ × ℕ). p.1) (ends_of g t) (rows_at g.edges t))

pub source_ends : (g : GraphData) (t first from : ℕ) (here : List ℕ) (s : Side) → IsSideOf g first from (source_at g.schema t) here (source_places g t) s → side_ends s ≡ map (λ p. p.0) (table_edges g t)
source_ends g t first from here s side =
    side_ends_are g first from (source_at g.schema t) here (source_places g t) s side
    ∙ map_pairs (λ k. sum (take (source_at g.schema t) (table_sizes g)) + k) (λ (r : EdgeRow). place_in (rows_at g.vertices (source_at g.schema t)) r.source) (rows_at g.edges t)
    ∙ sym (map_pairs (λ (p : ℕ × ℕ). p.0) (ends_of g t) (rows_at g.edges t))

ends_push : (sides : List Side) (s : Side) → all_ends (sides ++ s ∷ []) ≡ all_ends sides ++ side_ends s
ends_push sides s = flat_map-append side_ends sides (s ∷ []) ∙ ap (λ xs. all_ends sides ++ xs) (append-nil (side_ends s))

-- the ends so far, with those of one table more
pub ends_more : (h : ℕ × ℕ → ℕ) (g : GraphData) (t : ℕ) (sides after : List Side) (s : Side) → all_ends sides ≡ map h (flat_map (table_edges g) (range_with_len 0 t)) → side_ends s ≡ map h (table_edges g t) → after ≡ sides ++ s ∷ []
    → all_ends after ≡ map h (flat_map (table_edges g) (range_with_len 0 (t + 1)))
ends_more h g t sides after s so one is =
    parts_more (table_edges g) h t (all_ends sides) (all_ends after) so (ap all_ends is ∙ ends_push sides s ∙ ap (λ xs. all_ends sides ++ xs) one)

-- how many edges there are before a table
pub ends_count : (h : ℕ × ℕ → ℕ) (g : GraphData) (t : ℕ) (sides : List Side) → t ≤ length g.edges → all_ends sides ≡ map h (flat_map (table_edges g) (range_with_len 0 t)) → length (all_ends sides) ≡ sum_by length (take t g.edges)
ends_count h g t sides le so = ap length so ∙ length-map (flat_map (table_edges g) (range_with_len 0 t)) h ∙ edges_from g t le

pub edges_before : (g : GraphData) (t : ℕ) → sum_by length (take t g.edges) ≤ edge_total g
edges_before g t = sum_by-take-le length g.edges t

-- the vertex tables of both ends are there
pub ends_there : (g : GraphData) (t : ℕ) → IsGraph g → t < length g.schema.edges → (source_at g.schema t < length (table_sizes g)) × (destination_at g.schema t < length (table_sizes g))
ends_there g t is lt =
    let below = ends_below g.schema t is.schema lt in
    let long = AllZip-length _ _ _ is.vertices in
    (omega (arith, below.0, long, length-map g.vertices (length {A = VertexRow})), omega (arith, below.1, long, length-map g.vertices (length {A = VertexRow})))

pub same_rows : (a b : List (List ℕ)) → Rows a ≡ Rows b → a ≡ b
same_rows a b e = cc
