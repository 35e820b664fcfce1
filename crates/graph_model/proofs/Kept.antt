-- What changes make of a stored graph with its numbers of ends.
use Rattle.std.proofs.Common.{◌≡◌, ℕ, ℤ, ◌+◌, ◌*◌, ◌<◌, ◌≤◌, true, List, [], ◌∷◌, ◌++◌, length, get_or, set, refl, ap, sym, ◌∙◌, subst, arith, cond, replicate}
use Rattle.std.specs.List.{zip}
use Rattle.std.proofs.lemmas.List.{length-set, length-map, length-replicate}
use Rattle.column_types.specs.declared.value.Value.{Value}
use Rattle.graph_schema.specs.Schema.{SchemaData}
use Rattle.graph_model.specs.declared.ends.Ends.{Ends}
use Rattle.graph_model.specs.Graph.{source_at, destination_at}
use Rattle.graph_model.specs.Seats.{Seat, TableData, seated, vacated, left, reset, with_value, no_seat}
use Rattle.graph_model.specs.Stored.{table_at, seats_at, ends_at, pairs_at, IsStored, PutsEnds, no_ends, no_pair, kinds_of_props}
use Rattle.graph_model.specs.Counts.{ends_there, live_ends_there, end_count, count_at, counts_of, AreCounts, IsKept, CountsGrow, CountsEnds}
use Rattle.graph_model.proofs.StoredRows.{edge_total_is, no_edges, no_vertices, no_seats_at}
use Rattle.graph_model.proofs.StoredVertices.{FoundAt}
use Rattle.graph_model.proofs.StoredEdges.{pairs_other, pairs_here, pair_at, place, changed_pairs, other_pairs, same_pairs}
use Rattle.graph_model.proofs.EndCounts.{count_more, count_set, count_same, count_none, count_few}
use Rattle.graph_model.proofs.CountLists.{none_at}

pub grown_counted : (s : SchemaData) (edges : List TableData) (ends : List (List Ends)) (counts after : List (List ℕ)) → AreCounts s edges ends counts → CountsGrow counts after → AreCounts s edges ends after
grown_counted s edges ends counts after are grow = record {
  lists = grow.lists ∙ are.lists;
  each = λ t i. grow.each t i ∙ are.each t i;
}

module _ (s : SchemaData) (vertices edges : List TableData) (ends : List (List Ends)) (is : IsStored s vertices edges ends) where
  -- the numbers are far below what a u32 holds
  pub counts_few : (counts : List (List ℕ)) → AreCounts s edges ends counts → (t i : ℕ) → count_at counts t i < 4294967290
  counts_few counts are t i =
      omega (
        arith,
        are.each t i,
        count_few s.edges edges ends is.long t i,
        edge_total_is s vertices edges ends is.long,
        is.graph.few_edges,
      )

  module _ (t : ℕ) (put : Ends) (ends₂ : List (List Ends)) (puts : PutsEnds t (length (seats_at edges t)) put ends ends₂) where
    pub spare_counted : (counts : List (List ℕ)) → AreCounts s edges ends counts → AreCounts s edges ends₂ counts
    spare_counted counts are = record {
      lists = are.lists;
      each = λ w j. are.each w j ∙ sym (count_same s.edges edges ends ends₂ (same_pairs s vertices edges ends is t put ends₂ puts) w j);
    }

    module _ (within : t < length edges) (k a b : ℤ) (vs : List Value) where
      abbrev after : List TableData
      after = set edges t (record { kinds = (table_at edges t).kinds; seats = seated (seats_at edges t) k vs })

      insert_counts : (w j : ℕ) → end_count s.edges after ends₂ w j ≡ end_count s.edges edges ends w j + ends_there (source_at s t) (destination_at s t) w j put
      insert_counts =
          count_more s.edges edges after ends ends₂ t within (length-set edges t (record { kinds = (table_at edges t).kinds; seats = seated (seats_at edges t) k vs }))
          (pairs_other s vertices edges ends is t within k a b vs put ends₂ puts) (record { key = k; values = vs; live = true }) put refl
          (pairs_here s vertices edges ends is t within k a b vs put ends₂ puts)

      pub insert_counted : (counts between new : List (List ℕ)) → AreCounts s edges ends counts → CountsGrow counts between → CountsEnds (source_at s t) (destination_at s t) put between new → AreCounts s after ends₂ new
      insert_counted counts between new are grow count = record {
        lists = count.lists ∙ grow.lists ∙ are.lists;
        each = λ w j. omega (arith, count.each w j, grow.each w j, are.each w j, insert_counts w j);
      }

  module _ (t : ℕ) (within : t < length edges) (k : ℤ) (i : ℕ) (found : FoundAt (seats_at edges t) k i) where
    abbrev changed_table : (Seat → Seat) → List TableData
    changed_table f = set edges t (record { kinds = (table_at edges t).kinds; seats = set (seats_at edges t) i (f (get_or (seats_at edges t) i no_seat)) })

    abbrev weight : ℕ → ℕ → Seat × Ends → ℕ
    weight w j p = live_ends_there (source_at s t) (destination_at s t) w j p

    changed_count : (f : Seat → Seat) (w j : ℕ) → end_count s.edges (changed_table f) ends w j + weight w j (get_or (pairs_at edges ends t) i no_pair) ≡ end_count s.edges edges ends w j + weight w j (f (get_or (pairs_at edges ends t) i no_pair).0, (get_or (pairs_at edges ends t) i no_pair).1)
    changed_count f =
        count_set s.edges edges (changed_table f) ends ends t within (length-set edges t (record { kinds = (table_at edges t).kinds; seats = set (seats_at edges t) i (f (get_or (seats_at edges t) i no_seat)) }))
        (other_pairs s vertices edges ends is t within k i found (set (seats_at edges t) i (f (get_or (seats_at edges t) i no_seat))))
        i (f (get_or (pairs_at edges ends t) i no_pair).0, (get_or (pairs_at edges ends t) i no_pair).1) no_pair (place s vertices edges ends is t within k i found) (changed_pairs s vertices edges ends is t within k i found f)

    pub set_counted : (p : ℕ) (v : Value) (counts : List (List ℕ)) → AreCounts s edges ends counts → AreCounts s (changed_table (with_value p v)) ends counts
    set_counted p v counts are = record {
      lists = are.lists;
      each = λ w j. omega (arith, are.each w j, changed_count (with_value p v) w j);
    }

    weight_here : (w j : ℕ) → weight w j (get_or (pairs_at edges ends t) i no_pair) ≡ ends_there (source_at s t) (destination_at s t) w j (get_or (ends_at ends t) i no_ends)
    weight_here w j =
        ap (weight w j) (pair_at s vertices edges ends is t within k i found)
        ∙ ap (λ b. cond b (ends_there (source_at s t) (destination_at s t) w j (get_or (ends_at ends t) i no_ends)) 0) found.live

    gone_count : (w j : ℕ) → end_count s.edges (changed_table left) ends w j + ends_there (source_at s t) (destination_at s t) w j (get_or (ends_at ends t) i no_ends) ≡ end_count s.edges edges ends w j
    gone_count w j = omega (arith, changed_count left w j, weight_here w j)

    pub ends_counted : (counts : List (List ℕ)) → AreCounts s edges ends counts → (w j : ℕ) → ends_there (source_at s t) (destination_at s t) w j (get_or (ends_at ends t) i no_ends) ≤ count_at counts w j
    ends_counted counts are w j = omega (arith, gone_count w j, are.each w j)

    pub delete_counted : (counts new : List (List ℕ)) → AreCounts s edges ends counts → CountsEnds (source_at s t) (destination_at s t) (get_or (ends_at ends t) i no_ends) new counts → AreCounts s (changed_table left) ends new
    delete_counted counts new are count = record {
      lists = sym count.lists ∙ are.lists;
      each = λ w j. omega (arith, count.each w j, are.each w j, gone_count w j);
    }

-- ---- tables without rows

pub empty_counted : (s : SchemaData) (n m : ℕ) → m ≡ length (no_vertices s n) → AreCounts s (no_edges s n) (replicate n []) (replicate m [])
empty_counted s n m same = record {
  lists = length-replicate {A = List ℕ} m [] ∙ same ∙ length-map s.vertices (λ x. record { kinds = kinds_of_props x.props; seats = [] });
  each = λ t i. none_at m t i ∙ sym (count_none s.edges (no_edges s n) (replicate n []) (λ w. ap (λ (l : List Seat). zip l (ends_at (replicate n []) w)) (no_seats_at s.edges w)) t i);
}
