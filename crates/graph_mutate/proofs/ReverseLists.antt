-- lists that tell a table with reverses
use Rattle.std.proofs.Common.{◌≡◌, ℕ, zero, suc, ◌+◌, ◌<◌, ℤ, pos, ◌+ℤ◌, List, [], ◌∷◌, ◌++◌, None, Some, All, length, map, slice_get, take, sum_by, refl, ap, sym, ◌∙◌, subst, arith, length-append}
use Rattle.std.specs.List.{range_with_len}
use Rattle.std.proofs.lemmas.Int.{ints}
use Rattle.std.proofs.lemmas.List.{length-map, map-append}
use Rattle.std.proofs.lemmas.List.Elements.{All-append}
use Rattle.std.proofs.lemmas.List.FromFn.{length-range_with_len, get_or-range_with_len, length-map-range_with_len}
use Rattle.std.proofs.lemmas.List.Sums.{sum_by-cons}
use Rattle.graph_schema.specs.declared.schema.EdgeTable.{EdgeTable}
use Rattle.graph_model.specs.declared.row.VertexRow.{VertexRow}
use Rattle.graph_model.specs.declared.row.EdgeRow.{EdgeRow}
use Rattle.graph_model.specs.Keys.{rows_at}
use Rattle.graph_model.proofs.Zips.{AllZip-length}
use Rattle.graph_model.specs.Graph.{GraphData, IsGraph, edge_key, edge_values, source_at, destination_at, source_table, destination_table}
use Rattle.graph_slots.specs.Meaning.{source_places, destination_places, place_in}
use Rattle.graph_columns.specs.Keys.{edge_keys_at}
use Rattle.graph_mutate.specs.declared.edge_lists.EdgeLists.{EdgeLists}
use Rattle.std.proofs.Math.Seq.{take-append_seam}
use Rattle.graph_slots.proofs.SlotAt.{get_right}
use Rattle.graph_mutate.specs.Laws.{HasReverses}
use Rattle.graph_mutate.specs.Taken.{taken}
use Rattle.graph_mutate.specs.EdgeTables.{Tells}
use Rattle.graph_mutate.specs.Undirected.{keys_after, last_key}
use Rattle.graph_mutate.specs.Undirected.{straight, reverse_edge, reverses, with_reverses, greatest_key, undirected, mixed_from, mixed_table}
use Rattle.graph_mutate.proofs.Gathering.{map-taken, taken-append, taken_all, length-taken}
use Rattle.graph_mutate.proofs.Reverses.{not_mixed}

-- the rows of one table and their reverses
pub reverses_at : (k : ℤ) (tables : List (List EdgeRow)) (t : ℕ) → t < length tables → rows_at (with_reverses k tables) t ≡ rows_at tables t ++ reverses (k +ℤ pos (sum_by (λ rows. length (straight rows)) (take t tables))) (straight (rows_at tables t))
reverses_at k [] t h = absurd (omega arith)
reverses_at k (rows ∷ tables) zero h = ap (λ z. rows ++ reverses z (straight rows)) (let e : k ≡ k +ℤ pos 0 = omega (arith, ints) in e)
reverses_at k (rows ∷ tables) (suc t) h =
    let n = length (straight rows) in
    let m = sum_by (λ (rs : List EdgeRow). length (straight rs)) (take t tables) in
    let total : sum_by (λ (rs : List EdgeRow). length (straight rs)) (rows ∷ take t tables) ≡ n + m = sum_by-cons (λ (rs : List EdgeRow). length (straight rs)) rows (take t tables) in
    reverses_at (k +ℤ pos n) tables t (omega arith)
    ∙ ap (λ z. rows_at tables t ++ reverses z (straight (rows_at tables t))) (let e : (k +ℤ pos n) +ℤ pos m ≡ k +ℤ pos (n + m) = omega (arith, ints) in e ∙ ap (λ j. k +ℤ pos j) (sym total))

pub reverses_map : {S : Type 0} (f h : EdgeRow → S) (k : ℤ) (rows : List EdgeRow) → ((z : ℤ) (r : EdgeRow) → f (reverse_edge z r) ≡ h r) → map f (reverses k rows) ≡ map h rows
reverses_map f h k [] same = refl
reverses_map f h k (r ∷ rows) same = ap (λ x. x ∷ map f (reverses (k +ℤ pos 1) rows)) (same (k +ℤ pos 1) r) ∙ ap (λ xs. h r ∷ xs) (reverses_map f h (k +ℤ pos 1) rows same)

keys_from : (k : ℤ) (a : ℕ) (rows : List EdgeRow) → map edge_key (reverses (k +ℤ pos a) rows) ≡ map (λ i. k +ℤ pos (i + 1)) (range_with_len a (length rows))
keys_from k a [] = refl
keys_from k a (r ∷ rows) =
    ap (λ z. z ∷ map edge_key (reverses ((k +ℤ pos a) +ℤ pos 1) rows)) (let e : (k +ℤ pos a) +ℤ pos 1 ≡ k +ℤ pos (a + 1) = omega (arith, ints) in e)
    ∙ ap (λ z. (k +ℤ pos (a + 1)) ∷ map edge_key (reverses z rows)) (let e : (k +ℤ pos a) +ℤ pos 1 ≡ k +ℤ pos (a + 1) = omega (arith, ints) in e)
    ∙ ap (λ zs. (k +ℤ pos (a + 1)) ∷ zs) (keys_from k (a + 1) rows)

pub reverse_keys : (k : ℤ) (rows : List EdgeRow) → map edge_key (reverses k rows) ≡ keys_after k (length rows)
reverse_keys k rows = ap (λ z. map edge_key (reverses z rows)) (let e : k ≡ k +ℤ pos 0 = omega (arith, ints) in e) ∙ keys_from k 0 rows

-- the two end tables are one
pub one_end : (t : ℕ) (shapes : List EdgeTable) (u : ℕ) → mixed_from t shapes ≡ None → source_table (slice_get shapes u) ≡ destination_table (slice_get shapes u)
one_end t [] u e = refl
one_end t (x ∷ shapes) zero e = (not_mixed x shapes t e).0
one_end t (x ∷ shapes) (suc u) e = one_end (t + 1) shapes u (not_mixed x shapes t e).1

pub range_within : (n : ℕ) → All (λ p. p < n) (range_with_len 0 n)
range_within n = λ i d h. omega (arith, get_or-range_with_len 0 n i d (omega (arith, length-range_with_len 0 n)), length-range_with_len 0 n)

-- the places of the edges that are no loops
pub record AreStraight (g : GraphData) (t : ℕ) (places : List ℕ) : Type 0 where
  pub taken_are : taken (rows_at g.edges t) places ≡ straight (rows_at g.edges t)
  pub within : All (λ p. p < length (rows_at g.edges t)) places

-- what a function gives of the edges that are no loops
of_straight : {S : Type 0} (g : GraphData) (t : ℕ) (places : List ℕ) (f : EdgeRow → S) → AreStraight g t places → taken (map f (rows_at g.edges t)) places ≡ map f (straight (rows_at g.edges t))
of_straight g t places f are = sym (map-taken f (rows_at g.edges t) places) ∙ ap (map f) are.taken_are

pub straight_long : (g : GraphData) (t : ℕ) (places : List ℕ) → AreStraight g t places → length places ≡ length (straight (rows_at g.edges t))
straight_long g t places are = sym (length-taken (rows_at g.edges t) places are.within) ∙ ap length are.taken_are

-- the ends of edges and of their reverse edges
ends_with : {S T : Type 0} (put : S → T) (rows : List EdgeRow) (places : List ℕ) (k : ℤ) (f h : EdgeRow → S) (ends : List T) → taken (map put (map h rows)) places ≡ map put (map h (straight rows)) → ((z : ℤ) (r : EdgeRow) → f (reverse_edge z r) ≡ h r) → ends ≡ map put (map f rows) ++ taken (map put (map h rows)) places → ends ≡ map put (map f (rows ++ reverses k (straight rows)))
ends_with put rows places k f h ends told turned is =
    is ∙ ap (λ es. map put (map f rows) ++ es) told
    ∙ ap (λ es. map put (map f rows) ++ map put es) (sym (reverses_map f h k (straight rows) turned))
    ∙ sym (map-append put (map f rows) (map f (reverses k (straight rows))))
    ∙ ap (map put) (sym (map-append f rows (reverses k (straight rows))))

-- lists of all edges of a table, with those of the reverse edges behind them
pub record WithReverses (g : GraphData) (t : ℕ) (places : List ℕ) (e : EdgeLists) : Type 0 where
  pub keys : e.keys ≡ edge_keys_at g t ++ keys_after (last_key g t) (length places)
  pub sources : e.sources ≡ map pos (source_places g t) ++ taken (map pos (destination_places g t)) places
  pub destinations : e.destinations ≡ map pos (destination_places g t) ++ taken (map pos (source_places g t)) places
  pub origins : e.origins ≡ range_with_len 0 (length (rows_at g.edges t)) ++ places

pub reverses_told : (g : GraphData) (t : ℕ) (places : List ℕ) (e : EdgeLists) → mixed_table g ≡ None → t < length g.edges → AreStraight g t places → WithReverses g t places e → Tells g (undirected g) t e
reverses_told g t places e none within are w =
    let rows = rows_at g.edges t in
    let all = range_with_len 0 (length rows) in
    let k = last_key g t in
    let news : rows_at (undirected g).edges t ≡ rows ++ reverses k (straight rows) = reverses_at (greatest_key g) g.edges t within in
    let one = one_end 0 g.schema.edges t none in
    let V : ℕ → List VertexRow = λ u. rows_at g.vertices u in
    let from : EdgeRow → ℕ = λ r. place_in (V (source_at g.schema t)) r.source in
    let to : EdgeRow → ℕ = λ r. place_in (V (destination_at g.schema t)) r.destination in
    let at_source = ap (λ u. taken (map pos (map (λ (r : EdgeRow). place_in (V u) r.destination) rows)) places) (sym one) in
    let at_destination = ap (λ u. taken (map pos (map (λ (r : EdgeRow). place_in (V u) r.source) rows)) places) one in
    let from_back : EdgeRow → ℕ = λ r. place_in (V (destination_at g.schema t)) r.source in
    let to_back : EdgeRow → ℕ = λ r. place_in (V (source_at g.schema t)) r.destination in
    let told : (f : EdgeRow → ℕ) → taken (map pos (map f rows)) places ≡ map pos (map f (straight rows)) = λ f. sym (map-taken pos (map f rows) places) ∙ ap (map pos) (of_straight g t places f are) in
    let old_values = of_straight g t places edge_values are in
    record {
      keys = w.keys
          ∙ ap (λ n. map edge_key rows ++ keys_after k n) (straight_long g t places are)
          ∙ ap (λ ks. map edge_key rows ++ ks) (sym (reverse_keys k (straight rows)))
          ∙ sym (map-append edge_key rows (reverses k (straight rows)))
          ∙ ap (map edge_key) (sym news);
      sources = ends_with pos rows places k from to_back e.sources (told to_back) (λ z r. refl) (w.sources ∙ ap (λ es. map pos (map from rows) ++ es) at_source) ∙ ap (λ rs. map pos (map from rs)) (sym news);
      destinations = ends_with pos rows places k to from_back e.destinations (told from_back) (λ z r. refl) (w.destinations ∙ ap (λ es. map pos (map to rows) ++ es) at_destination) ∙ ap (λ rs. map pos (map to rs)) (sym news);
      values = ap (map edge_values) news ∙ map-append edge_values rows (reverses k (straight rows))
          ∙ ap (λ vs. map edge_values rows ++ vs) (reverses_map edge_values edge_values k (straight rows) (λ z r. refl))
          ∙ ap (λ vs. map edge_values rows ++ vs) (sym old_values)
          ∙ ap (λ vs. vs ++ taken (map edge_values rows) places) (sym (ap (λ n. taken (map edge_values rows) (range_with_len 0 n)) (sym (length-map rows edge_values)) ∙ taken_all (map edge_values rows)))
          ∙ sym (taken-append (map edge_values rows) all places)
          ∙ ap (taken (map edge_values rows)) (sym w.origins);
      origins = subst (All (λ p. p < length rows)) (sym w.origins) (All-append (λ p. p < length rows) all places (range_within (length rows)) are.within);
    }

-- a graph has rows for each edge table
pub edges_within : (g : GraphData) (t : ℕ) → IsGraph g → t < length g.schema.edges → t < length g.edges
edges_within g t is small = omega (arith, small, AllZip-length _ _ _ is.edges)

-- ---- the law of reverse edges

reverse_at : (k : ℤ) (rows : List EdgeRow) (i : ℕ) (r : EdgeRow) → slice_get rows i ≡ Some r → slice_get (reverses k rows) i ≡ Some (reverse_edge (k +ℤ pos (i + 1)) r)
reverse_at k [] i r e = cc
reverse_at k (q ∷ rows) zero r e =
    let same : q ≡ r = cc in
    ap (λ x. Some (reverse_edge (k +ℤ pos 1) x)) same
reverse_at k (q ∷ rows) (suc i) r e =
    reverse_at (k +ℤ pos 1) rows i r e ∙ ap (λ z. Some (reverse_edge z r)) (let s : (k +ℤ pos 1) +ℤ pos (i + 1) ≡ k +ℤ pos (suc i + 1) = omega (arith, ints) in s)

pub has_reverses : (g : GraphData) (t : ℕ) → t < length g.edges → HasReverses g (undirected g) t
has_reverses g t within =
    let rows = rows_at g.edges t in
    let k = last_key g t in
    let news : rows_at (undirected g).edges t ≡ rows ++ reverses k (straight rows) = reverses_at (greatest_key g) g.edges t within in
    let long = ap length (reverse_keys k (straight rows)) in
    record {
      first = ap (take (length rows)) news ∙ take-append_seam rows (reverses k (straight rows));
      one_each = omega (arith, ap length news, length-append rows (reverses k (straight rows)), long, length-map (reverses k (straight rows)) edge_key, length-map-range_with_len (λ i. k +ℤ pos (i + 1)) 0 (length (straight rows)));
      reverse = λ i r e. ap (λ xs. slice_get xs (length rows + i)) news ∙ get_right rows (reverses k (straight rows)) i ∙ reverse_at k (straight rows) i r e;
    }
