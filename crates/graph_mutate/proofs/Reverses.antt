-- a graph with a reverse_edge for each edge
use Rattle.std.proofs.Common.{◌≡◌, ℕ, zero, suc, ◌+◌, ◌≤◌, ℤ, pos, negsuc, ◌+ℤ◌, Bool, true, false, not, List, [], ◌∷◌, ◌++◌, Some, None, length, map, refl, ap, sym, ◌∙◌, subst, arith, All, count_by, cond}
use Rattle.std.specs.Prelude.{nat_lt, ◌<ℤ◌, ◌≤ℤ◌, ◌==◌, IsTrue}
use Rattle.std.specs.List.{AllZip}
use Rattle.std.specs.Ordering.{int_eq}
use Rattle.std.proofs.lemmas.Bool.Decides.{nat_tests, Decides-int_eq}
use Rattle.std.proofs.lemmas.Int.{ints, fold-int_max_bounds, by_lt_z}
use Rattle.std.proofs.lemmas.List.Elements.{All-cons, All-append, All-filter}
use Rattle.std.proofs.lemmas.List.Sums.{sum_by-cons, sum_by-append}
use Rattle.graph_schema.specs.declared.schema.EdgeTable.{EdgeTable}
use Rattle.graph_model.specs.declared.row.VertexRow.{VertexRow}
use Rattle.graph_model.specs.declared.row.EdgeRow.{EdgeRow}
use Rattle.graph_schema.specs.declared.schema.Keys.{Keys}
use Rattle.graph_schema.specs.declared.schema.Keys.TheVariants.{Whole, PerTable}
use Rattle.graph_model.specs.Keys.{rows_at, count_in, key_count, AreDistinct}
use Rattle.graph_model.specs.Graph.{GraphData, IsGraph, IsEdge, AreEdges, has_vertex_in, edge_key, edge_total, cell_total, most_edges, most_cells}
use Rattle.graph_model.proofs.Rows.{or_false}
use Rattle.graph_columns.proofs.Standing.{rows_within}
use Rattle.graph_mutate.specs.Undirected.{is_loop, straight, reverse_edge, reverses, with_reverses, greatest_in, greatest_of, greatest_key, undirected, mixed_from, mixed_table, is_too_big}

-- ---- the ends and the values of reverses

reverse_is : (vertices : List (List VertexRow)) (x : EdgeTable) (k : ℤ) (r : EdgeRow) → x.source ≡ x.destination → IsEdge vertices x r → IsEdge vertices x (reverse_edge k r)
reverse_is vertices x k r same e = record {
  values = e.values;
  source = subst (λ t. IsTrue (has_vertex_in r.destination (rows_at vertices t))) (sym same) e.destination;
  destination = subst (λ t. IsTrue (has_vertex_in r.source (rows_at vertices t))) same e.source;
}

reverses_are : (vertices : List (List VertexRow)) (x : EdgeTable) (k : ℤ) (rows : List EdgeRow) → x.source ≡ x.destination → All (IsEdge vertices x) rows → All (IsEdge vertices x) (reverses k rows)
reverses_are vertices x k [] same all = λ i d h. absurd (omega arith)
reverses_are vertices x k (r ∷ rows) same all =
    All-cons (IsEdge vertices x) (reverse_edge (k +ℤ pos 1) r) (reverses (k +ℤ pos 1) rows) (reverse_is vertices x (k +ℤ pos 1) r same (all 0 r (omega arith)))
    (reverses_are vertices x (k +ℤ pos 1) rows same (λ i d h. all (suc i) d (omega arith)))

table_is : (vertices : List (List VertexRow)) (x : EdgeTable) (k : ℤ) (rows : List EdgeRow) → x.source ≡ x.destination → AreEdges vertices x rows → AreEdges vertices x (rows ++ reverses k (straight rows))
table_is vertices x k rows same all =
    All-append (IsEdge vertices x) rows (reverses k (straight rows)) all (reverses_are vertices x k (straight rows) same (All-filter (λ r. not (is_loop r)) (IsEdge vertices x) rows all))

not_mixed_by : (x : EdgeTable) (xs : List EdgeTable) (t : ℕ) (b : Bool) → (x.source == x.destination) ≡ b → cond b (mixed_from (t + 1) xs) (Some t) ≡ None → (x.source ≡ x.destination) × (mixed_from (t + 1) xs ≡ None)
not_mixed_by x xs t true f h = (grind (arith, nat_tests), h)
not_mixed_by x xs t false f h = cc

-- a table before the first mixed one
pub not_mixed : (x : EdgeTable) (xs : List EdgeTable) (t : ℕ) → mixed_from t (x ∷ xs) ≡ None → (x.source ≡ x.destination) × (mixed_from (t + 1) xs ≡ None)
not_mixed x xs t e = not_mixed_by x xs t (x.source == x.destination) refl e

tables_are : (vertices : List (List VertexRow)) (t : ℕ) (k : ℤ) (shapes : List EdgeTable) (tables : List (List EdgeRow)) → mixed_from t shapes ≡ None → AllZip (AreEdges vertices) shapes tables → AllZip (AreEdges vertices) shapes (with_reverses k tables)
tables_are vertices t k [] [] none all = all
tables_are vertices t k [] (rows ∷ tables) none all = absurd all
tables_are vertices t k (x ∷ shapes) [] none all = absurd all
tables_are vertices t k (x ∷ shapes) (rows ∷ tables) none all =
    let here = not_mixed x shapes t none in
    (table_is vertices x k rows here.0 all.0, tables_are vertices (t + 1) (k +ℤ pos (length (straight rows))) shapes tables here.1 all.1)

-- ---- the keys of reverses

-- how many reverses of a table, and of all tables, have a key
abbrev hits : ℤ → ℤ → List EdgeRow → ℕ
hits q k rows = count_by (λ r. int_eq r.key q) (reverses k rows)

all_hits : ℤ → ℤ → List (List EdgeRow) → ℕ
all_hits q k [] = 0
all_hits q k (rows ∷ tables) = hits q k (straight rows) + all_hits q (k +ℤ pos (length (straight rows))) tables

keys_with : (q k : ℤ) (tables : List (List EdgeRow)) → key_count edge_key q (with_reverses k tables) ≡ key_count edge_key q tables + all_hits q k tables
unfolding all_hits
keys_with q k [] = refl
keys_with q k (rows ∷ tables) =
    let p = λ (r : EdgeRow). int_eq r.key q in
    let n = length (straight rows) in
    omega (
      arith,
      sum_by-cons (λ (rs : List EdgeRow). count_by p rs) (rows ++ reverses k (straight rows)) (with_reverses (k +ℤ pos n) tables),
      sum_by-cons (λ (rs : List EdgeRow). count_by p rs) rows tables,
      sum_by-append (λ (r : EdgeRow). cond {A = ℕ} (p r) 1 0) rows (reverses k (straight rows)),
      keys_with q (k +ℤ pos n) tables,
    )

not_same : (a b : ℤ) (c : Bool) → int_eq b a ≡ c → (b ≡ a → ⊥) → c ≡ false
not_same a b true e h = absurd (h ((Decides-int_eq b a).0 e))
not_same a b false e h = refl

apart : (a b : ℤ) → a <ℤ b → int_eq b a ≡ false
apart a b h = not_same a b (int_eq b a) refl (λ same. omega (arith, ints, same))

apart_below : (a b : ℤ) → b <ℤ a → int_eq b a ≡ false
apart_below a b h = not_same a b (int_eq b a) refl (λ same. omega (arith, ints, same))

no_hit : {X : Type 0} (p : X → Bool) (x : X) (xs : List X) → p x ≡ false → count_by p (x ∷ xs) ≡ count_by p xs
no_hit p x xs e = omega (arith, sum_by-cons (λ y. cond {A = ℕ} (p y) 1 0) x xs, ap (λ b. cond {A = ℕ} b 1 0) e)

-- none has a key up to k
none_below : (q k : ℤ) (rows : List EdgeRow) → q ≤ℤ k → hits q k rows ≡ 0
none_below q k [] h = refl
none_below q k (r ∷ rows) h =
    no_hit (λ (x : EdgeRow). int_eq x.key q) (reverse_edge (k +ℤ pos 1) r) (reverses (k +ℤ pos 1) rows) (apart q (k +ℤ pos 1) (omega (arith, ints)))
    ∙ none_below q (k +ℤ pos 1) rows (omega (arith, ints))

-- none has a key past k by more than there are rows
none_above : (q k : ℤ) (rows : List EdgeRow) → (k +ℤ pos (length rows)) <ℤ q → hits q k rows ≡ 0
none_above q k [] h = refl
none_above q k (r ∷ rows) h =
    no_hit (λ (x : EdgeRow). int_eq x.key q) (reverse_edge (k +ℤ pos 1) r) (reverses (k +ℤ pos 1) rows) (apart_below q (k +ℤ pos 1) (omega (arith, ints)))
    ∙ none_above q (k +ℤ pos 1) rows (omega (arith, ints))

one_by : {X : Type 0} (p : X → Bool) (x : X) (xs : List X) (b : Bool) → p x ≡ b → (b ≡ true → count_by p xs ≡ 0) → count_by p xs ≤ 1 → count_by p (x ∷ xs) ≤ 1
one_by p x xs true e none few = omega (arith, none refl, sum_by-cons (λ y. cond {A = ℕ} (p y) 1 0) x xs, ap (λ b. cond {A = ℕ} b 1 0) e)
one_by p x xs false e none few = omega (arith, few, no_hit p x xs e)

at_most_one : (q k : ℤ) (rows : List EdgeRow) → hits q k rows ≤ 1
at_most_one q k [] = omega arith
at_most_one q k (r ∷ rows) =
    one_by (λ (x : EdgeRow). int_eq x.key q) (reverse_edge (k +ℤ pos 1) r) (reverses (k +ℤ pos 1) rows) (int_eq (k +ℤ pos 1) q) refl
    (λ e. let same : k +ℤ pos 1 ≡ q = (Decides-int_eq (k +ℤ pos 1) q).0 e in none_below q (k +ℤ pos 1) rows (omega (arith, ints, same)))
    (at_most_one q (k +ℤ pos 1) rows)

none_of_all : (q k : ℤ) (tables : List (List EdgeRow)) → q ≤ℤ k → all_hits q k tables ≡ 0
unfolding all_hits
none_of_all q k [] h = refl
none_of_all q k (rows ∷ tables) h = omega (arith, none_below q k (straight rows) h, none_of_all q (k +ℤ pos (length (straight rows))) tables (omega (arith, ints)))

one_of_all : (q k : ℤ) (tables : List (List EdgeRow)) → all_hits q k tables ≤ 1
unfolding all_hits
one_of_all q k [] = omega arith
one_of_all q k (rows ∷ tables) =
    let n = length (straight rows) in
    by_lt_z (k +ℤ pos n) q
    (λ above. omega (arith, none_above q k (straight rows) above, one_of_all q (k +ℤ pos n) tables))
    (λ below. omega (arith, at_most_one q k (straight rows), none_of_all q (k +ℤ pos n) tables below))

-- ---- the greatest key

up_to : (q k : ℤ) (rows : List EdgeRow) → All (λ z. z ≤ℤ k) (map edge_key rows) → k <ℤ q → count_in edge_key q rows ≡ 0
up_to q k [] all h = refl
up_to q k (r ∷ rows) all h =
    let here : r.key ≤ℤ k = all 0 r.key (omega arith) in
    no_hit (λ (x : EdgeRow). int_eq x.key q) r rows (apart_below q r.key (omega (arith, ints, here)))
    ∙ up_to q k rows (λ i d l. all (suc i) d (omega arith)) h

-- none of the old keys is past the greatest
none_past : (q k : ℤ) (tables : List (List EdgeRow)) → greatest_of k tables <ℤ q → (k ≤ℤ greatest_of k tables) × (key_count edge_key q tables ≡ 0)
none_past q k [] h = (omega (arith, ints), refl)
none_past q k (rows ∷ tables) h =
    let here = fold-int_max_bounds k (map edge_key rows) (greatest_in k rows) refl in
    let rest = none_past q (greatest_in k rows) tables h in
    let low : k ≤ℤ greatest_in k rows = here.0 in
    let high : greatest_in k rows ≤ℤ greatest_of k (rows ∷ tables) = rest.0 in
    let mine = up_to q (greatest_in k rows) rows here.1 (omega (arith, ints, high)) in
    (omega (arith, ints, low, high), omega (arith, mine, rest.1, sum_by-cons (λ (rs : List EdgeRow). count_by (λ r. int_eq r.key q) rs) rows tables))

-- ---- keys differ

-- how many rows of one table have a key
record TableKeys (q k : ℤ) (tables : List (List EdgeRow)) (t : ℕ) : Type 0 where
  more : ℕ
  count : count_in edge_key q (rows_at (with_reverses k tables) t) ≡ count_in edge_key q (rows_at tables t) + more
  few : more ≤ all_hits q k tables

table_keys : (q k : ℤ) (tables : List (List EdgeRow)) (t : ℕ) → TableKeys q k tables t
unfolding all_hits
table_keys q k [] t = record { more = 0; count = refl; few = omega arith }
table_keys q k (rows ∷ tables) zero = record {
  more = hits q k (straight rows);
  count = sum_by-append (λ (r : EdgeRow). cond {A = ℕ} (int_eq r.key q) 1 0) rows (reverses k (straight rows));
  few = omega arith;
}
table_keys q k (rows ∷ tables) (suc t) =
    let rest = table_keys q (k +ℤ pos (length (straight rows))) tables t in
    record { more = rest.more; count = rest.count; few = omega (arith, rest.few) }

distinct_reverses : (keys : Keys) (least : ℤ) (tables : List (List EdgeRow)) → AreDistinct keys edge_key tables → AreDistinct keys edge_key (with_reverses (greatest_of least tables) tables)
distinct_reverses Whole least tables differ = λ q.
    let k = greatest_of least tables in
    by_lt_z k q
    (λ past. omega (arith, keys_with q k tables, (none_past q least tables past).1, one_of_all q k tables))
    (λ old. omega (arith, keys_with q k tables, differ q, none_of_all q k tables old))
distinct_reverses PerTable least tables differ = λ q t.
    let k = greatest_of least tables in
    let here = table_keys q k tables t in
    by_lt_z k q
    (λ past. omega (arith, here.count, here.few, (none_past q least tables past).1, one_of_all q k tables, rows_within (count_in edge_key q) tables t refl))
    (λ old. omega (arith, here.count, here.few, differ q t, none_of_all q k tables old))

-- ---- the graph

pub undirected_is : (g : GraphData) → IsGraph g → mixed_table g ≡ None → is_too_big g ≡ false → IsGraph (undirected g)
undirected_is g is none small =
    let both = or_false (nat_lt most_edges (edge_total (undirected g))) (nat_lt most_cells (cell_total (undirected g))) small in
    record {
      schema = is.schema;
      vertices = is.vertices;
      edges = tables_are g.vertices 0 (greatest_key g) g.schema.edges g.edges none is.edges;
      vertex_keys = is.vertex_keys;
      edge_keys = distinct_reverses g.schema.keys (negsuc 9223372036854775807) g.edges is.edge_keys;
      few_vertices = is.few_vertices;
      few_edges = grind (arith, nat_tests, both.0);
      few_cells = grind (arith, nat_tests, both.1);
    }
