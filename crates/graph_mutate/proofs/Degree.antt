-- how many edge ends a vertex is
use Rattle.std.proofs.Common.{◌≡◌, ℕ, suc, ◌+◌, ◌<◌, ◌≤◌, ℤ, pos, Bool, true, false, ◌==◌, List, [], ◌∷◌, ◌++◌, Some, All, length, get_or, map, slice_get, cond, sum_by, count_by, refl, ap, sym, ◌∙◌, arith}
use Rattle.std.specs.Ordering.{int_eq}
use Rattle.std.proofs.lemmas.Bool.Decides.{nat_tests, Decides-int_eq}
use Rattle.std.proofs.lemmas.List.{length-map}
use Rattle.std.specs.List.{range_with_len}
use Rattle.std.proofs.lemmas.List.Sums.{sum_by-cons, sum_by_push}
use Rattle.std.proofs.lemmas.Option.{slice_get_within, slice_get-get_or, same_Some}
use Rattle.csr_rows.specs.Rows.{places_from, places_of}
use Rattle.graph_model.specs.declared.row.VertexRow.{VertexRow}
use Rattle.graph_model.specs.declared.row.EdgeRow.{EdgeRow}
use Rattle.graph_model.specs.Keys.{rows_at}
use Rattle.graph_model.specs.Graph.{GraphData, IsGraph, has_vertex_in, vertex_key, source_at, destination_at}
use Rattle.graph_model.proofs.Distinct.{names_rows_of_tables}
use Rattle.graph_slots.specs.Meaning.{place_in, source_places, destination_places}
use Rattle.graph_slots.proofs.Kept.{ends_stand}
use Rattle.graph_columns.specs.Keys.{vertex_keys_at}
use Rattle.graph_columns.proofs.EndPlaces.{few_edges_in}
use Rattle.graph_snap.specs.Reading.{out_places, in_places}
use Rattle.graph_snap.proofs.GraphOf.{place_found}
use Rattle.graph_snap.proofs.Readers.{got}
use Rattle.graph_mutate.specs.Sorted.{starts_in, ends_in}
use Rattle.graph_mutate.proofs.EdgeTables.{range_more}

-- as many places as ends that are the one
length_case : (b : Bool) (first : ℕ) (xs : List ℕ) (n : ℕ) → length xs ≡ n → length (cond b (first ∷ xs) xs) ≡ cond {A = ℕ} b 1 0 + n
length_case true first xs n h = omega (arith, h)
length_case false first xs n h = omega (arith, h)

places_counted : (first : ℕ) (ends : List ℕ) (i : ℕ) → length (places_from first ends i) ≡ count_by (λ e. e == i) ends
places_counted first [] i = refl
places_counted first (e ∷ ends) i =
    length_case (e == i) first (places_from (first + 1) ends i) (count_by (λ x. x == i) ends) (places_counted (first + 1) ends i)
    ∙ sym (sum_by-cons (λ x. cond {A = ℕ} (x == i) 1 0) e ends)

pub blank : VertexRow
blank = record { key = pos 0; values = [] }

-- the vertex of a key that stands at a place
pub key_row : (g : GraphData) (t place : ℕ) (key : ℤ) → slice_get (vertex_keys_at g t) place ≡ Some key → (r : VertexRow) × ((slice_get (rows_at g.vertices t) place ≡ Some r) × (r.key ≡ key))
key_row g t place key there =
    let rows = rows_at g.vertices t in
    let within : place < length rows = omega (arith, slice_get_within (map vertex_key rows) place key there, length-map rows vertex_key) in
    let r = get_or rows place blank in
    (r, (slice_get-get_or rows place blank within, same_Some _ _ (sym (got vertex_key rows place blank within) ∙ there)))

-- it is the place of that key
pub place_is : (g : GraphData) (t place : ℕ) (key : ℤ) → IsGraph g → has_vertex_in key (rows_at g.vertices t) ≡ true → slice_get (vertex_keys_at g t) place ≡ Some key → place_in (rows_at g.vertices t) key ≡ place
place_is g t place key is has there =
    let rows = rows_at g.vertices t in
    let r = key_row g t place key there in
    let found = place_found key rows blank has in
    names_rows_of_tables g.schema.keys vertex_key g.vertices is.vertex_keys t (place_in rows key) place (get_or rows (place_in rows key) blank) r.0
    (slice_get-get_or rows (place_in rows key) blank found.0) r.1.0 (found.1 ∙ sym r.1.1)

unlike : (m n : ℕ) (b : Bool) → (m == n) ≡ b → (m ≡ n → ⊥) → b ≡ false
unlike m n true e h = let same : m ≡ n = grind (arith, nat_tests) in absurd (h same)
unlike m n false e h = refl

alike : (m n : ℕ) → m ≡ n → (m == n) ≡ true
alike m n e = grind (arith, nat_tests)

same_by : (g : GraphData) (t place : ℕ) (k key : ℤ) (b : Bool) → int_eq k key ≡ b → IsGraph g → has_vertex_in k (rows_at g.vertices t) ≡ true → slice_get (vertex_keys_at g t) place ≡ Some key → b ≡ (place_in (rows_at g.vertices t) k == place)
same_by g t place k key true e is has there =
    let same : k ≡ key = (Decides-int_eq k key).0 e in
    sym (alike (place_in (rows_at g.vertices t) k) place (place_is g t place k is has (there ∙ ap Some (sym same))))
same_by g t place k key false e is has there =
    let rows = rows_at g.vertices t in
    let found = place_found k rows blank has in
    let r = key_row g t place key there in
    sym (unlike (place_in rows k) place (place_in rows k == place) refl
    (λ at.
    let row : get_or rows (place_in rows k) blank ≡ r.0 = same_Some _ _ (sym (slice_get-get_or rows (place_in rows k) blank found.0) ∙ ap (slice_get rows) at ∙ r.1.0) in
    let keys : k ≡ key = sym found.1 ∙ ap vertex_key row ∙ r.1.1 in
    let equal = (Decides-int_eq k key).1 keys in cc))

counted_at : (g : GraphData) (t place : ℕ) (key : ℤ) → IsGraph g → slice_get (vertex_keys_at g t) place ≡ Some key → (f : EdgeRow → ℤ) (rows : List EdgeRow) → All (λ r. has_vertex_in (f r) (rows_at g.vertices t) ≡ true) rows → count_by (λ r. int_eq (f r) key) rows ≡ count_by (λ e. e == place) (map (λ r. place_in (rows_at g.vertices t) (f r)) rows)
counted_at g t place key is there f [] all = refl
counted_at g t place key is there f (r ∷ rows) all =
    let here = ap (λ b. cond {A = ℕ} b 1 0) (same_by g t place (f r) key (int_eq (f r) key) refl is (all 0 r (omega arith)) there) in
    let rest = counted_at g t place key is there f rows (λ i d h. all (suc i) d (omega arith)) in
    omega (
      arith,
      here,
      rest,
      sum_by-cons (λ (x : EdgeRow). cond {A = ℕ} (int_eq (f x) key) 1 0) r rows,
      sum_by-cons (λ (n : ℕ). cond {A = ℕ} (n == place) 1 0) (place_in (rows_at g.vertices t) (f r)) (map (λ x. place_in (rows_at g.vertices t) (f x)) rows),
    )

out_by : (g : GraphData) (t place e : ℕ) (key : ℤ) (b : Bool) → (source_at g.schema e == t) ≡ b → IsGraph g → slice_get (vertex_keys_at g t) place ≡ Some key → length (cond b (places_of (source_places g e) place) []) ≡ cond {A = ℕ} b (count_by (λ r. int_eq r.source key) (rows_at g.edges e)) 0
out_by g t place e key true test is there =
    let same : source_at g.schema e ≡ t = grind (arith, nat_tests) in
    places_counted 0 (source_places g e) place
    ∙ ap (λ u. count_by (λ n. n == place) (map (λ (r : EdgeRow). place_in (rows_at g.vertices u) r.source) (rows_at g.edges e))) same
    ∙ sym (counted_at g t place key is there (λ r. r.source) (rows_at g.edges e)
    (λ i d h. ap (λ u. has_vertex_in (get_or (rows_at g.edges e) i d).source (rows_at g.vertices u)) (sym same) ∙ (ends_stand g e is i d h).source))
out_by g t place e key false test is there = refl

pub out_counted : (g : GraphData) (t place e : ℕ) (key : ℤ) → IsGraph g → slice_get (vertex_keys_at g t) place ≡ Some key → length (out_places g t place e) ≡ starts_in g t key e
out_counted g t place e key is there = out_by g t place e key (source_at g.schema e == t) refl is there

in_by : (g : GraphData) (t place e : ℕ) (key : ℤ) (b : Bool) → (destination_at g.schema e == t) ≡ b → IsGraph g → slice_get (vertex_keys_at g t) place ≡ Some key → length (cond b (places_of (destination_places g e) place) []) ≡ cond {A = ℕ} b (count_by (λ r. int_eq r.destination key) (rows_at g.edges e)) 0
in_by g t place e key true test is there =
    let same : destination_at g.schema e ≡ t = grind (arith, nat_tests) in
    places_counted 0 (destination_places g e) place
    ∙ ap (λ u. count_by (λ n. n == place) (map (λ (r : EdgeRow). place_in (rows_at g.vertices u) r.destination) (rows_at g.edges e))) same
    ∙ sym (counted_at g t place key is there (λ r. r.destination) (rows_at g.edges e)
    (λ i d h. ap (λ u. has_vertex_in (get_or (rows_at g.edges e) i d).destination (rows_at g.vertices u)) (sym same) ∙ (ends_stand g e is i d h).destination))
in_by g t place e key false test is there = refl

pub in_counted : (g : GraphData) (t place e : ℕ) (key : ℤ) → IsGraph g → slice_get (vertex_keys_at g t) place ≡ Some key → length (in_places g t place e) ≡ ends_in g t key e
in_counted g t place e key is there = in_by g t place e key (destination_at g.schema e == t) refl is there

one_at_most : (b : Bool) → cond {A = ℕ} b 1 0 ≤ 1
one_at_most true = omega arith
one_at_most false = omega arith

count_le : {X : Type 0} (p : X → Bool) (xs : List X) → count_by p xs ≤ length xs
count_le p [] = omega arith
count_le p (x ∷ xs) = omega (arith, sum_by-cons (λ y. cond {A = ℕ} (p y) 1 0) x xs, one_at_most (p x), count_le p xs)

few_by : (b : Bool) (n m : ℕ) → n ≤ m → cond {A = ℕ} b n 0 ≤ m
few_by true n m h = h
few_by false n m h = omega arith

pub starts_few : (g : GraphData) (t e : ℕ) (k : ℤ) → IsGraph g → starts_in g t k e ≤ 4194304
starts_few g t e k is = few_by (source_at g.schema e == t) (count_by (λ r. int_eq r.source k) (rows_at g.edges e)) 4194304 (omega (arith, count_le (λ r. int_eq r.source k) (rows_at g.edges e), few_edges_in g e is))

pub ends_few : (g : GraphData) (t e : ℕ) (k : ℤ) → IsGraph g → ends_in g t k e ≤ 4194304
ends_few g t e k is = few_by (destination_at g.schema e == t) (count_by (λ r. int_eq r.destination k) (rows_at g.edges e)) 4194304 (omega (arith, count_le (λ r. int_eq r.destination k) (rows_at g.edges e), few_edges_in g e is))

pub some_key : (g : GraphData) (t place : ℕ) → place < length (rows_at g.vertices t) → slice_get (vertex_keys_at g t) place ≡ Some (get_or (rows_at g.vertices t) place blank).key
some_key g t place within = got vertex_key (rows_at g.vertices t) place blank within

-- what one edge table more counts
pub sum_range : (f : ℕ → ℕ) (n : ℕ) → sum_by f (range_with_len 0 (n + 1)) ≡ sum_by f (range_with_len 0 n) + f n
sum_range f n = ap (sum_by f) (sym (range_more n (range_with_len 0 n) (range_with_len 0 n ++ n ∷ []) refl refl)) ∙ sum_by_push f (range_with_len 0 n) n
