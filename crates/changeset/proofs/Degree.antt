-- How many ends of edges stand at a vertex, by the rows of a snapshot.
use Rattle.std.proofs.Common.{◌≡◌, ℕ, ℤ, zero, suc, ◌+◌, ◌<◌, ◌≤◌, Bool, true, false, ◌&&◌, ◌==◌, pos, cond, List, [], ◌∷◌, All, Some, length, get_or, map, slice_get, sum_by, count_by, refl, ap, sym, ◌∙◌, subst, arith}
use Rattle.std.specs.List.{zip, AllZip}
use Rattle.std.specs.Ordering.{int_eq}
use Rattle.std.proofs.lemmas.Bool.Decides.{nat_tests, Decides-int_eq}
use Rattle.std.proofs.lemmas.List.{length-map}
use Rattle.std.proofs.lemmas.List.Sums.{sum_by-cons}
use Rattle.std.proofs.lemmas.Option.{slice_get_within, same_Some}
use Rattle.csr_rows.specs.Rows.{places_from, places_of}
use Rattle.graph_schema.specs.declared.schema.EdgeTable.{EdgeTable}
use Rattle.graph_model.specs.declared.row.VertexRow.{VertexRow}
use Rattle.graph_model.specs.declared.row.EdgeRow.{EdgeRow}
use Rattle.graph_model.specs.Keys.{rows_at, count_in}
use Rattle.graph_model.specs.Graph.{GraphData, IsGraph, IsEdge, AreEdges, vertex_key, has_vertex_in, source_at, destination_at, source_table, destination_table}
use Rattle.graph_model.proofs.Rows.{position_of_one}
use Rattle.graph_model.proofs.Distinct.{once_in}
use Rattle.graph_slots.specs.Meaning.{place_in, source_places, destination_places}
use Rattle.graph_slots.proofs.Kept.{ends_stand}
use Rattle.graph_snap.specs.Reading.{vertex_keys_at, out_places, in_places}
use Rattle.graph_snap.proofs.GraphOf.{place_found}
use Rattle.graph_snap.proofs.Readers.{got}
use Rattle.changeset.specs.Facts.{one_if, ends_there, end_count}

-- ---- places that are the one

length_case : (b : Bool) (first : ℕ) (xs : List ℕ) (n : ℕ) → length xs ≡ n → length (cond b (first ∷ xs) xs) ≡ cond {A = ℕ} b 1 0 + n
length_case true first xs n h = omega (arith, h)
length_case false first xs n h = omega (arith, h)

places_counted : (first : ℕ) (ends : List ℕ) (i : ℕ) → length (places_from first ends i) ≡ count_by (λ e. e == i) ends
places_counted first [] i = refl
places_counted first (e ∷ ends) i =
    length_case (e == i) first (places_from (first + 1) ends i) (count_by (λ x. x == i) ends) (places_counted (first + 1) ends i)
    ∙ sym (sum_by-cons (λ x. cond {A = ℕ} (x == i) 1 0) e ends)

one_few : (b : Bool) → cond {A = ℕ} b 1 0 ≤ 1
one_few true = omega arith
one_few false = omega arith

count_few : {X : Type 0} (p : X → Bool) (xs : List X) → count_by p xs ≤ length xs
count_few p [] = omega arith
count_few p (x ∷ xs) = omega (arith, sum_by-cons (λ y. cond {A = ℕ} (p y) 1 0) x xs, one_few (p x), count_few p xs)

few_by : (b : Bool) (ends : List ℕ) (i : ℕ) → length (cond b (places_of ends i) []) ≤ length ends
few_by true ends i = omega (arith, places_counted 0 ends i, count_few (λ e. e == i) ends)
few_by false ends i = omega arith

pub out_few : (g : GraphData) (t place e : ℕ) → length (out_places g t place e) ≤ length (rows_at g.edges e)
out_few g t place e = omega (arith, few_by (source_at g.schema e == t) (source_places g e) place, length-map (rows_at g.edges e) (λ (r : EdgeRow). place_in (rows_at g.vertices (source_at g.schema e)) r.source))

pub in_few : (g : GraphData) (t place e : ℕ) → length (in_places g t place e) ≤ length (rows_at g.edges e)
in_few g t place e = omega (arith, few_by (destination_at g.schema e == t) (destination_places g e) place, length-map (rows_at g.edges e) (λ (r : EdgeRow). place_in (rows_at g.vertices (destination_at g.schema e)) r.destination))

-- ---- the place of a key

blank : VertexRow
blank = record { key = pos 0; values = [] }

key_there : (rows : List VertexRow) (place : ℕ) (key : ℤ) → slice_get (map vertex_key rows) place ≡ Some key → (place < length rows) × ((get_or rows place blank).key ≡ key)
key_there rows place key there =
    let within : place < length rows = omega (arith, slice_get_within (map vertex_key rows) place key there, length-map rows vertex_key) in
    (within, same_Some _ _ (sym (got vertex_key rows place blank within) ∙ there))

apart_by : (p q : ℕ) (b : Bool) → (p == q) ≡ b → (p ≡ q → ⊥) → false ≡ b
apart_by p q true e h = let same : p ≡ q = grind (arith, nat_tests) in absurd (h same)
apart_by p q false e h = refl

-- a key is the one of a place exactly where it is found there
same_by : (rows : List VertexRow) (k key : ℤ) (place : ℕ) (b : Bool) → int_eq k key ≡ b → count_in vertex_key key rows ≤ 1 → has_vertex_in k rows ≡ true → slice_get (map vertex_key rows) place ≡ Some key → b ≡ (place_in rows k == place)
same_by rows k key place true e once has there =
    let at = key_there rows place key there in
    let found = place_found k rows blank has in
    let same : k ≡ key = (Decides-int_eq k key).0 e in
    let first = position_of_one (λ r. int_eq (vertex_key r) key) rows place blank at.0 ((Decides-int_eq _ key).1 at.1) once in
    let second = position_of_one (λ r. int_eq (vertex_key r) key) rows (place_in rows k) blank found.0 ((Decides-int_eq _ key).1 (found.1 ∙ same)) once in
    let one : place_in rows k ≡ place = same_Some _ _ (sym second ∙ first) in
    grind (arith, nat_tests, one)
same_by rows k key place false e once has there =
    let at = key_there rows place key there in
    let found = place_found k rows blank has in
    apart_by (place_in rows k) place (place_in rows k == place) refl
    (λ here.
    let same : k ≡ key = sym found.1 ∙ ap (λ i. (get_or rows i blank).key) here ∙ at.1 in
    let yes : int_eq k key ≡ true = (Decides-int_eq k key).1 same in
    cc)

-- ---- ends at a vertex, by keys and by places

counted : (rows : List VertexRow) (key : ℤ) (place : ℕ) (f : EdgeRow → ℤ) (edges : List EdgeRow) → count_in vertex_key key rows ≤ 1 → slice_get (map vertex_key rows) place ≡ Some key → All (λ r. has_vertex_in (f r) rows ≡ true) edges
    → count_by (λ e. e == place) (map (λ r. place_in rows (f r)) edges) ≡ sum_by (λ r. one_if (int_eq (f r) key)) edges
counted rows key place f [] once there all = refl
counted rows key place f (r ∷ edges) once there all =
    let here = same_by rows (f r) key place (int_eq (f r) key) refl once (all 0 r (omega arith)) there in
    omega (
      arith,
      sum_by-cons (λ e. cond {A = ℕ} (e == place) 1 0) (place_in rows (f r)) (map (λ x. place_in rows (f x)) edges),
      sum_by-cons (λ x. one_if (int_eq (f x) key)) r edges,
      ap (λ b. cond {A = ℕ} b 1 0) here,
      counted rows key place f edges once there (λ i d h. all (suc i) d (omega arith)),
    )

none_counted : {X : Type 0} (xs : List X) → 0 ≡ sum_by (λ (x : X). 0) xs
none_counted [] = refl
none_counted (x ∷ xs) = omega (arith, sum_by-cons (λ y. 0) x xs, none_counted xs)

at_end : (b : Bool) (rows : List VertexRow) (key : ℤ) (place : ℕ) (f : EdgeRow → ℤ) (edges : List EdgeRow) → count_in vertex_key key rows ≤ 1 → (b ≡ true → slice_get (map vertex_key rows) place ≡ Some key) → All (λ r. has_vertex_in (f r) rows ≡ true) edges
    → length (cond b (places_of (map (λ r. place_in rows (f r)) edges) place) []) ≡ sum_by (λ r. one_if (b && int_eq (f r) key)) edges
at_end true rows key place f edges once there all = places_counted 0 (map (λ r. place_in rows (f r)) edges) place ∙ counted rows key place f edges once (there refl) all
at_end false rows key place f edges once there all = none_counted edges

same_table : (u t : ℕ) → (u == t) ≡ true → t ≡ u
same_table u t e = grind (arith, nat_tests)

out_counted : (g : GraphData) (t place e : ℕ) (key : ℤ) → IsGraph g → slice_get (vertex_keys_at g t) place ≡ Some key → length (out_places g t place e) ≡ sum_by (λ r. one_if (source_at g.schema e == t && int_eq r.source key)) (rows_at g.edges e)
out_counted g t place e key is there =
    let u = source_at g.schema e in
    at_end (u == t) (rows_at g.vertices u) key place (λ r. r.source) (rows_at g.edges e) (once_in g.schema.keys vertex_key g.vertices is.vertex_keys key u)
    (λ same. subst (λ v. slice_get (vertex_keys_at g v) place ≡ Some key) (same_table u t same) there) (λ i d h. (ends_stand g e is i d h).source)

in_counted : (g : GraphData) (t place e : ℕ) (key : ℤ) → IsGraph g → slice_get (vertex_keys_at g t) place ≡ Some key → length (in_places g t place e) ≡ sum_by (λ r. one_if (destination_at g.schema e == t && int_eq r.destination key)) (rows_at g.edges e)
in_counted g t place e key is there =
    let u = destination_at g.schema e in
    at_end (u == t) (rows_at g.vertices u) key place (λ r. r.destination) (rows_at g.edges e) (once_in g.schema.keys vertex_key g.vertices is.vertex_keys key u)
    (λ same. subst (λ v. slice_get (vertex_keys_at g v) place ≡ Some key) (same_table u t same) there) (λ i d h. (ends_stand g e is i d h).destination)

sum_both : {X : Type 0} (f h : X → ℕ) (xs : List X) → sum_by (λ x. f x + h x) xs ≡ sum_by f xs + sum_by h xs
sum_both f h [] = refl
sum_both f h (x ∷ xs) = omega (arith, sum_by-cons (λ y. f y + h y) x xs, sum_by-cons f x xs, sum_by-cons h x xs, sum_both f h xs)

pub both_counted : (g : GraphData) (t place e : ℕ) (key : ℤ) (x : EdgeTable) → IsGraph g → slice_get g.schema.edges e ≡ Some x → slice_get (vertex_keys_at g t) place ≡ Some key
    → sum_by (ends_there t key x) (rows_at g.edges e) ≡ length (out_places g t place e) + length (in_places g t place e)
both_counted g t place e key x is at there =
    let rows = rows_at g.edges e in
    omega (
      arith,
      sum_both (λ (r : EdgeRow). one_if (x.source == t && int_eq r.source key)) (λ r. one_if (x.destination == t && int_eq r.destination key)) rows,
      ap (λ o. sum_by (λ (r : EdgeRow). one_if (source_table o == t && int_eq r.source key)) rows) at,
      ap (λ o. sum_by (λ (r : EdgeRow). one_if (destination_table o == t && int_eq r.destination key)) rows) at,
      out_counted g t place e key is there,
      in_counted g t place e key is there,
    )

-- ---- two lists side by side

pub zip_at : {A B : Type 0} (xs : List A) (ys : List B) (i : ℕ) (x : A) (y : B) → slice_get xs i ≡ Some x → i < length ys → (i < length (zip xs ys)) × (get_or (zip xs ys) i (x, y) ≡ (x, get_or ys i y))
zip_at [] ys i x y at within = cc
zip_at (a ∷ xs) [] i x y at within = absurd (omega arith)
zip_at (a ∷ xs) (b ∷ ys) zero x y at within = (omega arith, ap (λ z. (z, b)) (same_Some a x at))
zip_at (a ∷ xs) (b ∷ ys) (suc i) x y at within = let rest = zip_at xs ys i x y at (omega arith) in (omega (arith, rest.0), rest.1)

pub zip_short : {A B : Type 0} (xs : List A) (ys : List B) → length xs ≡ length ys → length (zip xs ys) ≡ length ys
zip_short [] ys e = e
zip_short (x ∷ xs) [] e = absurd (omega (arith, e))
zip_short (x ∷ xs) (y ∷ ys) e = let same : length xs ≡ length ys = omega (arith, e) in ap suc (zip_short xs ys same)

-- ---- no edge ends at a vertex that is not there

one_none : (b : Bool) → (b ≡ true → ⊥) → one_if b ≡ 0
one_none true h = absurd (h refl)
one_none false h = refl

both_parts : (a b : Bool) → (a && b) ≡ true → (a ≡ true) × (b ≡ true)
both_parts true b e = (refl, e)
both_parts false b e = cc

no_end : (vertices : List (List VertexRow)) (t u : ℕ) (k q : ℤ) → has_vertex_in k (rows_at vertices t) ≡ false → has_vertex_in q (rows_at vertices u) ≡ true → one_if (u == t && int_eq q k) ≡ 0
no_end vertices t u k q none has = one_none (u == t && int_eq q k)
    (λ e.
    let parts = both_parts (u == t) (int_eq q k) e in
    let same : q ≡ k = (Decides-int_eq q k).0 parts.1 in
    let yes : has_vertex_in k (rows_at vertices t) ≡ true = ap (λ v. has_vertex_in k (rows_at vertices v)) (same_table u t parts.0) ∙ ap (λ z. has_vertex_in z (rows_at vertices u)) (sym same) ∙ has in
    cc)

none_in : (vertices : List (List VertexRow)) (t : ℕ) (k : ℤ) (x : EdgeTable) (rows : List EdgeRow) → has_vertex_in k (rows_at vertices t) ≡ false → AreEdges vertices x rows → sum_by (ends_there t k x) rows ≡ 0
none_in vertices t k x [] none are = refl
none_in vertices t k x (r ∷ rows) none are =
    let edge : IsEdge vertices x r = are 0 r (omega arith) in
    omega (
      arith,
      sum_by-cons (ends_there t k x) r rows,
      no_end vertices t x.source k r.source none edge.source,
      no_end vertices t x.destination k r.destination none edge.destination,
      none_in vertices t k x rows none (λ i d h. are (suc i) d (omega arith)),
    )

none_all : {A B : Type 0} (R : A → B → Type 0) (w : A × B → ℕ) (xs : List A) (ys : List B) → AllZip R xs ys → ((x : A) (y : B) → R x y → w (x, y) ≡ 0) → sum_by w (zip xs ys) ≡ 0
none_all R w [] [] all f = refl
none_all R w [] (y ∷ ys) all f = refl
none_all R w (x ∷ xs) [] all f = refl
none_all R w (x ∷ xs) (y ∷ ys) all f = omega (arith, sum_by-cons w (x, y) (zip xs ys), f x y all.0, none_all R w xs ys all.1 f)

pub none_there : (g : GraphData) (t : ℕ) (k : ℤ) → IsGraph g → has_vertex_in k (rows_at g.vertices t) ≡ false → end_count g.schema t k g.edges ≡ 0
none_there g t k is none = none_all (AreEdges g.vertices) (λ p. sum_by (ends_there t k p.0) p.1) g.schema.edges g.edges is.edges (λ x rows are. none_in g.vertices t k x rows none are)
