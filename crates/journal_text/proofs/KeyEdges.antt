-- the rows of a vertex list the edges whose ends have its key
use Rattle.std.proofs.Common.{◌≡◌, ℕ, suc, ◌+◌, ◌<◌, ◌≤◌, ℤ, pos, Bool, true, false, ◌==◌, ◌&&◌, List, [], ◌∷◌, Some, Contains, All, length, get_or, slice_get, map, if◌then◌else◌, refl, ap, sym, ◌∙◌, subst, arith}
use Rattle.std.specs.List.{filter, flat_map, list_any, range_with_len}
use Rattle.std.specs.Ordering.{int_eq}
use Rattle.std.proofs.lemmas.Bool.Decides.{nat_tests, Decides-int_eq}
use Rattle.std.proofs.lemmas.List.{length-map}
use Rattle.std.proofs.lemmas.List.Elements.{All-weaker, All-contains_itself}
use Rattle.std.proofs.lemmas.Option.{slice_get_within, same_Some}
use Rattle.csr_rows.specs.Rows.{places_from, places_of}
use Rattle.csr_rows.proofs.Meaning.{place_of_end}
use Rattle.graph_model.specs.declared.row.VertexRow.{VertexRow}
use Rattle.graph_model.specs.declared.row.EdgeRow.{EdgeRow}
use Rattle.graph_schema.specs.declared.schema.Keys.TheVariants.{Whole}
use Rattle.graph_model.specs.Keys.{rows_at, count_in, key_count, AreDistinct}
use Rattle.graph_model.specs.Graph.{GraphData, IsGraph, vertex_key, edge_key, has_vertex_in, source_at, destination_at}
use Rattle.graph_model.proofs.Distinct.{once_in}
use Rattle.graph_model.proofs.Rows.{any_false_at, position_of_one, one_table}
use Rattle.graph_model.proofs.Zips.{AllZip-length}
use Rattle.graph_slots.specs.Meaning.{place_in, source_places, destination_places}
use Rattle.graph_slots.proofs.Kept.{ends_stand}
use Rattle.graph_columns.proofs.Standing.{place_there}
use Rattle.graph_snap.specs.Reading.{vertex_keys_at, edge_keys_at, out_places, in_places}
use Rattle.graph_snap.proofs.GraphOf.{place_found}
use Rattle.graph_snap.proofs.Readers.{got}
use Rattle.journal_text.specs.Ends.{all_edges, leaving, entering, leaving_in, entering_in, keys_at}
use Rattle.journal_text.proofs.Tables.{picked_tables}

-- ---- tests

same_test : (a b : Bool) → (a ≡ true → b ≡ true) → (b ≡ true → a ≡ true) → a ≡ b
same_test true true f h = refl
same_test true false f h = sym (f refl)
same_test false true f h = h refl
same_test false false f h = refl

fails : (b : Bool) → (b ≡ true → ⊥) → b ≡ false
fails true f = absurd (f refl)
fails false f = refl

same_number : (a b : ℕ) → (a == b) ≡ true → a ≡ b
same_number a b t = grind (arith, nat_tests)

number_same : (a b : ℕ) → a ≡ b → (a == b) ≡ true
number_same a b e = grind (arith, nat_tests)

any_by : {R : Type 0} (p : R → Bool) (rows : List R) (i : ℕ) (d : R) (b : Bool) → list_any p rows ≡ b → i < length rows → p (get_or rows i d) ≡ true → list_any p rows ≡ true
any_by p rows i d true e within passes = e
any_by p rows i d false e within passes =
    let never : true ≡ false = sym passes ∙ any_false_at p rows i d e within in
    cc

-- ---- the vertex of a key

pub blank_vertex : VertexRow
blank_vertex = record { key = pos 0; values = [] }

-- the vertex at a place has the key
pub record Stands (rows : List VertexRow) (place : ℕ) (k : ℤ) : Type 0 where
  pub within : place < length rows
  pub key : (get_or rows place blank_vertex).key ≡ k

stands : (rows : List VertexRow) (place : ℕ) (k : ℤ) → slice_get (map vertex_key rows) place ≡ Some k → Stands rows place k
stands rows place k there =
    let within : place < length rows = omega (arith, slice_get_within (map vertex_key rows) place k there, length-map rows vertex_key) in
    record { within = within; key = same_Some _ _ (sym (got vertex_key rows place blank_vertex within) ∙ there) }

passes : (rows : List VertexRow) (place : ℕ) (k : ℤ) → Stands rows place k → int_eq (get_or rows place blank_vertex).key k ≡ true
passes rows place k s = (Decides-int_eq _ k).1 s.key

has_key : (rows : List VertexRow) (place : ℕ) (k : ℤ) → Stands rows place k → has_vertex_in k rows ≡ true
has_key rows place k s = any_by (λ (r : VertexRow). int_eq r.key k) rows place blank_vertex _ refl s.within (passes rows place k s)

-- where no other vertex of the table has the key, its place is that of the key
place_is : (rows : List VertexRow) (place : ℕ) (k : ℤ) → Stands rows place k → count_in vertex_key k rows ≤ 1 → place_in rows k ≡ place
place_is rows place k s once =
    let p : VertexRow → Bool = λ r. int_eq r.key k in
    let found = (place_there p rows (has_key rows place k s)).found in
    same_Some _ _ (sym found ∙ position_of_one p rows place blank_vertex s.within (passes rows place k s) once)

-- a key's place is that of a vertex exactly where the key is the vertex's
end_test : (rows : List VertexRow) (place : ℕ) (k q : ℤ) → Stands rows place k → count_in vertex_key k rows ≤ 1 → has_vertex_in q rows ≡ true → (place_in rows q == place) ≡ int_eq q k
end_test rows place k q s once has =
    let found = place_found q rows blank_vertex has in
    same_test (place_in rows q == place) (int_eq q k)
    (λ e. (Decides-int_eq q k).1 (sym found.1 ∙ ap (λ i. (get_or rows i blank_vertex).key) (same_number _ _ e) ∙ s.key))
    (λ e. number_same _ _ (ap (place_in rows) ((Decides-int_eq q k).0 e) ∙ place_is rows place k s once))

-- ---- edges of a table

chosen : (get : ℕ → ℤ) (first : ℕ) (later : List ℕ) (r : EdgeRow) (rest : List EdgeRow) (a b : Bool) → a ≡ b → get first ≡ r.key → map get later ≡ map edge_key rest → map get (if a then first ∷ later else later) ≡ map edge_key (if b then r ∷ rest else rest)
chosen get first later r rest true true e key more = ap (λ z. z ∷ map get later) key ∙ ap (λ zs. r.key ∷ zs) more
chosen get first later r rest true false e key more = cc
chosen get first later r rest false true e key more = cc
chosen get first later r rest false false e key more = more

-- the keys at the places of an end are those of the edges that pass a test, where the test tells that end
picked : (all : List ℤ) (f : EdgeRow → ℕ) (p : EdgeRow → Bool) (place first : ℕ) (rows : List EdgeRow) → ((j : ℕ) → j < length rows → get_or all (first + j) (pos 0) ≡ get_or (map edge_key rows) j (pos 0)) → ((i : ℕ) (d : EdgeRow) → i < length rows → (f (get_or rows i d) == place) ≡ p (get_or rows i d)) → keys_at all (places_from first (map f rows) place) ≡ map edge_key (filter p rows)
picked all f p place first [] keys tests = refl
picked all f p place first (r ∷ rows) keys tests =
    let here : first ≡ first + 0 = omega arith in
    chosen (λ n. get_or all n (pos 0)) first (places_from (first + 1) (map f rows) place) r (filter p rows) (f r == place) (p r)
    (tests 0 r (omega arith))
    (ap (λ n. get_or all n (pos 0)) here ∙ keys 0 (omega arith))
    (picked all f p place (first + 1) rows
    (λ j h. let on : (first + 1) + j ≡ first + suc j = omega arith in ap (λ n. get_or all n (pos 0)) on ∙ keys (suc j) (omega arith))
    (λ i d h. tests (suc i) d (omega arith)))

none_passes : (p : EdgeRow → Bool) (rows : List EdgeRow) → ((i : ℕ) (d : EdgeRow) → i < length rows → p (get_or rows i d) ≡ false) → filter p rows ≡ []
none_passes p [] fail = refl
none_passes p (r ∷ rows) fail =
    ap (λ b. if b then r ∷ filter p rows else filter p rows) (fail 0 r (omega arith)) ∙ none_passes p rows (λ i d h. fail (suc i) d (omega arith))

-- the edges of a table whose end is a key, where the table's edges have that end in table s: none where s is not t
abbrev ending : ℕ → ℕ → (EdgeRow → ℤ) → ℤ → List EdgeRow → List ℤ
ending s t end k rows = map edge_key (filter (λ e. s == t && int_eq (end e) k) rows)

-- and whatever table that is
abbrev ending_by_key : (EdgeRow → ℤ) → ℤ → List EdgeRow → List ℤ
ending_by_key end k rows = map edge_key (filter (λ e. int_eq (end e) k) rows)

here_all : (s t : ℕ) (end : EdgeRow → ℤ) (k : ℤ) (rows : List EdgeRow) → (s == t) ≡ true → ending s t end k rows ≡ ending_by_key end k rows
here_all s t end k rows e = ap (λ b. map edge_key (filter (λ e. b && int_eq (end e) k) rows)) e

elsewhere_none : (s t : ℕ) (end : EdgeRow → ℤ) (k : ℤ) (rows : List EdgeRow) → (s == t) ≡ false → ending s t end k rows ≡ []
elsewhere_none s t end k rows e =
    ap (λ b. map edge_key (filter (λ e. b && int_eq (end e) k) rows)) e ∙ ap (map edge_key) (none_passes (λ e. false) rows (λ i d h. refl))

-- edges that have an end each in table s, and a vertex of table t
module _ (g : GraphData) (t place : ℕ) (k : ℤ) (s : ℕ) (end : EdgeRow → ℤ) (rows : List EdgeRow) (is : IsGraph g) (there : slice_get (vertex_keys_at g t) place ≡ Some k) (all : (i : ℕ) (d : EdgeRow) → i < length rows → has_vertex_in (end (get_or rows i d)) (rows_at g.vertices s) ≡ true) where
  row_keys : (b : Bool) → (s == t) ≡ b → keys_at (map edge_key rows) (if s == t then places_of (map (λ e. place_in (rows_at g.vertices s) (end e)) rows) place else []) ≡ ending s t end k rows
  row_keys true e =
      let same = same_number s t e in
      let once : count_in vertex_key k (rows_at g.vertices s) ≤ 1 = once_in g.schema.keys vertex_key g.vertices is.vertex_keys k s in
      let here : Stands (rows_at g.vertices s) place k = stands _ place k (ap (λ u. slice_get (vertex_keys_at g u) place) same ∙ there) in
      ap (λ b. keys_at (map edge_key rows) (if b then places_of (map (λ e. place_in (rows_at g.vertices s) (end e)) rows) place else [])) e
      ∙ (picked (map edge_key rows) (λ e. place_in (rows_at g.vertices s) (end e)) (λ e. int_eq (end e) k) place 0 rows
      (λ j h. let zero_on : 0 + j ≡ j = omega arith in ap (λ n. get_or (map edge_key rows) n (pos 0)) zero_on)
      (λ i d h. end_test (rows_at g.vertices s) place k (end (get_or rows i d)) here once (all i d h))
      ∙ sym (here_all s t end k rows e))
  row_keys false e =
      ap (λ b. keys_at (map edge_key rows) (if b then places_of (map (λ e. place_in (rows_at g.vertices s) (end e)) rows) place else [])) e
      ∙ sym (elsewhere_none s t end k rows e)

  -- where keys differ over all tables, no edge has the key in another table than the vertex's
  elsewhere : key_count vertex_key k g.vertices ≤ 1 → (s ≡ t → ⊥) → ending_by_key end k rows ≡ []
  elsewhere once apart =
      ap (map edge_key) (none_passes (λ e. int_eq (end e) k) rows
      (λ i d h. fails _ (λ e.
      let same : end (get_or rows i d) ≡ k = (Decides-int_eq _ k).0 e in
      apart (one_table (λ (r : VertexRow). int_eq r.key k) g.vertices s t once
      (subst (λ z. has_vertex_in z (rows_at g.vertices s) ≡ true) same (all i d h))
      (has_key (rows_at g.vertices t) place k (stands _ place k there))))))

  by_key : key_count vertex_key k g.vertices ≤ 1 → (b : Bool) → (s == t) ≡ b → ending s t end k rows ≡ ending_by_key end k rows
  by_key once true e = here_all s t end k rows e
  by_key once false e =
      elsewhere_none s t end k rows e ∙ sym (elsewhere once (λ same. let yes = number_same s t same in let never : true ≡ false = sym yes ∙ e in cc))

-- ---- the edges of a table that leave a vertex, and those that enter it

pub none_leaves : (g : GraphData) (t : ℕ) (k : ℤ) (e : ℕ) → (source_at g.schema e ≡ t → ⊥) → leaving_in g t k e ≡ []
none_leaves g t k e apart =
    elsewhere_none (source_at g.schema e) t (λ (r : EdgeRow). r.source) k (rows_at g.edges e) (fails _ (λ yes. apart (same_number (source_at g.schema e) t yes)))

pub none_enters : (g : GraphData) (t : ℕ) (k : ℤ) (e : ℕ) → (destination_at g.schema e ≡ t → ⊥) → entering_in g t k e ≡ []
none_enters g t k e apart =
    elsewhere_none (destination_at g.schema e) t (λ (r : EdgeRow). r.destination) k (rows_at g.edges e) (fails _ (λ yes. apart (same_number (destination_at g.schema e) t yes)))

module _ (g : GraphData) (t place : ℕ) (k : ℤ) (is : IsGraph g) (there : slice_get (vertex_keys_at g t) place ≡ Some k) where
  pub leaving_listed : (e : ℕ) → keys_at (edge_keys_at g e) (out_places g t place e) ≡ leaving_in g t k e
  leaving_listed e =
      row_keys g t place k (source_at g.schema e) (λ (r : EdgeRow). r.source) (rows_at g.edges e) is there (λ i d h. (ends_stand g e is i d h).source) _ refl

  pub entering_listed : (e : ℕ) → keys_at (edge_keys_at g e) (in_places g t place e) ≡ entering_in g t k e
  entering_listed e =
      row_keys g t place k (destination_at g.schema e) (λ (r : EdgeRow). r.destination) (rows_at g.edges e) is there (λ i d h. (ends_stand g e is i d h).destination) _ refl

  -- where keys differ over all tables, the key alone tells them
  differ : g.schema.keys ≡ Whole → key_count vertex_key k g.vertices ≤ 1
  differ whole = subst (λ keys. AreDistinct keys vertex_key g.vertices) whole is.vertex_keys k

  leaving_by_key : g.schema.keys ≡ Whole → (e : ℕ) → leaving_in g t k e ≡ ending_by_key (λ (r : EdgeRow). r.source) k (rows_at g.edges e)
  leaving_by_key whole e =
      by_key g t place k (source_at g.schema e) (λ (r : EdgeRow). r.source) (rows_at g.edges e) is there (λ i d h. (ends_stand g e is i d h).source) (differ whole) _ refl

  entering_by_key : g.schema.keys ≡ Whole → (e : ℕ) → entering_in g t k e ≡ ending_by_key (λ (r : EdgeRow). r.destination) k (rows_at g.edges e)
  entering_by_key whole e =
      by_key g t place k (destination_at g.schema e) (λ (r : EdgeRow). r.destination) (rows_at g.edges e) is there (λ i d h. (ends_stand g e is i d h).destination) (differ whole) _ refl

  pub all_leaving : g.schema.keys ≡ Whole → leaving g t k ≡ ending_by_key (λ (r : EdgeRow). r.source) k (all_edges g)
  all_leaving whole =
      ap (λ n. flat_map (leaving_in g t k) (range_with_len 0 n)) (AllZip-length _ _ _ is.edges)
      ∙ picked_tables (λ (r : EdgeRow). int_eq r.source k) (leaving_in g t k) g.edges 0 (λ i e same. leaving_by_key whole e ∙ ap (λ n. ending_by_key (λ (r : EdgeRow). r.source) k (rows_at g.edges n)) (let on : e ≡ i = omega (arith, same) in on))

  pub all_entering : g.schema.keys ≡ Whole → entering g t k ≡ ending_by_key (λ (r : EdgeRow). r.destination) k (all_edges g)
  all_entering whole =
      ap (λ n. flat_map (entering_in g t k) (range_with_len 0 n)) (AllZip-length _ _ _ is.edges)
      ∙ picked_tables (λ (r : EdgeRow). int_eq r.destination k) (entering_in g t k) g.edges 0 (λ i e same. entering_by_key whole e ∙ ap (λ n. ending_by_key (λ (r : EdgeRow). r.destination) k (rows_at g.edges n)) (let on : e ≡ i = omega (arith, same) in on))

-- ---- places of a row are places of edges

places_there : (b : Bool) (ends : List ℕ) (i n : ℕ) → length ends ≡ n → All (λ place. place < n) (if b then places_of ends i else [])
places_there true ends i n long =
    All-weaker (λ p. Contains (places_of ends i) p) (λ p. p < n) (λ p h. omega (arith, long, slice_get_within ends p i (place_of_end ends i p h))) (places_of ends i) (All-contains_itself (places_of ends i))
places_there false ends i n long = λ j d h. absurd (omega arith)

pub out_there : (g : GraphData) (t place e : ℕ) → All (λ p. p < length (edge_keys_at g e)) (out_places g t place e)
out_there g t place e =
    places_there (source_at g.schema e == t) (source_places g e) place (length (edge_keys_at g e))
    (length-map (rows_at g.edges e) (λ (r : EdgeRow). place_in (rows_at g.vertices (source_at g.schema e)) r.source) ∙ sym (length-map (rows_at g.edges e) edge_key))

pub in_there : (g : GraphData) (t place e : ℕ) → All (λ p. p < length (edge_keys_at g e)) (in_places g t place e)
in_there g t place e =
    places_there (destination_at g.schema e == t) (destination_places g e) place (length (edge_keys_at g e))
    (length-map (rows_at g.edges e) (λ (r : EdgeRow). place_in (rows_at g.vertices (destination_at g.schema e)) r.destination) ∙ sym (length-map (rows_at g.edges e) edge_key))
