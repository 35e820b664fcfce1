-- each slot has the number of its place in slot order
use Rattle.std.proofs.Common.{◌≡◌, ℕ, zero, suc, ◌+◌, ◌<◌, ◌≤◌, List, [], ◌∷◌, ◌++◌, Some, length, slice_get, map, refl, ap, sym, ◌∙◌, subst, arith, length-append, drop}
use Rattle.std.specs.List.{range_with_len}
use Rattle.std.proofs.lemmas.Option.{slice_get_within}
use Rattle.std.proofs.lemmas.List.FromFn.{length-map-range_with_len}
use Rattle.graph_schema.specs.declared.schema.VertexTable.{VertexTable}
use Rattle.graph_schema.specs.declared.schema.EdgeTable.{EdgeTable}
use Rattle.graph_schema.specs.Schema.{SchemaData}
use Rattle.graph_model.specs.Graph.{vertex_table_props, edge_table_props}
use Rattle.graph_slots.specs.declared.slot.SlotName.{SlotName}
use Rattle.graph_slots.specs.declared.slot.SlotName.TheVariants.{VertexKey, VertexProp, EdgeKey, Source, Destination, Out, Into, EdgeProp}
use Rattle.graph_slots.specs.Slots.{slots, vertex_slots, edge_slots}
use Rattle.graph_slots.specs.Numbers.{vertex_start, edge_start, edges_start, slot_number, HasSlot}

pub get_right : {X : Type 0} (xs ys : List X) (i : ℕ) → slice_get (xs ++ ys) (length xs + i) ≡ slice_get ys i
get_right [] ys i = ap (slice_get ys) (omega arith)
get_right (x ∷ xs) ys i = ap (slice_get (x ∷ (xs ++ ys))) (let e : suc (length xs) + i ≡ suc (length xs + i) = omega arith in e) ∙ get_right xs ys i

pub get_left : {X : Type 0} (xs ys : List X) (i : ℕ) → i < length xs → slice_get (xs ++ ys) i ≡ slice_get xs i
get_left [] ys i h = absurd (omega arith)
get_left (x ∷ xs) ys zero h = refl
get_left (x ∷ xs) ys (suc i) h = get_left xs ys i (omega arith)

pub get_range : {X : Type 0} (f : ℕ → X) (a n i : ℕ) → i < n → slice_get (map f (range_with_len a n)) i ≡ Some (f (a + i))
get_range f a zero i h = absurd (omega arith)
get_range f a (suc n) zero h = ap (λ k. Some (f k)) (omega arith)
get_range f a (suc n) (suc i) h = get_range f (a + 1) n i (omega arith) ∙ ap (λ k. Some (f k)) (omega arith)

-- the table at a place, with those behind it
pub record TableAt {T : Type 0} (tables : List T) (t : ℕ) : Type 0 where
  pub table : T
  pub rest : List T
  pub is : drop t tables ≡ table ∷ rest
  pub there : slice_get tables t ≡ Some table

pub table_at : {T : Type 0} (tables : List T) (t : ℕ) → t < length tables → TableAt tables t
table_at [] t h = absurd (omega arith)
table_at (x ∷ xs) zero h = record { table = x; rest = xs; is = refl; there = refl }
table_at (x ∷ xs) (suc t) h = let r = table_at xs t (omega arith) in record { table = r.table; rest = r.rest; is = r.is; there = r.there }

skip_vertex : (b : ℕ) (x : VertexTable) (xs : List VertexTable) (i : ℕ) → slice_get (vertex_slots b (x ∷ xs)) ((1 + length x.props) + i) ≡ slice_get (vertex_slots (b + 1) xs) i
skip_vertex b x xs i =
    let props : List SlotName = map (VertexProp b) (range_with_len 0 (length x.props)) in
    let long : length props ≡ length x.props = length-map-range_with_len _ 0 (length x.props) in
    ap (slice_get (vertex_slots b (x ∷ xs))) (let e : (1 + length x.props) + i ≡ suc (length props + i) = omega (arith, long) in e)
    ∙ get_right props (vertex_slots (b + 1) xs) i

pub vertex_shift : (b : ℕ) (tables : List VertexTable) (t j : ℕ) → t ≤ length tables → slice_get (vertex_slots b tables) (vertex_start tables t + j) ≡ slice_get (vertex_slots (b + t) (drop t tables)) j
vertex_shift b [] zero j h = refl
vertex_shift b [] (suc t) j h = absurd (omega arith)
vertex_shift b (x ∷ xs) zero j h = ap (slice_get (vertex_slots b (x ∷ xs))) (omega arith) ∙ ap (λ c. slice_get (vertex_slots c (x ∷ xs)) j) (omega arith)
vertex_shift b (x ∷ xs) (suc t) j h =
    ap (slice_get (vertex_slots b (x ∷ xs))) (let e : ((1 + length x.props) + vertex_start xs t) + j ≡ (1 + length x.props) + (vertex_start xs t + j) = omega arith in e)
    ∙ skip_vertex b x xs (vertex_start xs t + j)
    ∙ vertex_shift (b + 1) xs t j (omega arith)
    ∙ ap (λ c. slice_get (vertex_slots c (drop t xs)) j) (omega arith)

skip_edge : (b : ℕ) (x : EdgeTable) (xs : List EdgeTable) (i : ℕ) → slice_get (edge_slots b (x ∷ xs)) ((5 + length x.props) + i) ≡ slice_get (edge_slots (b + 1) xs) i
skip_edge b x xs i =
    let props : List SlotName = map (EdgeProp b) (range_with_len 0 (length x.props)) in
    let long : length props ≡ length x.props = length-map-range_with_len _ 0 (length x.props) in
    ap (slice_get (edge_slots b (x ∷ xs))) (let e : (5 + length x.props) + i ≡ suc (suc (suc (suc (suc (length props + i))))) = omega (arith, long) in e)
    ∙ get_right props (edge_slots (b + 1) xs) i

pub edge_shift : (b : ℕ) (tables : List EdgeTable) (t j : ℕ) → t ≤ length tables → slice_get (edge_slots b tables) (edge_start tables t + j) ≡ slice_get (edge_slots (b + t) (drop t tables)) j
edge_shift b [] zero j h = refl
edge_shift b [] (suc t) j h = absurd (omega arith)
edge_shift b (x ∷ xs) zero j h = ap (slice_get (edge_slots b (x ∷ xs))) (omega arith) ∙ ap (λ c. slice_get (edge_slots c (x ∷ xs)) j) (omega arith)
edge_shift b (x ∷ xs) (suc t) j h =
    ap (slice_get (edge_slots b (x ∷ xs))) (let e : ((5 + length x.props) + edge_start xs t) + j ≡ (5 + length x.props) + (edge_start xs t + j) = omega arith in e)
    ∙ skip_edge b x xs (edge_start xs t + j)
    ∙ edge_shift (b + 1) xs t j (omega arith)
    ∙ ap (λ c. slice_get (edge_slots c (drop t xs)) j) (omega arith)

-- all slots of vertex tables come before those of edge tables
pub vertex_slot_count : (b : ℕ) (tables : List VertexTable) → length (vertex_slots b tables) ≡ vertex_start tables (length tables)
vertex_slot_count b [] = refl
vertex_slot_count b (x ∷ xs) =
    let props : List SlotName = map (VertexProp b) (range_with_len 0 (length x.props)) in
    let long : length props ≡ length x.props = length-map-range_with_len _ 0 (length x.props) in
    let rest : length (vertex_slots (b + 1) xs) ≡ vertex_start xs (length xs) = vertex_slot_count (b + 1) xs in
    let whole : length (props ++ vertex_slots (b + 1) xs) ≡ length props + length (vertex_slots (b + 1) xs) = length-append props (vertex_slots (b + 1) xs) in
    omega arith

vertex_at : (b : ℕ) (tables : List VertexTable) (t j : ℕ) (f : ℕ → SlotName) → (at : TableAt tables t) → t < length tables → slice_get (vertex_slots (b + t) (at.table ∷ at.rest)) j ≡ Some (f (b + t)) → slice_get (vertex_slots b tables) (vertex_start tables t + j) ≡ Some (f (b + t))
vertex_at b tables t j f at h e =
    vertex_shift b tables t j (omega arith) ∙ ap (λ xs. slice_get (vertex_slots (b + t) xs) j) at.is ∙ e

vertex_prop_here : (c p : ℕ) (x : VertexTable) (xs : List VertexTable) → p < length x.props → slice_get (vertex_slots c (x ∷ xs)) (1 + p) ≡ Some (VertexProp c p)
vertex_prop_here c p x xs h =
    let props : List SlotName = map (VertexProp c) (range_with_len 0 (length x.props)) in
    let long : length props ≡ length x.props = length-map-range_with_len _ 0 (length x.props) in
    ap (slice_get (vertex_slots c (x ∷ xs))) (let e : 1 + p ≡ suc p = omega arith in e)
    ∙ get_left props (vertex_slots (c + 1) xs) p (omega arith)
    ∙ get_range (VertexProp c) 0 (length x.props) p h
    ∙ ap (λ q. Some (VertexProp c q)) (omega arith)

edge_prop_here : (c p : ℕ) (x : EdgeTable) (xs : List EdgeTable) → p < length x.props → slice_get (edge_slots c (x ∷ xs)) (5 + p) ≡ Some (EdgeProp c p)
edge_prop_here c p x xs h =
    let props : List SlotName = map (EdgeProp c) (range_with_len 0 (length x.props)) in
    let long : length props ≡ length x.props = length-map-range_with_len _ 0 (length x.props) in
    ap (slice_get (edge_slots c (x ∷ xs))) (let e : 5 + p ≡ suc (suc (suc (suc (suc p)))) = omega arith in e)
    ∙ get_left props (edge_slots (c + 1) xs) p (omega arith)
    ∙ get_range (EdgeProp c) 0 (length x.props) p h
    ∙ ap (λ q. Some (EdgeProp c q)) (omega arith)

-- a slot of vertex tables, and of edge tables, in the whole list
in_vertices : (s : SchemaData) (i : ℕ) (x : SlotName) → slice_get (vertex_slots 0 s.vertices) i ≡ Some x → slice_get (slots s) i ≡ Some x
in_vertices s i x e = get_left (vertex_slots 0 s.vertices) (edge_slots 0 s.edges) i (slice_get_within _ i x e) ∙ e

in_edges : (s : SchemaData) (i : ℕ) (x : SlotName) → slice_get (edge_slots 0 s.edges) i ≡ Some x → slice_get (slots s) (edges_start s + i) ≡ Some x
in_edges s i x e =
    ap (λ n. slice_get (slots s) (n + i)) (sym (vertex_slot_count 0 s.vertices)) ∙ get_right (vertex_slots 0 s.vertices) (edge_slots 0 s.edges) i ∙ e

edge_at : (s : SchemaData) (t j : ℕ) (f : ℕ → SlotName) → (at : TableAt s.edges t) → t < length s.edges → slice_get (edge_slots (0 + t) (at.table ∷ at.rest)) j ≡ Some (f (0 + t)) → slice_get (slots s) (edges_start s + (edge_start s.edges t + j)) ≡ Some (f t)
edge_at s t j f at h e =
    in_edges s (edge_start s.edges t + j) (f t)
    (edge_shift 0 s.edges t j (omega arith) ∙ ap (λ xs. slice_get (edge_slots (0 + t) xs) j) at.is ∙ e ∙ ap (λ k. Some (f k)) (omega arith))

pub slot_at : (s : SchemaData) (x : SlotName) → HasSlot s x → slice_get (slots s) (slot_number s x) ≡ Some x
slot_at s (VertexKey t) h =
    in_vertices s _ _ (ap (slice_get (vertex_slots 0 s.vertices)) (let e : vertex_start s.vertices t ≡ vertex_start s.vertices t + 0 = omega arith in e)
    ∙ vertex_at 0 s.vertices t 0 VertexKey (table_at s.vertices t h) h refl ∙ ap (λ k. Some (VertexKey k)) (omega arith))
slot_at s (VertexProp t p) h =
    let at = table_at s.vertices t h.0 in
    let small : p < length at.table.props = subst (λ o. p < length (vertex_table_props o)) at.there h.1 in
    in_vertices s _ _ (vertex_at 0 s.vertices t (1 + p) (λ k. VertexProp k p) at h.0 (vertex_prop_here (0 + t) p at.table at.rest small) ∙ ap (λ k. Some (VertexProp k p)) (omega arith))
slot_at s (EdgeKey t) h =
    ap (λ n. slice_get (slots s) (edges_start s + n)) (let e : edge_start s.edges t ≡ edge_start s.edges t + 0 = omega arith in e) ∙ edge_at s t 0 EdgeKey (table_at s.edges t h) h refl
slot_at s (Source t) h = edge_at s t 1 Source (table_at s.edges t h) h refl
slot_at s (Destination t) h = edge_at s t 2 Destination (table_at s.edges t h) h refl
slot_at s (Out t) h = edge_at s t 3 Out (table_at s.edges t h) h refl
slot_at s (Into t) h = edge_at s t 4 Into (table_at s.edges t h) h refl
slot_at s (EdgeProp t p) h =
    let at = table_at s.edges t h.0 in
    let small : p < length at.table.props = subst (λ o. p < length (edge_table_props o)) at.there h.1 in
    edge_at s t (5 + p) (λ k. EdgeProp k p) at h.0 (edge_prop_here (0 + t) p at.table at.rest small)
