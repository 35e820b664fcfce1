-- numbers of slots that are kept, each in the slot that has the number
use Rattle.std.proofs.Common.{◌≡◌, ℕ, zero, suc, ◌+◌, ◌<◌, List, [], ◌∷◌, ◌++◌, Option, Some, length, get_or, slice_get, map, refl, ap, sym, ◌∙◌, subst, arith, append_assoc, length-append}
use Rattle.std.specs.List.{range_with_len}
use Rattle.std.proofs.lemmas.Option.{slice_get_within, get_or_from_slice_get, same_Some}
use Rattle.std.proofs.lemmas.List.FromFn.{length-map-range_with_len}
use Rattle.graph_schema.specs.declared.schema.VertexTable.{VertexTable}
use Rattle.graph_schema.specs.declared.schema.EdgeTable.{EdgeTable}
use Rattle.graph_schema.specs.Schema.{SchemaData}
use Rattle.graph_slots.specs.declared.slot.SlotName.{SlotName}
use Rattle.graph_slots.specs.declared.slot.SlotName.TheVariants.{VertexKey, VertexProp, EdgeKey, Source, Destination, Out, Into, EdgeProp}
use Rattle.graph_slots.specs.Slots.{slots, vertex_slots, edge_slots, vertex_table_slots, edge_table_slots}
use Rattle.graph_slots.specs.Numbers.{vertex_start, edge_start, edges_start, slot_number}
use Rattle.graph_slots.proofs.Starts.{vertex_more, edge_more, vertex_zero, edge_zero}
use Rattle.graph_slots.proofs.SlotAt.{get_right, get_range, vertex_slot_count}

-- ---- numbers that follow one another

-- the item at place i has the number n + i
abbrev Follow : {X : Type 0} → (X → ℕ) → ℕ → List X → Type 0
Follow {X} number n xs = (i : ℕ) (x : X) → slice_get xs i ≡ Some x → number x ≡ n + i

follow_nil : {X : Type 0} (number : X → ℕ) (n : ℕ) → Follow number n []
follow_nil number n i x e = cc

follow_cons : {X : Type 0} (number : X → ℕ) (n : ℕ) (y : X) (xs : List X) → number y ≡ n → Follow number (n + 1) xs → Follow number n (y ∷ xs)
follow_cons number n y xs first more zero x e = omega (arith, first, ap number (same_Some _ _ e))
follow_cons number n y xs first more (suc i) x e = omega (arith, more i x e)

follow_append : {X : Type 0} (number : X → ℕ) (n : ℕ) (xs ys : List X) → Follow number n xs → Follow number (n + length xs) ys → Follow number n (xs ++ ys)
follow_append number n [] ys left right i x e = omega (arith, right i x e)
follow_append number n (y ∷ xs) ys left right zero x e = left zero x e
follow_append number n (y ∷ xs) ys left right (suc i) x e =
    let more = follow_append number (n + 1) xs ys (λ j z d. omega (arith, left (suc j) z d)) (λ j z d. omega (arith, right j z d)) i x e in
    omega (arith, more)

follow_range : {X : Type 0} (number : X → ℕ) (f : ℕ → X) (n len : ℕ) → ((p : ℕ) → number (f p) ≡ n + p) → Follow number n (map f (range_with_len 0 len))
follow_range number f n len each i x e =
    let within : i < len = omega (arith, slice_get_within (map f (range_with_len 0 len)) i x e, length-map-range_with_len f 0 len) in
    let is : x ≡ f (0 + i) = same_Some _ _ (sym e ∙ get_range f 0 len i within) in
    ap number is ∙ ap (λ k. number (f k)) (let e : 0 + i ≡ i = omega arith in e) ∙ each i

-- ---- the slots of a schema

here : {X : Type 0} (before : List X) (x : X) (rest : List X) → slice_get (before ++ x ∷ rest) (length before) ≡ Some x
here before x rest = ap (slice_get (before ++ x ∷ rest)) (let e : length before ≡ length before + 0 = omega arith in e) ∙ get_right before (x ∷ rest) 0

vertices_follow : (s : SchemaData) (before rest : List VertexTable) → s.vertices ≡ before ++ rest → Follow (slot_number s) (vertex_start s.vertices (length before)) (vertex_slots (length before) rest)
vertices_follow s before [] all = follow_nil (slot_number s) (vertex_start s.vertices (length before))
vertices_follow s before (x ∷ rest) all =
    let t = length before in
    let number = slot_number s in
    let start = vertex_start s.vertices t in
    let within : t < length s.vertices = omega (arith, ap length all, length-append before (x ∷ rest)) in
    let is : get_or s.vertices t x ≡ x = get_or_from_slice_get s.vertices t x x (ap (λ xs. slice_get xs t) all ∙ here before x rest) in
    let long : length (map (VertexProp t) (range_with_len 0 (length x.props))) ≡ length x.props = length-map-range_with_len (VertexProp t) 0 (length x.props) in
    let next : vertex_start s.vertices (t + 1) ≡ start + length (vertex_table_slots t x) = omega (arith, vertex_more s.vertices t x within, ap (λ (y : VertexTable). length y.props) is, long) in
    let place : length (before ++ x ∷ []) ≡ t + 1 = length-append before (x ∷ []) in
    let more : Follow number (vertex_start s.vertices (t + 1)) (vertex_slots (t + 1) rest) = subst (λ n. Follow number (vertex_start s.vertices n) (vertex_slots n rest)) place (vertices_follow s (before ++ x ∷ []) rest (all ∙ sym (append_assoc before (x ∷ []) rest))) in
    follow_append number start (vertex_table_slots t x) (vertex_slots (t + 1) rest)
    (follow_cons number start (VertexKey t) (map (VertexProp t) (range_with_len 0 (length x.props))) refl (follow_range number (VertexProp t) (start + 1) (length x.props) (λ p. omega arith)))
    (subst (λ n. Follow number n (vertex_slots (t + 1) rest)) next more)

edges_follow : (s : SchemaData) (before rest : List EdgeTable) → s.edges ≡ before ++ rest → Follow (slot_number s) (edges_start s + edge_start s.edges (length before)) (edge_slots (length before) rest)
edges_follow s before [] all = follow_nil (slot_number s) (edges_start s + edge_start s.edges (length before))
edges_follow s before (x ∷ rest) all =
    let t = length before in
    let number = slot_number s in
    let start = edges_start s + edge_start s.edges t in
    let names : List SlotName = map (EdgeProp t) (range_with_len 0 (length x.props)) in
    let within : t < length s.edges = omega (arith, ap length all, length-append before (x ∷ rest)) in
    let is : get_or s.edges t x ≡ x = get_or_from_slice_get s.edges t x x (ap (λ xs. slice_get xs t) all ∙ here before x rest) in
    let long : length names ≡ length x.props = length-map-range_with_len (EdgeProp t) 0 (length x.props) in
    let next : edges_start s + edge_start s.edges (t + 1) ≡ start + length (edge_table_slots t x) = omega (arith, edge_more s.edges t x within, ap (λ (y : EdgeTable). length y.props) is, long) in
    let place : length (before ++ x ∷ []) ≡ t + 1 = length-append before (x ∷ []) in
    let more : Follow number (edges_start s + edge_start s.edges (t + 1)) (edge_slots (t + 1) rest) = subst (λ n. Follow number (edges_start s + edge_start s.edges n) (edge_slots n rest)) place (edges_follow s (before ++ x ∷ []) rest (all ∙ sym (append_assoc before (x ∷ []) rest))) in
    let props = follow_range number (EdgeProp t) (((((start + 1) + 1) + 1) + 1) + 1) (length x.props) (λ p. omega arith) in
    let into = follow_cons number ((((start + 1) + 1) + 1) + 1) (Into t) names (omega arith) props in
    let out = follow_cons number (((start + 1) + 1) + 1) (Out t) (Into t ∷ names) (omega arith) into in
    let destination = follow_cons number ((start + 1) + 1) (Destination t) (Out t ∷ Into t ∷ names) (omega arith) out in
    let source = follow_cons number (start + 1) (Source t) (Destination t ∷ Out t ∷ Into t ∷ names) (omega arith) destination in
    follow_append number start (edge_table_slots t x) (edge_slots (t + 1) rest)
    (follow_cons number start (EdgeKey t) (Source t ∷ Destination t ∷ Out t ∷ Into t ∷ names) refl source)
    (subst (λ n. Follow number n (edge_slots (t + 1) rest)) next more)

-- the number of a slot is its place in slot order
pub number_at : (s : SchemaData) (i : ℕ) (x : SlotName) → slice_get (slots s) i ≡ Some x → slot_number s x ≡ i
number_at s i x there =
    let number = slot_number s in
    let vertices : Follow number 0 (vertex_slots 0 s.vertices) = subst (λ n. Follow number n (vertex_slots 0 s.vertices)) (vertex_zero s.vertices) (vertices_follow s [] s.vertices refl) in
    let start : edges_start s + edge_start s.edges 0 ≡ 0 + length (vertex_slots 0 s.vertices) = omega (arith, edge_zero s.edges, vertex_slot_count 0 s.vertices) in
    let edges : Follow number (0 + length (vertex_slots 0 s.vertices)) (edge_slots 0 s.edges) = subst (λ n. Follow number n (edge_slots 0 s.edges)) start (edges_follow s [] s.edges refl) in
    omega (arith, follow_append number 0 (vertex_slots 0 s.vertices) (edge_slots 0 s.edges) vertices edges i x there)

-- ---- numbers that slots keep

-- what stands at a place among the values of a function comes of the item there
pub record Comes {X Y : Type 0} (f : X → Y) (xs : List X) (i : ℕ) (y : Y) : Type 0 where
  pub item : X
  pub there : slice_get xs i ≡ Some item
  pub gives : f item ≡ y

pub comes : {X Y : Type 0} (f : X → Y) (xs : List X) (i : ℕ) (y : Y) → slice_get (map f xs) i ≡ Some y → Comes f xs i y
comes f [] i y e = cc
comes f (x ∷ xs) zero y e = record { item = x; there = refl; gives = same_Some _ _ e }
comes f (x ∷ xs) (suc i) y e = let c = comes f xs i y e in record { item = c.item; there = c.there; gives = c.gives }

-- a slot that keeps a number keeps its own, so the number is the slot's place
own_number : (s : SchemaData) (f : SlotName → Option ℕ) → ((x : SlotName) (n : ℕ) → f x ≡ Some n → n ≡ slot_number s x) → (i n : ℕ) → slice_get (map f (slots s)) i ≡ Some (Some n) → n ≡ i
own_number s f own i n e =
    let c = comes f (slots s) i (Some n) e in
    own c.item n c.gives ∙ number_at s i c.item c.there

-- no number is kept twice
pub numbers_once : (s : SchemaData) (f : SlotName → Option ℕ) → ((x : SlotName) (n : ℕ) → f x ≡ Some n → n ≡ slot_number s x) → (i j n : ℕ) → slice_get (map f (slots s)) i ≡ Some (Some n) → slice_get (map f (slots s)) j ≡ Some (Some n) → i ≡ j
numbers_once s f own i j n first second = sym (own_number s f own i n first) ∙ own_number s f own j n second

-- and each is the number of a slot
pub numbers_known : (s : SchemaData) (f : SlotName → Option ℕ) → ((x : SlotName) (n : ℕ) → f x ≡ Some n → n ≡ slot_number s x) → (i n : ℕ) → slice_get (map f (slots s)) i ≡ Some (Some n) → n < length (slots s)
numbers_known s f own i n e =
    let c = comes f (slots s) i (Some n) e in
    omega (arith, own_number s f own i n e, slice_get_within (slots s) i c.item c.there)
