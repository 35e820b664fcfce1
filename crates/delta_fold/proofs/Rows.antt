-- how many steps a fold takes
use Rattle.std.proofs.Common.{◌≡◌, ℕ, zero, suc, ◌+◌, ◌<◌, ◌≤◌, Bool, true, false, List, [], ◌∷◌, Option, Some, None, length, get_or, set, sum_by, if◌then◌else◌, refl, ap, sym, ◌∙◌, arith, length-append}
use Rattle.std.proofs.lemmas.List.{length-map}
use Rattle.std.proofs.lemmas.List.Sums.{sum_by-cons}
use Rattle.std.proofs.lemmas.Option.{slice_get-get_or}
use Rattle.std.specs.Ordering.{int_eq}
use Rattle.graph_model.specs.declared.row.VertexRow.{VertexRow}
use Rattle.graph_model.specs.declared.row.EdgeRow.{EdgeRow}
use Rattle.graph_model.specs.declared.change.Change.{Change}
use Rattle.graph_model.specs.declared.change.Change.TheVariants.{InsertVertex, DeleteVertex, InsertEdge, DeleteEdge, SetVertex, SetEdge}
use Rattle.graph_model.specs.declared.change.Why.{Why}
use Rattle.graph_model.specs.Keys.{rows_at}
use Rattle.graph_model.specs.Graph.{GraphData, vertex_key, edge_key}
use Rattle.graph_model.proofs.Rows.{length_without}
use Rattle.graph_model.specs.Change.{misfit, changed, changed_unless, apply, with_vertex_value, with_edge_value}
use Rattle.graph_slots.specs.declared.slot.SlotName.{SlotName}
use Rattle.graph_slots.specs.declared.slot.SlotName.TheVariants.{VertexKey, VertexProp, EdgeKey, Source, Destination, Out, Into, EdgeProp}
use Rattle.graph_slots.specs.Slots.{slots}
use Rattle.graph_slots.specs.Numbers.{HasSlot}
use Rattle.graph_slots.specs.Touched.{touched}
use Rattle.graph_columns.specs.SlotSteps.{slot_steps}
use Rattle.graph_snap.proofs.Known.{slot_known}
use Rattle.delta_fold.specs.declared.marks.Marks.{Marks}
use Rattle.delta_fold.specs.Marked.{is_marked}
use Rattle.delta_fold.specs.Folded.{folded}
use Rattle.delta_fold.specs.Steps.{steps_if, new_steps, most_steps}

-- ---- marks are what is touched

sums_at : (f h : SlotName → ℕ) (xs : List SlotName) → ((i : ℕ) (d : SlotName) → i < length xs → f (get_or xs i d) ≡ h (get_or xs i d)) → sum_by f xs ≡ sum_by h xs
sums_at f h [] e = refl
sums_at f h (x ∷ xs) e = sum_by-cons f x xs ∙ ap (λ n. n + sum_by f xs) (e 0 x (omega arith)) ∙ ap (λ n. h x + n) (sums_at f h xs (λ i d l. e (suc i) d (omega arith))) ∙ sym (sum_by-cons h x xs)

pub steps_are : (g : GraphData) (changes : List Change) (graph : GraphData) (m : Marks) → graph ≡ folded g changes → ((x : SlotName) → HasSlot g.schema x → is_marked g.schema m x ≡ touched g changes x) → sum_by (λ x. steps_if (is_marked g.schema m x) (slot_steps graph x)) (slots g.schema) ≡ new_steps g changes
steps_are g changes graph m same marked =
    let names = slots g.schema in
    sums_at (λ x. steps_if (is_marked g.schema m x) (slot_steps graph x)) (λ x. steps_if (touched g changes x) (slot_steps graph x)) names
    (λ i d h. ap (λ b. steps_if b (slot_steps graph (get_or names i d))) (marked (get_or names i d) (slot_known g.schema i (get_or names i d) (slice_get-get_or names i d h))))
    ∙ ap (λ (h : GraphData). sum_by (λ x. steps_if (touched g changes x) (slot_steps h x)) names) same

-- ---- a change makes a table longer by one row at most

one_table : {R : Type 0} (tables : List (List R)) (t u : ℕ) (rows : List R) → length rows ≤ length (rows_at tables t) + 1 → length (rows_at (set tables t rows) u) ≤ length (rows_at tables u) + 1
one_table [] t u rows few = omega arith
one_table (x ∷ tables) zero zero rows few = few
one_table (x ∷ tables) zero (suc u) rows few = omega arith
one_table (x ∷ tables) (suc t) zero rows few = omega arith
one_table (x ∷ tables) (suc t) (suc u) rows few = one_table tables t u rows few

record OneMore (g h : GraphData) : Type 0 where
  vertices : (t : ℕ) → length (rows_at h.vertices t) ≤ length (rows_at g.vertices t) + 1
  edges : (t : ℕ) → length (rows_at h.edges t) ≤ length (rows_at g.edges t) + 1

same_more : (g : GraphData) → OneMore g g
same_more g = record { vertices = λ t. omega arith; edges = λ t. omega arith }

vertices_more : (g : GraphData) (t : ℕ) (rows : List VertexRow) → length rows ≤ length (rows_at g.vertices t) + 1 → OneMore g (record g { vertices = set g.vertices t rows })
vertices_more g t rows few = record { vertices = λ u. one_table g.vertices t u rows few; edges = λ u. omega arith }

edges_more : (g : GraphData) (t : ℕ) (rows : List EdgeRow) → length rows ≤ length (rows_at g.edges t) + 1 → OneMore g (record g { edges = set g.edges t rows })
edges_more g t rows few = record { vertices = λ u. omega arith; edges = λ u. one_table g.edges t u rows few }

changed_more : (g : GraphData) (c : Change) → OneMore g (changed g c)
changed_more g (InsertVertex t k vs) = vertices_more g t _ (omega (arith, length-append (rows_at g.vertices t) (record { key = k; values = vs } ∷ [])))
changed_more g (DeleteVertex t k) = vertices_more g t _ (let few = length_without (λ r. int_eq (vertex_key r) k) (rows_at g.vertices t) in omega (arith, few))
changed_more g (InsertEdge t k s d vs) = edges_more g t _ (omega (arith, length-append (rows_at g.edges t) (record { key = k; source = s; destination = d; values = vs } ∷ [])))
changed_more g (DeleteEdge t k) = edges_more g t _ (let few = length_without (λ r. int_eq (edge_key r) k) (rows_at g.edges t) in omega (arith, few))
changed_more g (SetVertex t k p v) = vertices_more g t _ (omega (arith, length-map (rows_at g.vertices t) (λ r. if int_eq (vertex_key r) k then with_vertex_value p v r else r)))
changed_more g (SetEdge t k p v) = edges_more g t _ (omega (arith, length-map (rows_at g.edges t) (λ r. if int_eq (edge_key r) k then with_edge_value p v r else r)))

applied_by : (g : GraphData) (c : Change) (why : Option Why) → OneMore g (changed_unless why g c)
applied_by g c (Some why) = same_more g
applied_by g c None = changed_more g c

slot_more : (g h : GraphData) (x : SlotName) → OneMore g h → slot_steps h x ≤ slot_steps g x + 1
slot_more g h (VertexKey t) more = more.vertices t
slot_more g h (VertexProp t p) more = more.vertices t
slot_more g h (EdgeKey t) more = more.edges t
slot_more g h (Source t) more = more.edges t
slot_more g h (Destination t) more = more.edges t
slot_more g h (Out t) more = more.edges t
slot_more g h (Into t) more = more.edges t
slot_more g h (EdgeProp t p) more = more.edges t

one_each : (g : GraphData) (changes : List Change) (x : SlotName) → slot_steps (folded g changes) x ≤ slot_steps g x + length changes
one_each g [] x = omega arith
one_each g (c ∷ changes) x =
    let rest = one_each (apply g c) changes x in
    let one = slot_more g (apply g c) x (applied_by g c (misfit g c)) in
    omega (arith, rest, one)

steps_less : (b : Bool) (n m : ℕ) → n ≤ m → steps_if b n ≤ steps_if b m
steps_less true n m few = few
steps_less false n m few = omega arith

sum_at_most : {X : Type 0} (f h : X → ℕ) (xs : List X) → ((x : X) → f x ≤ h x) → sum_by f xs ≤ sum_by h xs
sum_at_most f h [] e = omega arith
sum_at_most f h (x ∷ xs) e = omega (arith, sum_by-cons f x xs, sum_by-cons h x xs, e x, sum_at_most f h xs e)

pub few_steps : (g : GraphData) (changes : List Change) → new_steps g changes ≤ most_steps g changes
few_steps g changes =
    sum_at_most (λ x. steps_if (touched g changes x) (slot_steps (folded g changes) x)) (λ x. steps_if (touched g changes x) (slot_steps g x + length changes)) (slots g.schema)
    (λ x. steps_less (touched g changes x) (slot_steps (folded g changes) x) (slot_steps g x + length changes) (one_each g changes x))
