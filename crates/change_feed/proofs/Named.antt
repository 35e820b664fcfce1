-- Names find their tables and properties.
use Rattle.std.proofs.Common.{◌≡◌, ◌∙◌, refl, sym, ap, ℕ, zero, suc, ◌+◌, ◌<◌, Bool, true, false, not, cond, nat_lt, List, [], ◌∷◌, length, slice_get, Option, Some, None, arith, ◌≤◌, subst}
use Rattle.std.specs.Prelude.{◌≢◌}
use Rattle.std.specs.List.{AllPairs, position, position_or_len}
use Rattle.std.specs.Str.{bytes_eq}
use Rattle.std.specs.Cmp.Lexicographic.{bytes_decides}
use Rattle.std.proofs.lemmas.Bool.Decides.{nat_tests}
use Rattle.graph_schema.specs.declared.schema.VertexTable.{VertexTable}
use Rattle.graph_schema.specs.declared.schema.EdgeTable.{EdgeTable}
use Rattle.graph_schema.specs.Schema.{SchemaData, IsSchema}
use Rattle.graph_schema.proofs.Sound.{few_vertex_props, few_edge_props}
use Rattle.graph_model.specs.Graph.{vertex_table_props, edge_table_props}
use Rattle.graph_model.proofs.Rows.{got}
use Rattle.change_feed.specs.declared.verb.Verb.{Verb}
use Rattle.change_feed.specs.declared.verb.Verb.TheVariants as verb
use Rattle.change_feed.specs.Row.{props_of}

-- ---- the place of the first that passes

first_by : {X : Type 0} (p : X → Bool) (x : X) (xs : List X) (n i : ℕ) (b : Bool) → p x ≡ b → cond {A = ℕ} (not b) (1 + n) 0 ≡ i → i < length (x ∷ xs)
    → (n < length xs → (y : X) × (slice_get xs n ≡ Some y) × (p y ≡ true)) → (y : X) × (slice_get (x ∷ xs) i ≡ Some y) × (p y ≡ true)
first_by p x xs n i true is e within later = (x, ap (slice_get (x ∷ xs)) (sym e), is)
first_by p x xs n i false is e within later =
    let next : suc n ≡ i = omega (arith, e) in
    let rest = later (omega (arith, e, within)) in
    (rest.0, sym (ap (slice_get (x ∷ xs)) next) ∙ rest.1, rest.2)

first_passes : {X : Type 0} (p : X → Bool) (xs : List X) (i : ℕ) → position_or_len p xs ≡ i → i < length xs → (y : X) × (slice_get xs i ≡ Some y) × (p y ≡ true)
first_passes p [] i e within = absurd (omega arith)
first_passes p (x ∷ xs) i e within = first_by p x xs (position_or_len p xs) i (p x) refl e within (λ h. first_passes p xs (position_or_len p xs) refl h)

some_is : (n i : ℕ) (b : Bool) → cond b (Some n) None ≡ Some i → (b ≡ true) × (n ≡ i)
some_is n i true e = (refl, cc)
some_is n i false e = cc

-- where a place is found, an item that passes stands there
pub position_is : {X : Type 0} (p : X → Bool) (xs : List X) (i : ℕ) → position p xs ≡ Some i → (y : X) × (slice_get xs i ≡ Some y) × (p y ≡ true)
position_is p xs i e =
    let q = some_is (position_or_len p xs) i (nat_lt (position_or_len p xs) (length xs)) e in
    first_passes p xs i q.1 (grind (arith, nat_tests, q.0, q.1))

pub position_within : {X : Type 0} (p : X → Bool) (xs : List X) (i : ℕ) → position p xs ≡ Some i → i < length xs
position_within p xs i e =
    let q = some_is (position_or_len p xs) i (nat_lt (position_or_len p xs) (length xs)) e in
    grind (arith, nat_tests, q.0, q.1)

here_by : (b : Bool) (n : ℕ) → b ≡ true → cond {A = ℕ} (not b) (1 + n) 0 ≡ 0
here_by true n e = refl
here_by false n e = cc

later_by : (b : Bool) (n i : ℕ) → b ≡ false → n ≡ i → cond {A = ℕ} (not b) (1 + n) 0 ≡ suc i
later_by true n i e f = cc
later_by false n i e f = omega arith

same_item : {X : Type 0} (x y : X) → Some x ≡ Some y → x ≡ y
same_item x y e = cc

place_is : {X : Type 0} (p : X → Bool) (xs : List X) (i : ℕ) (x : X) → slice_get xs i ≡ Some x → p x ≡ true → ((j : ℕ) (y : X) → j < i → slice_get xs j ≡ Some y → p y ≡ false) → position_or_len p xs ≡ i
place_is p [] i x there passes before = cc
place_is p (y ∷ xs) zero x there passes before = here_by (p y) (position_or_len p xs) (ap p (same_item y x there) ∙ passes)
place_is p (y ∷ xs) (suc i) x there passes before =
    later_by (p y) (position_or_len p xs) i (before 0 y (omega arith) refl) (place_is p xs i x there passes (λ j z lower at. before (suc j) z (omega (arith, lower)) at))

some_by : (b : Bool) (n i : ℕ) → b ≡ true → n ≡ i → cond b (Some n) None ≡ Some i
some_by true n i e f = ap Some f
some_by false n i e f = cc

-- an item that passes, where none before it does, stands at the place that is found
position_of : {X : Type 0} (p : X → Bool) (xs : List X) (i : ℕ) (x : X) → slice_get xs i ≡ Some x → p x ≡ true → ((j : ℕ) (y : X) → j < i → slice_get xs j ≡ Some y → p y ≡ false) → position p xs ≡ Some i
position_of p xs i x there passes before =
    let same = place_is p xs i x there passes before in
    let within = (got xs i x x there).0 in
    some_by (nat_lt (position_or_len p xs) (length xs)) (position_or_len p xs) i (grind (arith, nat_tests, same, within)) same

-- ---- names

false_unless : (b : Bool) → (b ≡ true → ⊥) → b ≡ false
false_unless true h = absurd (h refl)
false_unless false h = refl

-- of items whose names differ, each is found by its name
pub found_by_name : {X : Type 0} (name : X → List ℕ) (xs : List X) (i : ℕ) (x : X) → AllPairs (λ a b. name a ≢ name b) xs → slice_get xs i ≡ Some x → position (λ y. bytes_eq (name y) (name x)) xs ≡ Some i
found_by_name name xs i x differ there =
    position_of (λ y. bytes_eq (name y) (name x)) xs i x there ((bytes_decides (name x) (name x)).1 refl)
    (λ j y lower at.
    false_unless (bytes_eq (name y) (name x)) (λ same.
    let here = got xs i x x there in
    let before = got xs j y x at in
    differ j i x lower here.0 (ap name before.1 ∙ (bytes_decides (name y) (name x)).0 same ∙ sym (ap name here.1))))

-- ---- properties are few

vertex_few : (s : SchemaData) (t : ℕ) (o : Option VertexTable) → slice_get s.vertices t ≡ o → IsSchema s → length (vertex_table_props o) ≤ 64
vertex_few s t None at is = omega arith
vertex_few s t (Some x) at is =
    let seat = got s.vertices t x x at in
    subst (λ (y : VertexTable). length y.props ≤ 64) seat.1 (few_vertex_props s is t x seat.0)

edge_few : (s : SchemaData) (t : ℕ) (o : Option EdgeTable) → slice_get s.edges t ≡ o → IsSchema s → length (edge_table_props o) ≤ 64
edge_few s t None at is = omega arith
edge_few s t (Some x) at is =
    let seat = got s.edges t x x at in
    subst (λ (y : EdgeTable). length y.props ≤ 64) seat.1 (few_edge_props s is t x seat.0)

pub props_few : (s : SchemaData) (v : Verb) (t : ℕ) → IsSchema s → length (props_of s v t) ≤ 64
props_few s verb.InsertVertex t is = vertex_few s t (slice_get s.vertices t) refl is
props_few s verb.DeleteVertex t is = vertex_few s t (slice_get s.vertices t) refl is
props_few s verb.InsertEdge t is = edge_few s t (slice_get s.edges t) refl is
props_few s verb.DeleteEdge t is = edge_few s t (slice_get s.edges t) refl is
props_few s verb.SetVertex t is = vertex_few s t (slice_get s.vertices t) refl is
props_few s verb.SetEdge t is = edge_few s t (slice_get s.edges t) refl is
