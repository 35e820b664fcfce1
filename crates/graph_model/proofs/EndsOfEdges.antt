-- An end of edges is told by some edge that starts or ends there.
use Rattle.std.proofs.Common.{◌≡◌, ℕ, ℤ, zero, suc, ◌<◌, Bool, true, false, ◌||◌, ◌&&◌, ◌==◌, ◌⊎◌, ◌↔◌, inl, inr, List, [], ◌∷◌, Some, length, get_or, slice_get, refl, ap, arith}
use Rattle.std.specs.List.{list_any, zip}
use Rattle.std.specs.Ordering.{int_eq}
use Rattle.std.proofs.lemmas.Bool.Decides.{nat_tests, Decides-int_eq}
use Rattle.graph_schema.specs.declared.schema.EdgeTable.{EdgeTable}
use Rattle.graph_schema.specs.Schema.{SchemaData}
use Rattle.graph_model.specs.declared.row.EdgeRow.{EdgeRow}
use Rattle.graph_model.specs.Graph.{source_table, destination_table, ends_at, is_end, is_end_in}
use Rattle.graph_model.specs.KeysAndEnds.{SomeEdgeEndsAt}
use Rattle.graph_model.proofs.Rows.{or_right, some_row}

or_cases : (a b : Bool) → (a || b) ≡ true → (a ≡ true) ⊎ (b ≡ true)
or_cases true b e = inl refl
or_cases false b e = inr e

both : (a b : Bool) → (a && b) ≡ true → (a ≡ true) × (b ≡ true)
both true b e = (refl, e)
both false b e = cc

and_true : (a b : Bool) → a ≡ true → b ≡ true → (a && b) ≡ true
and_true true b e f = f
and_true false b e f = cc

or_left : (a b : Bool) → a ≡ true → (a || b) ≡ true
or_left true b e = refl
or_left false b e = cc

pub any_found : {R : Type 0} (p : R → Bool) (rows : List R) → list_any p rows ≡ true → (i : ℕ) × (r : R) × (slice_get rows i ≡ Some r) × (p r ≡ true)
any_found p [] e = absurd (let no_way : false ≡ true = e in cc)
any_found p (r ∷ rows) e =
    elim (or_cases (p r) (list_any p rows) e) [
      | inl here ↦ (zero, r, refl, here)
      | inr there ↦ let rest = any_found p rows there in (suc rest.0, rest.1, rest.2, rest.3)
    ]

-- an edge of a table with these two end tables starts, or ends, at the vertex of the key in table t
abbrev At : ℕ → ℤ → ℕ → ℕ → EdgeRow → Type 0
At t k source destination r = ((source ≡ t) × (r.source ≡ k)) ⊎ ((destination ≡ t) × (r.destination ≡ k))

at_one : (t : ℕ) (k : ℤ) (s : ℕ) (e : ℤ) → (s == t && int_eq e k) ≡ true → (s ≡ t) × (e ≡ k)
at_one t k s e h =
    let parts = both (s == t) (int_eq e k) h in
    (grind (arith, nat_tests, parts.0), (Decides-int_eq e k).0 parts.1)

one_at : (t : ℕ) (k : ℤ) (s : ℕ) (e : ℤ) → (s ≡ t) × (e ≡ k) → (s == t && int_eq e k) ≡ true
one_at t k s e h = and_true (s == t) (int_eq e k) (grind (arith, nat_tests, h.0)) ((Decides-int_eq e k).1 h.1)

told : (t : ℕ) (k : ℤ) (x : EdgeTable) (r : EdgeRow) → ends_at t k x r ≡ true → At t k x.source x.destination r
told t k x r e =
    elim (or_cases (x.source == t && int_eq r.source k) (x.destination == t && int_eq r.destination k) e) [
      | inl h ↦ inl (at_one t k x.source r.source h)
      | inr h ↦ inr (at_one t k x.destination r.destination h)
    ]

tells : (t : ℕ) (k : ℤ) (x : EdgeTable) (r : EdgeRow) → At t k x.source x.destination r → ends_at t k x r ≡ true
tells t k x r e =
    elim e [
      | inl h ↦ or_left (x.source == t && int_eq r.source k) (x.destination == t && int_eq r.destination k) (one_at t k x.source r.source h)
      | inr h ↦ or_right (x.source == t && int_eq r.source k) (x.destination == t && int_eq r.destination k) (one_at t k x.destination r.destination h)
    ]

abbrev Found : ℕ → ℤ → List EdgeTable → List (List EdgeRow) → Type 0
Found t k xs ys =
    (u : ℕ) × (i : ℕ) × (r : EdgeRow) × (u < length xs) × (slice_get (get_or ys u []) i ≡ Some r) × At t k (source_table (slice_get xs u)) (destination_table (slice_get xs u)) r

found : (t : ℕ) (k : ℤ) (xs : List EdgeTable) (ys : List (List EdgeRow)) → list_any (λ p. is_end_in t k p.0 p.1) (zip xs ys) ≡ true → Found t k xs ys
found t k [] ys e = absurd (let no_way : false ≡ true = e in cc)
found t k (x ∷ xs) [] e = absurd (let no_way : false ≡ true = e in cc)
found t k (x ∷ xs) (y ∷ ys) e =
    elim (or_cases (is_end_in t k x y) (list_any (λ p. is_end_in t k p.0 p.1) (zip xs ys)) e) [
      | inl here ↦ let f = any_found (ends_at t k x) y here in (zero, f.0, f.1, omega arith, f.2, told t k x f.1 f.3)
      | inr there ↦ let f = found t k xs ys there in (suc f.0, f.1, f.2, omega (arith, f.3), f.4, f.5)
    ]

lost : (t : ℕ) (k : ℤ) (xs : List EdgeTable) (ys : List (List EdgeRow)) (u i : ℕ) (r : EdgeRow) → u < length xs → slice_get (get_or ys u []) i ≡ Some r → At t k (source_table (slice_get xs u)) (destination_table (slice_get xs u)) r → list_any (λ p. is_end_in t k p.0 p.1) (zip xs ys) ≡ true
lost t k [] ys u i r within at e = absurd (omega arith)
lost t k (x ∷ xs) [] u i r within at e = cc
lost t k (x ∷ xs) (y ∷ ys) zero i r within at e = or_left (is_end_in t k x y) _ (some_row (ends_at t k x) y i r at (tells t k x r e))
lost t k (x ∷ xs) (y ∷ ys) (suc u) i r within at e = or_right (is_end_in t k x y) _ (lost t k xs ys u i r (omega arith) at e)

pub is_end_of_edges : (s : SchemaData) (t : ℕ) (k : ℤ) (edges : List (List EdgeRow)) → (is_end s t k edges ≡ true) ↔ SomeEdgeEndsAt s t k edges
is_end_of_edges s t k edges = (found t k s.edges edges, λ f. lost t k s.edges edges f.0 f.1 f.2 f.3 f.4 f.5)
