-- places that move with a sort
use Rattle.std.proofs.Common.{◌≡◌, ◌≢◌, ℕ, zero, suc, ◌+◌, ◌<◌, ◌≤◌, ℤ, Bool, true, false, ◌==◌, List, [], ◌∷◌, ◌++◌, Some, All, length, get_or, set, map, slice_get, refl, ap, sym, ◌∙◌, subst, arith, length-append}
use Rattle.std.proofs.lemmas.Bool.Decides.{nat_tests}
use Rattle.std.proofs.lemmas.List.{length-set, get_or-set_other, get_or-set_same}
use Rattle.graph_model.specs.declared.row.EdgeRow.{EdgeRow}
use Rattle.graph_model.specs.Keys.{rows_at}
use Rattle.graph_model.specs.Graph.{GraphData, IsGraph, has_vertex_in, vertex_key, source_at, destination_at}
use Rattle.graph_slots.specs.Meaning.{place_in, source_places, destination_places}
use Rattle.graph_slots.proofs.Kept.{ends_stand, map_map, map_same}
use Rattle.graph_snap.proofs.GraphOf.{place_found}
use Rattle.graph_model.specs.declared.row.VertexRow.{VertexRow}
use Rattle.graph_columns.proofs.EndPlaces.{few_vertices_in}
use Rattle.graph_mutate.specs.Sorted.{sorted, row_degree}
use Rattle.graph_mutate.specs.Ranks.{order_of, Inverts, table_order}
use Rattle.graph_mutate.proofs.Degree.{blank, some_key, place_is}
use Rattle.graph_mutate.proofs.Order.{in_order, order_within, taken_order, keyed, taken_at}
use Rattle.graph_mutate.proofs.Gathering.{length-taken}
use Rattle.graph_mutate.proofs.Falling.{falling_length, rows_sorted, vertex_stays, sorted_is}
use Rattle.std.proofs.lemmas.List.Elements.{All-map}
use Rattle.std.proofs.lemmas.Option.{slice_get-map}
use Rattle.std.specs.Option.{option_map}

-- ---- the loop that writes the new places

pub record InvertsSoFar (order new : List ℕ) (i : ℕ) : Type 0 where
  pub count : length new ≡ length order
  pub within : (j : ℕ) → j < i → get_or new (get_or order j 0) 0 < length order
  pub back : (j : ℕ) → j < i → get_or order (get_or new (get_or order j 0) 0) 0 ≡ get_or order j 0

pub inverts_nothing : (order new : List ℕ) → length new ≡ length order → InvertsSoFar order new 0
inverts_nothing order new e = record { count = e; within = λ j h. absurd (omega arith); back = λ j h. absurd (omega arith) }

-- the new place that is written
written : (order new : List ℕ) (i j : ℕ) → i < length order → get_or order i 0 < length new → (b : Bool) → (get_or order j 0 == get_or order i 0) ≡ b → (b ≡ false → (get_or new (get_or order j 0) 0 < length order) × (get_or order (get_or new (get_or order j 0) 0) 0 ≡ get_or order j 0)) → (get_or (set new (get_or order i 0) i) (get_or order j 0) 0 < length order) × (get_or order (get_or (set new (get_or order i 0) i) (get_or order j 0) 0) 0 ≡ get_or order j 0)
written order new i j here small true e old =
    let same : get_or order j 0 ≡ get_or order i 0 = grind (arith, nat_tests) in
    let now : get_or (set new (get_or order i 0) i) (get_or order j 0) 0 ≡ i = ap (λ p. get_or (set new (get_or order i 0) i) p 0) same ∙ get_or-set_same new (get_or order i 0) i 0 small in
    (subst (λ n. n < length order) (sym now) here, ap (λ n. get_or order n 0) now ∙ sym same)
written order new i j here small false e old =
    let apart : get_or order j 0 ≢ get_or order i 0 = grind (arith, nat_tests) in
    let now = get_or-set_other new (get_or order i 0) (get_or order j 0) i 0 apart in
    let was = old refl in
    (subst (λ n. n < length order) (sym now) was.0, ap (λ n. get_or order n 0) now ∙ was.1)

before_by : (order new : List ℕ) (i j : ℕ) → j < i + 1 → InvertsSoFar order new i → (get_or order j 0 == get_or order i 0) ≡ false → (b : Bool) → (j == i) ≡ b → (get_or new (get_or order j 0) 0 < length order) × (get_or order (get_or new (get_or order j 0) 0) 0 ≡ get_or order j 0)
before_by order new i j h so_far apart true e =
    let same : j ≡ i = grind (arith, nat_tests) in
    let equal : get_or order j 0 ≡ get_or order i 0 = ap (λ n. get_or order n 0) same in
    let test : (get_or order j 0 == get_or order i 0) ≡ true = grind (arith, nat_tests) in
    let never = sym test ∙ apart in cc
before_by order new i j h so_far apart false e =
    let small : j < i = grind (arith, nat_tests) in
    (so_far.within j small, so_far.back j small)

before : (order new : List ℕ) (i j : ℕ) → j < i + 1 → InvertsSoFar order new i → (get_or order j 0 == get_or order i 0) ≡ false → (get_or new (get_or order j 0) 0 < length order) × (get_or order (get_or new (get_or order j 0) 0) 0 ≡ get_or order j 0)
before order new i j h so_far apart = before_by order new i j h so_far apart (j == i) refl

pub inverts_more : (order new after : List ℕ) (i : ℕ) → i < length order → All (λ p. p < length order) order → InvertsSoFar order new i → after ≡ set new (get_or order i 0) i → InvertsSoFar order after (i + 1)
inverts_more order new after i here all so_far grown =
    let small : get_or order i 0 < length new = omega (arith, all i 0 here, so_far.count) in
    let each = λ (j : ℕ) (h : j < i + 1). written order new i j here small (get_or order j 0 == get_or order i 0) refl (before order new i j h so_far) in
    subst (λ xs. InvertsSoFar order xs (i + 1)) (sym grown)
    (record { count = length-set new (get_or order i 0) i ∙ so_far.count; within = λ j h. (each j h).0; back = λ j h. (each j h).1 })

pub inverts_all : (order new : List ℕ) (i : ℕ) → length order ≤ i → InvertsSoFar order new i → Inverts order new
inverts_all order new i past so_far = record { count = so_far.count; within = λ j h. so_far.within j (omega arith); back = λ j h. so_far.back j (omega arith) }

-- ---- the ends of edges

pub order_long : (n : VertexRow → ℕ) (rows : List VertexRow) → length (order_of n rows) ≡ length rows
order_long n rows = sym (length-taken rows (order_of n rows) (order_within n rows)) ∙ ap length (taken_order n rows) ∙ falling_length n rows

-- a vertex stands in the sorted graph where the order has its place
sorted_place : (g : GraphData) (t j : ℕ) (k : ℤ) → IsGraph g → j < length (table_order g t) → has_vertex_in k (rows_at g.vertices t) ≡ true → slice_get (map vertex_key (rows_at g.vertices t)) (get_or (table_order g t) j 0) ≡ Some k → place_in (rows_at (sorted g).vertices t) k ≡ j
sorted_place g t j k is small has key =
    let rows = rows_at g.vertices t in
    let n = row_degree g t in
    let order = table_order g t in
    let row = keyed rows (get_or order j 0) k key in
    let there : slice_get (rows_at (sorted g).vertices t) j ≡ Some row.0 = ap (λ xs. slice_get xs j) (rows_sorted g t ∙ sym (taken_order n rows)) ∙ taken_at rows order j (order_within n rows) small ∙ row.1.0 in
    let key_there : slice_get (map vertex_key (rows_at (sorted g).vertices t)) j ≡ Some k = slice_get-map vertex_key (rows_at (sorted g).vertices t) j ∙ ap (option_map vertex_key) there ∙ ap Some row.1.1 in
    place_is (sorted g) t j k (sorted_is g is) (vertex_stays g k t ∙ has) key_there

-- the new place of a vertex
pub record Moves (g : GraphData) (u : ℕ) (new : List ℕ) (k : ℤ) : Type 0 where
  pub place : get_or new (place_in (rows_at g.vertices u) k) 0 ≡ place_in (rows_at (sorted g).vertices u) k
  pub small : get_or new (place_in (rows_at g.vertices u) k) 0 < length (rows_at g.vertices u)

pub moved_place : (g : GraphData) (u : ℕ) (k : ℤ) (new : List ℕ) → IsGraph g → Inverts (table_order g u) new → has_vertex_in k (rows_at g.vertices u) ≡ true → Moves g u new k
moved_place g u k new is inverts has =
    let rows = rows_at g.vertices u in
    let n = row_degree g u in
    let order = table_order g u in
    let p = place_in rows k in
    let found = place_found k rows blank has in
    let at = in_order n rows p found.0 in
    let i = get_or new p 0 in
    let within : i < length order = subst (λ q. get_or new q 0 < length order) at.1.1 (inverts.within at.0 at.1.0) in
    let back : get_or order i 0 ≡ p = ap (λ q. get_or order (get_or new q 0) 0) (sym at.1.1) ∙ inverts.back at.0 at.1.0 ∙ at.1.1 in
    let key : slice_get (map vertex_key rows) (get_or order i 0) ≡ Some k = ap (slice_get (map vertex_key rows)) back ∙ some_key g u p found.0 ∙ ap Some found.1 in
    record { place = sym (sorted_place g u i k is within has key); small = omega (arith, within, order_long n rows) }

-- what moving the ends of a table gives
pub record EndsMoved (g : GraphData) (new : List ℕ) (u : ℕ) (ns : List ℕ) (sorted_ns : List ℕ) : Type 0 where
  pub places : map (λ p. get_or new p 0) ns ≡ sorted_ns
  pub small : All (λ p. get_or new p 0 < 1048576) ns

pub moved_sources : (g : GraphData) (t : ℕ) (new : List ℕ) → IsGraph g → Inverts (table_order g (source_at g.schema t)) new → EndsMoved g new (source_at g.schema t) (source_places g t) (source_places (sorted g) t)
moved_sources g t new is inverts =
    let u = source_at g.schema t in
    let each = λ (i : ℕ) (d : EdgeRow) (h : i < length (rows_at g.edges t)). moved_place g u (get_or (rows_at g.edges t) i d).source new is inverts (ends_stand g t is i d h).source in
    record {
      places = map_map (λ (r : EdgeRow). place_in (rows_at g.vertices u) r.source) (λ p. get_or new p 0) (λ (r : EdgeRow). get_or new (place_in (rows_at g.vertices u) r.source) 0) (rows_at g.edges t) (λ r. refl)
          ∙ map_same (λ (r : EdgeRow). get_or new (place_in (rows_at g.vertices u) r.source) 0) (λ (r : EdgeRow). place_in (rows_at (sorted g).vertices u) r.source) (rows_at g.edges t) (λ i d h. (each i d h).place);
      small = All-map (λ p. get_or new p 0 < 1048576) (λ (r : EdgeRow). place_in (rows_at g.vertices u) r.source) (rows_at g.edges t) (λ i d h. omega (arith, (each i d h).small, few_vertices_in g u is));
    }

pub moved_destinations : (g : GraphData) (t : ℕ) (new : List ℕ) → IsGraph g → Inverts (table_order g (destination_at g.schema t)) new → EndsMoved g new (destination_at g.schema t) (destination_places g t) (destination_places (sorted g) t)
moved_destinations g t new is inverts =
    let u = destination_at g.schema t in
    let each = λ (i : ℕ) (d : EdgeRow) (h : i < length (rows_at g.edges t)). moved_place g u (get_or (rows_at g.edges t) i d).destination new is inverts (ends_stand g t is i d h).destination in
    record {
      places = map_map (λ (r : EdgeRow). place_in (rows_at g.vertices u) r.destination) (λ p. get_or new p 0) (λ (r : EdgeRow). get_or new (place_in (rows_at g.vertices u) r.destination) 0) (rows_at g.edges t) (λ r. refl)
          ∙ map_same (λ (r : EdgeRow). get_or new (place_in (rows_at g.vertices u) r.destination) 0) (λ (r : EdgeRow). place_in (rows_at (sorted g).vertices u) r.destination) (rows_at g.edges t) (λ i d h. (each i d h).place);
      small = All-map (λ p. get_or new p 0 < 1048576) (λ (r : EdgeRow). place_in (rows_at g.vertices u) r.destination) (rows_at g.edges t) (λ i d h. omega (arith, (each i d h).small, few_vertices_in g u is));
    }

-- ---- table by table

pub record InversesSoFar (g : GraphData) (new : List (List ℕ)) (n : ℕ) : Type 0 where
  pub count : length new ≡ n
  pub each : (t : ℕ) → t < n → Inverts (table_order g t) (get_or new t [])

get_left_or : (xs : List (List ℕ)) (ys : List (List ℕ)) (i : ℕ) → i < length xs → get_or (xs ++ ys) i [] ≡ get_or xs i []
get_left_or [] ys i h = absurd (omega arith)
get_left_or (x ∷ xs) ys zero h = refl
get_left_or (x ∷ xs) ys (suc i) h = get_left_or xs ys i (omega arith)

get_last_or : (xs : List (List ℕ)) (y : List ℕ) → get_or (xs ++ y ∷ []) (length xs) [] ≡ y
get_last_or [] y = refl
get_last_or (x ∷ xs) y = get_last_or xs y

next_inverse : (g : GraphData) (new : List (List ℕ)) (y : List ℕ) (n t : ℕ) (b : Bool) → (t == n) ≡ b → t < n + 1 → InversesSoFar g new n → Inverts (table_order g n) y → Inverts (table_order g t) (get_or (new ++ y ∷ []) t [])
next_inverse g new y n t true e h so_far one =
    let same : t ≡ n = grind (arith, nat_tests) in
    let last : get_or (new ++ y ∷ []) t [] ≡ y = ap (λ i. get_or (new ++ y ∷ []) i []) (same ∙ sym so_far.count) ∙ get_last_or new y in
    subst (λ z. Inverts (table_order g t) z) (sym last) (subst (λ i. Inverts (table_order g i) y) (sym same) one)
next_inverse g new y n t false e h so_far one =
    let small : t < n = grind (arith, nat_tests) in
    let left : get_or (new ++ y ∷ []) t [] ≡ get_or new t [] = get_left_or new (y ∷ []) t (omega (arith, small, so_far.count)) in
    subst (λ z. Inverts (table_order g t) z) (sym left) (so_far.each t small)

pub inverses_more : (g : GraphData) (new after : List (List ℕ)) (y : List ℕ) (n : ℕ) → InversesSoFar g new n → Inverts (table_order g n) y → after ≡ new ++ y ∷ [] → InversesSoFar g after (n + 1)
inverses_more g new after y n so_far one grown =
    subst (λ xs. InversesSoFar g xs (n + 1)) (sym grown)
    (record { count = omega (arith, length-append new (y ∷ []), so_far.count); each = λ t h. next_inverse g new y n t (t == n) refl h so_far one })
