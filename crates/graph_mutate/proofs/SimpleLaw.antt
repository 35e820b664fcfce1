-- the edges that stay, one by one
use Rattle.std.proofs.Common.{◌≡◌, ℕ, ℤ, zero, suc, ◌<◌, Bool, true, false, not, ◌&&◌, List, [], ◌∷◌, ◌++◌, Some, All, Contains, length, get_or, take, slice_get, cond, refl, ap, sym, ◌∙◌, subst, arith, append_assoc, append-nil}
use Rattle.std.specs.List.{AllPairs, list_any}
use Rattle.std.specs.Ordering.{int_eq}
use Rattle.std.proofs.lemmas.List.Elements.{All-cons}
use Rattle.std.proofs.lemmas.List.Kept.{AllPairs-cons}
use Rattle.std.proofs.lemmas.List.Folds.{list_any-append}
use Rattle.std.proofs.lemmas.Bool.Decides.{Decides-int_eq}
use Rattle.graph_model.specs.declared.row.EdgeRow.{EdgeRow}
use Rattle.graph_model.proofs.Rows.{or_false}
use Rattle.graph_mutate.specs.Undirected.{is_loop}
use Rattle.graph_schema.specs.declared.schema.EdgeTable.{EdgeTable}
use Rattle.std.proofs.lemmas.Option.{slice_get_within}
use Rattle.graph_model.specs.Keys.{rows_at}
use Rattle.graph_model.specs.Graph.{GraphData, IsGraph}
use Rattle.graph_model.proofs.Zips.{AllZip-length}
use Rattle.graph_mutate.specs.Laws.{IsSimple}
use Rattle.graph_mutate.specs.Simplified.{has_loops, same_ends, stays, simple_from, simple, simplified}
use Rattle.graph_mutate.proofs.Zipped.{zipped_rows}

both_true : (a b : Bool) → (not a && not b) ≡ true → (a ≡ false) × (b ≡ false)
both_true true b e = cc
both_true false true e = cc
both_true false false e = (refl, refl)

all_by : (P : EdgeRow → Type 0) (b : Bool) (r : EdgeRow) (xs : List EdgeRow) → (b ≡ true → P r) → All P xs → All P (cond b (r ∷ xs) xs)
all_by P true r xs p all = All-cons P r xs (p refl) all
all_by P false r xs p all = all

-- what holds of each edge that passes the test
pub each_stays : (P : EdgeRow → Type 0) (loops : Bool) (before rows : List EdgeRow) → ((q : List EdgeRow) (r : EdgeRow) → stays loops (before ++ q) r ≡ true → P r) → All P (simple_from loops before rows)
each_stays P loops before [] each = λ i d h. absurd (omega arith)
each_stays P loops before (r ∷ rows) each =
    all_by P (stays loops before r) r (simple_from loops (before ++ r ∷ []) rows) (λ e. each [] r (ap (λ b. stays loops b r) (append-nil before) ∙ e))
    (each_stays P loops (before ++ r ∷ []) rows (λ q s e. each (r ∷ q) s (ap (λ b. stays loops b s) (sym (append_assoc before (r ∷ []) q)) ∙ e)))

pub no_loops : (loops : Bool) (rows : List EdgeRow) → All (λ r. (loops && is_loop r) ≡ false) (simple_from loops [] rows)
no_loops loops rows = each_stays (λ r. (loops && is_loop r) ≡ false) loops [] rows (λ q r e. (both_true (loops && is_loop r) (list_any (same_ends r) q) e).0)

unlike : (a b : ℤ) (c : Bool) → int_eq a b ≡ c → (a ≡ b → ⊥) → c ≡ false
unlike a b true e h = absurd (h ((Decides-int_eq a b).0 e))
unlike a b false e h = refl

turned_by : (a b : ℤ) (c : Bool) → int_eq a b ≡ c → int_eq b a ≡ c
turned_by a b true e = (Decides-int_eq b a).1 (sym ((Decides-int_eq a b).0 e))
turned_by a b false e = unlike b a (int_eq b a) refl (λ same. let other = (Decides-int_eq a b).1 (sym same) in cc)

ends_turned : (q r : EdgeRow) → same_ends q r ≡ same_ends r q
ends_turned q r =
    ap (λ c. c && int_eq q.destination r.destination) (sym (turned_by q.source r.source (int_eq q.source r.source) refl))
    ∙ ap (λ c. int_eq r.source q.source && c) (sym (turned_by q.destination r.destination (int_eq q.destination r.destination) refl))

-- none of them has the ends of one that comes before
none_before : (loops : Bool) (before rows : List EdgeRow) → All (λ q. list_any (same_ends q) before ≡ false) (simple_from loops before rows)
none_before loops before rows =
    each_stays (λ q. list_any (same_ends q) before ≡ false) loops before rows
    (λ q r e. (or_false (list_any (same_ends r) before) (list_any (same_ends r) q) (sym (list_any-append (same_ends r) before q) ∙ (both_true (loops && is_loop r) (list_any (same_ends r) (before ++ q)) e).1)).0)

apart_from : (loops : Bool) (before rows : List EdgeRow) (r : EdgeRow) → All (λ q. same_ends r q ≡ false) (simple_from loops (before ++ r ∷ []) rows)
apart_from loops before rows r = λ i d h.
    let q = get_or (simple_from loops (before ++ r ∷ []) rows) i d in
    let none = or_false (list_any (same_ends q) before) (list_any (same_ends q) (r ∷ [])) (sym (list_any-append (same_ends q) before (r ∷ [])) ∙ none_before loops (before ++ r ∷ []) rows i d h) in
    ends_turned r q ∙ (or_false (same_ends q r) false none.1).0

pairs_by : (b : Bool) (r : EdgeRow) (xs : List EdgeRow) → All (λ q. same_ends r q ≡ false) xs → AllPairs (λ q s. same_ends q s ≡ false) xs → AllPairs (λ q s. same_ends q s ≡ false) (cond b (r ∷ xs) xs)
pairs_by true r xs all pairs = AllPairs-cons (λ q s. same_ends q s ≡ false) r xs all pairs
pairs_by false r xs all pairs = pairs

pub one_of_each : (loops : Bool) (before rows : List EdgeRow) → AllPairs (λ q r. same_ends q r ≡ false) (simple_from loops before rows)
one_of_each loops before [] = λ i j d h k. absurd (omega arith)
one_of_each loops before (r ∷ rows) =
    pairs_by (stays loops before r) r (simple_from loops (before ++ r ∷ []) rows) (apart_from loops before rows r) (one_of_each loops (before ++ r ∷ []) rows)

kept_by : (b : Bool) (r : EdgeRow) (xs : List EdgeRow) → b ≡ true → Contains (cond b (r ∷ xs) xs) r
kept_by true r xs e = (0, omega arith, refl)
kept_by false r xs e = cc

later_by : (b : Bool) (q r : EdgeRow) (xs : List EdgeRow) → Contains xs r → Contains (cond b (q ∷ xs) xs) r
later_by true q r xs c = (suc c.0, omega (arith, c.1), c.2)
later_by false q r xs c = c

-- an edge that passes the test stays
pub first_stays : (loops : Bool) (before rows : List EdgeRow) (i : ℕ) (r : EdgeRow) → slice_get rows i ≡ Some r → stays loops (before ++ take i rows) r ≡ true → Contains (simple_from loops before rows) r
first_stays loops before [] i r e passes = cc
first_stays loops before (q ∷ rows) zero r e passes =
    let same : q ≡ r = cc in
    subst (λ x. Contains (simple_from loops before (q ∷ rows)) x) same
    (kept_by (stays loops before q) q (simple_from loops (before ++ q ∷ []) rows) (ap (stays loops before) same ∙ ap (λ b. stays loops b r) (sym (append-nil before)) ∙ passes))
first_stays loops before (q ∷ rows) (suc i) r e passes =
    later_by (stays loops before q) q r (simple_from loops (before ++ q ∷ []) rows)
    (first_stays loops (before ++ q ∷ []) rows i r e (ap (λ b. stays loops b r) (append_assoc before (q ∷ []) (take i rows)) ∙ passes))

pub passes_by : (a b : Bool) → a ≡ false → b ≡ false → (not a && not b) ≡ true
passes_by true b e f = cc
passes_by false true e f = cc
passes_by false false e f = refl

pub simple_is : (x : EdgeTable) (rows : List EdgeRow) → IsSimple x rows (simple x rows)
simple_is x rows = record {
  no_loop = no_loops (has_loops x) rows;
  one_each = one_of_each (has_loops x) [] rows;
  first_stays = λ i r e straight_one none. first_stays (has_loops x) [] rows i r e (passes_by (has_loops x && is_loop r) (list_any (same_ends r) (take i rows)) straight_one none);
}

pub simple_tables : (g : GraphData) (t : ℕ) (x : EdgeTable) → IsGraph g → slice_get g.schema.edges t ≡ Some x → IsSimple x (rows_at g.edges t) (rows_at (simplified g).edges t)
simple_tables g t x is there =
    let small = slice_get_within g.schema.edges t x there in
    let within : t < length g.edges = omega (arith, small, AllZip-length _ _ _ is.edges) in
    subst (IsSimple x (rows_at g.edges t)) (sym (zipped_rows simple g.schema.edges g.edges t x there within)) (simple_is x (rows_at g.edges t))
