-- which edges stay, told by the places of their ends
use Rattle.std.proofs.Common.{◌≡◌, ℕ, zero, suc, ◌+◌, ℤ, pos, Bool, true, false, not, ◌&&◌, ◌||◌, List, [], ◌∷◌, ◌++◌, All, get_or, take, cond, refl, ap, sym, ◌∙◌, arith, append-nil}
use Rattle.std.specs.Prelude.{◌==◌}
use Rattle.std.specs.List.{list_any}
use Rattle.std.specs.Ordering.{int_eq}
use Rattle.std.proofs.lemmas.Bool.Decides.{Decides-int_eq, nat_tests}
use Rattle.std.proofs.lemmas.List.{take_more}
use Rattle.std.proofs.lemmas.List.Elements.{All-cons}
use Rattle.graph_model.specs.declared.row.EdgeRow.{EdgeRow}
use Rattle.graph_model.specs.Keys.{rows_at}
use Rattle.graph_model.specs.Graph.{GraphData, IsGraph, source_at, destination_at}
use Rattle.graph_slots.specs.Meaning.{place_in}
use Rattle.graph_slots.proofs.Kept.{ends_stand, EndsStand}
use Rattle.graph_mutate.specs.Taken.{taken}
use Rattle.graph_mutate.specs.Pairs.{same_pair}
use Rattle.graph_mutate.specs.Undirected.{is_loop}
use Rattle.graph_mutate.specs.Simplified.{same_ends, stays, simple_from}
use Rattle.graph_mutate.proofs.Gathering.{taken_push}
use Rattle.graph_mutate.proofs.Simple.{if_stays, simple_more}
use Rattle.graph_mutate.proofs.Loops.{EdgeThere, ends_there, place_test, loop_test, int_eq_yes, int_eq_no}

-- the places of an edge's ends
abbrev pub from_place : GraphData → ℕ → EdgeRow → ℤ
from_place g t r = pos (place_in (rows_at g.vertices (source_at g.schema t)) r.source)

abbrev pub to_place : GraphData → ℕ → EdgeRow → ℤ
to_place g t r = pos (place_in (rows_at g.vertices (destination_at g.schema t)) r.destination)

abbrev pub loops_at : GraphData → ℕ → Bool
loops_at g t = source_at g.schema t == destination_at g.schema t

-- the test of a pair of places among edges
abbrev pub pair_in : GraphData → ℕ → ℤ → ℤ → List EdgeRow → Bool
pair_in g t s d rows = list_any (λ q. int_eq s (from_place g t q) && int_eq d (to_place g t q)) rows

any_alike : {X : Type 0} (p h : X → Bool) (xs : List X) → All (λ x. p x ≡ h x) xs → list_any p xs ≡ list_any h xs
any_alike p h [] same = refl
any_alike p h (x ∷ xs) same = ap (λ b. b || list_any p xs) (same 0 x (omega arith)) ∙ ap (λ b. h x || b) (any_alike p h xs (λ i d l. same (suc i) d (omega arith)))

all_taken : {X : Type 0} (P : X → Type 0) (n : ℕ) (xs : List X) → All P xs → All P (take n xs)
all_taken P zero xs all = λ i d h. absurd (omega arith)
all_taken P (suc n) [] all = all
all_taken P (suc n) (x ∷ xs) all = All-cons P x (take n xs) (all 0 x (omega arith)) (all_taken P n xs (λ i d l. all (suc i) d (omega arith)))

loop_by : (g : GraphData) (t i : ℕ) (a b : ℤ) (c : Bool) (e : EdgeThere (rows_at g.edges t) i) → loops_at g t ≡ c → IsGraph g → a ≡ from_place g t e.row → b ≡ to_place g t e.row → (c && is_loop e.row) ≡ (c && int_eq a b)
loop_by g t i a b true e loops is from to =
    let one : source_at g.schema t ≡ destination_at g.schema t = grind (arith, nat_tests) in
    loop_test g t i a b e is one from to
loop_by g t i a b false e loops is from to = refl

seen_by : (g : GraphData) (t i : ℕ) (a b : ℤ) (e : EdgeThere (rows_at g.edges t) i) → IsGraph g → a ≡ from_place g t e.row → b ≡ to_place g t e.row → list_any (same_ends e.row) (take i (rows_at g.edges t)) ≡ pair_in g t a b (take i (rows_at g.edges t))
seen_by g t i a b e is from to =
    let rows = rows_at g.edges t in
    let ends = ends_there g t i e is in
    let V = rows_at g.vertices (source_at g.schema t) in
    let W = rows_at g.vertices (destination_at g.schema t) in
    let stand : All (EndsStand g t) rows = ends_stand g t is in
    any_alike (same_ends e.row) (λ q. int_eq a (from_place g t q) && int_eq b (to_place g t q)) (take i rows)
    (all_taken (λ q. same_ends e.row q ≡ (int_eq a (from_place g t q) && int_eq b (to_place g t q))) i rows
    (λ j d l.
    let q = get_or rows j d in
    ap (λ x. x && int_eq e.row.destination q.destination) (place_test V e.row.source q.source ends.source (stand j d l).source)
    ∙ ap (λ x. int_eq (from_place g t e.row) (from_place g t q) && x) (place_test W e.row.destination q.destination ends.destination (stand j d l).destination)
    ∙ ap (λ x. int_eq x (from_place g t q) && int_eq (to_place g t e.row) (to_place g t q)) (sym from)
    ∙ ap (λ x. int_eq a (from_place g t q) && int_eq x (to_place g t q)) (sym to)))

-- ---- a loop's steps

-- what a step over an edge knows: the places of its ends, whether they were seen, and whether it stays
pub record Answered (g : GraphData) (t i : ℕ) (e : EdgeThere (rows_at g.edges t) i) (a b : ℤ) (seen answer : Bool) : Type 0 where
  pub is : IsGraph g
  pub from : a ≡ from_place g t e.row
  pub to : b ≡ to_place g t e.row
  pub seen_is : seen ≡ pair_in g t a b (take i (rows_at g.edges t))
  pub answer_is : answer ≡ (not (loops_at g t && int_eq a b) && not seen)

stays_is : (g : GraphData) (t i : ℕ) (e : EdgeThere (rows_at g.edges t) i) (a b : ℤ) (seen answer : Bool) → Answered g t i e a b seen answer → stays (loops_at g t) (take i (rows_at g.edges t)) e.row ≡ answer
stays_is g t i e a b seen answer w =
    ap (λ c. not c && not (list_any (same_ends e.row) (take i (rows_at g.edges t)))) (loop_by g t i a b (loops_at g t) e refl w.is w.from w.to)
    ∙ ap (λ c. not (loops_at g t && int_eq a b) && not c) (seen_by g t i a b e w.is w.from w.to ∙ sym w.seen_is)
    ∙ sym w.answer_is

simple_step : (g : GraphData) (t i : ℕ) (e : EdgeThere (rows_at g.edges t) i) (a b : ℤ) (seen answer : Bool) → Answered g t i e a b seen answer → simple_from (loops_at g t) [] (take (i + 1) (rows_at g.edges t)) ≡ simple_from (loops_at g t) [] (take i (rows_at g.edges t)) ++ if_stays answer e.row
simple_step g t i e a b seen answer w =
    let rows = rows_at g.edges t in
    let loops = loops_at g t in
    ap (simple_from loops []) (take_more rows i e.row e.within ∙ ap (λ r. take i rows ++ r ∷ []) e.same)
    ∙ simple_more loops [] (take i rows) e.row
    ∙ ap (λ c. simple_from loops [] (take i rows) ++ if_stays c e.row) (stays_is g t i e a b seen answer w)

pub simple_taken : (g : GraphData) (t i : ℕ) (e : EdgeThere (rows_at g.edges t) i) (a b : ℤ) (seen answer : Bool) (places after : List ℕ) → Answered g t i e a b seen answer → answer ≡ true → taken (rows_at g.edges t) places ≡ simple_from (loops_at g t) [] (take i (rows_at g.edges t)) → after ≡ places ++ i ∷ [] → taken (rows_at g.edges t) after ≡ simple_from (loops_at g t) [] (take (i + 1) (rows_at g.edges t))
simple_taken g t i e a b seen answer places after w positive so_far grown =
    let rows = rows_at g.edges t in
    ap (taken rows) grown ∙ taken_push rows places i e.row e.there ∙ ap (λ xs. xs ++ e.row ∷ []) so_far
    ∙ sym (simple_step g t i e a b seen answer w ∙ ap (λ c. simple_from (loops_at g t) [] (take i rows) ++ if_stays c e.row) positive)

pub simple_passed : (g : GraphData) (t i : ℕ) (e : EdgeThere (rows_at g.edges t) i) (a b : ℤ) (seen answer : Bool) (places : List ℕ) → Answered g t i e a b seen answer → answer ≡ false → taken (rows_at g.edges t) places ≡ simple_from (loops_at g t) [] (take i (rows_at g.edges t)) → taken (rows_at g.edges t) places ≡ simple_from (loops_at g t) [] (take (i + 1) (rows_at g.edges t))
simple_passed g t i e a b seen answer places w negative so_far =
    let so = simple_from (loops_at g t) [] (take i (rows_at g.edges t)) in
    so_far ∙ sym (append-nil so) ∙ sym (simple_step g t i e a b seen answer w ∙ ap (λ c. so ++ if_stays c e.row) negative)

-- ---- the set of pairs

or_assoc : (a b c : Bool) → (a || (b || c)) ≡ ((a || b) || c)
or_assoc true b c = refl
or_assoc false b c = refl

or_false_right : (b : Bool) → (b || false) ≡ b
or_false_right true = refl
or_false_right false = refl

any_push : {X : Type 0} (p : X → Bool) (xs : List X) (x : X) → list_any p (xs ++ x ∷ []) ≡ (list_any p xs || p x)
any_push p [] x = or_false_right (p x)
any_push p (y ∷ xs) x = ap (λ b. p y || b) (any_push p xs x) ∙ or_assoc (p y) (list_any p xs) (p x)

or_swapped : (a b : Bool) → (a || b) ≡ (b || a)
or_swapped true true = refl
or_swapped true false = refl
or_swapped false true = refl
or_swapped false false = refl

pub seen_more : (g : GraphData) (t i : ℕ) (e : EdgeThere (rows_at g.edges t) i) (a b s d : ℤ) (before after : Bool) → a ≡ from_place g t e.row → b ≡ to_place g t e.row → before ≡ pair_in g t s d (take i (rows_at g.edges t)) → after ≡ (same_pair (s, d) (a, b) || before) → after ≡ pair_in g t s d (take (i + 1) (rows_at g.edges t))
seen_more g t i e a b s d before after from to so_far grown =
    let rows = rows_at g.edges t in
    let p : EdgeRow → Bool = λ q. int_eq s (from_place g t q) && int_eq d (to_place g t q) in
    let here : p e.row ≡ same_pair (s, d) (a, b) = ap (λ x. int_eq s x && int_eq d (to_place g t e.row)) (sym from) ∙ ap (λ x. int_eq s a && int_eq d x) (sym to) in
    grown ∙ or_swapped (same_pair (s, d) (a, b)) before ∙ ap (λ c. c || same_pair (s, d) (a, b)) so_far
    ∙ ap (λ c. pair_in g t s d (take i rows) || c) (sym here)
    ∙ sym (any_push p (take i rows) e.row)
    ∙ ap (list_any p) (sym (take_more rows i e.row e.within ∙ ap (λ r. take i rows ++ r ∷ []) e.same))

same_by : (a b : ℤ) (c : Bool) → int_eq a b ≡ c → int_eq b a ≡ c
same_by a b true e = int_eq_yes b a (sym ((Decides-int_eq a b).0 e))
same_by a b false e = int_eq_no b a (λ same. let other = int_eq_yes a b (sym same) in cc)

pair_swapped : (a b : ℤ × ℤ) → same_pair a b ≡ same_pair b a
pair_swapped a b = ap (λ c. c && int_eq a.1 b.1) (sym (same_by a.0 b.0 (int_eq a.0 b.0) refl)) ∙ ap (λ c. int_eq b.0 a.0 && c) (sym (same_by a.1 b.1 (int_eq a.1 b.1) refl))

cond_or : (b c : Bool) → cond b true c ≡ (b || c)
cond_or true c = refl
cond_or false c = refl

pub pair_put : (key q : ℤ × ℤ) (before after : Bool) → after ≡ cond (same_pair key q) true before → after ≡ (same_pair q key || before)
pair_put key q before after e = e ∙ ap (λ b. cond b true before) (pair_swapped key q) ∙ cond_or (same_pair q key) before
