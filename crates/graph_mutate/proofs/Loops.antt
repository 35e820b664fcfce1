-- edges whose ends are read by their places
use Rattle.std.proofs.Common.{◌≡◌, ℕ, ◌+◌, ◌<◌, ℤ, pos, Bool, true, false, not, List, [], ◌∷◌, ◌++◌, None, Some, length, get_or, map, take, slice_get, cond, refl, ap, sym, ◌∙◌, arith, append-nil, length-append}
use Rattle.std.specs.Ordering.{int_eq}
use Rattle.std.proofs.lemmas.Bool.Decides.{Decides-int_eq}
use Rattle.std.proofs.lemmas.List.{length-map, get_or-map}
use Rattle.std.proofs.lemmas.List.Elements.{filter_more}
use Rattle.std.proofs.lemmas.Option.{slice_get-get_or}
use Rattle.graph_model.specs.declared.row.VertexRow.{VertexRow}
use Rattle.graph_model.specs.declared.row.EdgeRow.{EdgeRow}
use Rattle.graph_model.specs.Keys.{rows_at}
use Rattle.graph_model.proofs.Rows.{within_same}
use Rattle.graph_model.specs.Graph.{GraphData, IsGraph, has_vertex_in, source_at, destination_at}
use Rattle.graph_slots.specs.Meaning.{place_in, source_places, destination_places}
use Rattle.graph_slots.proofs.Kept.{ends_stand}
use Rattle.graph_snap.proofs.GraphOf.{place_found}
use Rattle.graph_mutate.specs.Taken.{taken}
use Rattle.graph_mutate.specs.Undirected.{is_loop, straight, mixed_table}
use Rattle.graph_mutate.proofs.Gathering.{taken_push}
use Rattle.graph_mutate.proofs.ReverseLists.{one_end}

-- ---- two keys of one table are one where their places are

same_key : (rows : List VertexRow) (a b : ℤ) → has_vertex_in a rows ≡ true → has_vertex_in b rows ≡ true → place_in rows a ≡ place_in rows b → a ≡ b
same_key [] a b p q e = cc
same_key (r ∷ rest) a b p q e =
    let rows : List VertexRow = r ∷ rest in
    let first = (place_found a rows r p).1 in
    let second = (place_found b rows r q).1 in
    sym first ∙ ap (λ n. (get_or rows n r).key) e ∙ second

both : (b c : Bool) → (b ≡ true → c ≡ true) → (c ≡ true → b ≡ true) → b ≡ c
both true c f h = sym (f refl)
both false true f h = h refl
both false false f h = refl

same_pos : (m n : ℕ) → pos m ≡ pos n → m ≡ n
same_pos m n e = cc

pub place_test : (rows : List VertexRow) (a b : ℤ) → has_vertex_in a rows ≡ true → has_vertex_in b rows ≡ true → int_eq a b ≡ int_eq (pos (place_in rows a)) (pos (place_in rows b))
place_test rows a b p q =
    let x = pos (place_in rows a) in
    let y = pos (place_in rows b) in
    both (int_eq a b) (int_eq x y)
    (λ t. (Decides-int_eq x y).1 (ap (λ k. pos (place_in rows k)) ((Decides-int_eq a b).0 t)))
    (λ t. (Decides-int_eq a b).1 (same_key rows a b p q (same_pos (place_in rows a) (place_in rows b) ((Decides-int_eq x y).0 t))))

-- ---- the edge at a place

pub record EdgeThere (rows : List EdgeRow) (i : ℕ) : Type 0 where
  pub row : EdgeRow
  pub there : slice_get rows i ≡ Some row
  pub same : get_or rows i row ≡ row
  pub within : i < length rows

pub edge_there : (rows : List EdgeRow) (i : ℕ) → i < length rows → EdgeThere rows i
edge_there [] i h = absurd (omega arith)
edge_there (r ∷ rest) i h =
    let rows : List EdgeRow = r ∷ rest in
    record {
      row = get_or rows i r;
      there = slice_get-get_or rows i r h;
      same = within_same rows i (get_or rows i r) r h;
      within = h;
    }

-- the places of its ends
pub source_read : (g : GraphData) (t i : ℕ) (d : ℤ) (e : EdgeThere (rows_at g.edges t) i) → get_or (map pos (source_places g t)) i d ≡ pos (place_in (rows_at g.vertices (source_at g.schema t)) e.row.source)
source_read g t i d e =
    let rows = rows_at g.edges t in
    let f : EdgeRow → ℕ = λ r. place_in (rows_at g.vertices (source_at g.schema t)) r.source in
    let long : i < length (map f rows) = omega (arith, e.within, length-map rows f) in
    get_or-map pos (map f rows) i 0 d long ∙ ap pos (get_or-map f rows i e.row 0 e.within ∙ ap f e.same)

pub destination_read : (g : GraphData) (t i : ℕ) (d : ℤ) (e : EdgeThere (rows_at g.edges t) i) → get_or (map pos (destination_places g t)) i d ≡ pos (place_in (rows_at g.vertices (destination_at g.schema t)) e.row.destination)
destination_read g t i d e =
    let rows = rows_at g.edges t in
    let f : EdgeRow → ℕ = λ r. place_in (rows_at g.vertices (destination_at g.schema t)) r.destination in
    let long : i < length (map f rows) = omega (arith, e.within, length-map rows f) in
    get_or-map pos (map f rows) i 0 d long ∙ ap pos (get_or-map f rows i e.row 0 e.within ∙ ap f e.same)

-- both are vertices
pub record EndsThere (g : GraphData) (t : ℕ) (r : EdgeRow) : Type 0 where
  pub source : has_vertex_in r.source (rows_at g.vertices (source_at g.schema t)) ≡ true
  pub destination : has_vertex_in r.destination (rows_at g.vertices (destination_at g.schema t)) ≡ true

pub ends_there : (g : GraphData) (t i : ℕ) (e : EdgeThere (rows_at g.edges t) i) → IsGraph g → EndsThere g t e.row
ends_there g t i e is =
    let stand = ends_stand g t is i e.row e.within in
    record {
      source = ap (λ (r : EdgeRow). has_vertex_in r.source (rows_at g.vertices (source_at g.schema t))) (sym e.same) ∙ stand.source;
      destination = ap (λ (r : EdgeRow). has_vertex_in r.destination (rows_at g.vertices (destination_at g.schema t))) (sym e.same) ∙ stand.destination;
    }

-- in a table that starts and ends in one vertex table, an edge is a loop where the places of its ends are one
pub loop_test : (g : GraphData) (t i : ℕ) (a b : ℤ) (e : EdgeThere (rows_at g.edges t) i) → IsGraph g → source_at g.schema t ≡ destination_at g.schema t → a ≡ pos (place_in (rows_at g.vertices (source_at g.schema t)) e.row.source) → b ≡ pos (place_in (rows_at g.vertices (destination_at g.schema t)) e.row.destination) → is_loop e.row ≡ int_eq a b
loop_test g t i a b e is one from to =
    let ends = ends_there g t i e is in
    let rows = rows_at g.vertices (source_at g.schema t) in
    let other : has_vertex_in e.row.destination rows ≡ true = ap (λ u. has_vertex_in e.row.destination (rows_at g.vertices u)) one ∙ ends.destination in
    place_test rows e.row.source e.row.destination ends.source other
    ∙ ap (λ x. int_eq x (pos (place_in rows e.row.destination))) (sym from)
    ∙ ap (int_eq a) (ap (λ u. pos (place_in (rows_at g.vertices u) e.row.destination)) one ∙ sym to)

pub none_mixed : (g : GraphData) (t : ℕ) → mixed_table g ≡ None → source_at g.schema t ≡ destination_at g.schema t
none_mixed g t none = one_end 0 g.schema.edges t none

-- ---- edges that are no loops

straight_step : {rows : List EdgeRow} {i : ℕ} (e : EdgeThere rows i) → straight (take (i + 1) rows) ≡ straight (take i rows) ++ cond (not (is_loop e.row)) (e.row ∷ []) []
straight_step {rows} {i} e =
    filter_more (λ r. not (is_loop r)) rows i e.row e.within
    ∙ ap (λ r. straight (take i rows) ++ cond (not (is_loop r)) (r ∷ []) []) e.same

pub straight_taken : {rows : List EdgeRow} {i : ℕ} (e : EdgeThere rows i) (places after : List ℕ) → is_loop e.row ≡ false → taken rows places ≡ straight (take i rows) → after ≡ places ++ i ∷ [] → taken rows after ≡ straight (take (i + 1) rows)
straight_taken {rows} {i} e places after apart so_far grown =
    ap (taken rows) grown ∙ taken_push rows places i e.row e.there ∙ ap (λ xs. xs ++ e.row ∷ []) so_far
    ∙ sym (straight_step e ∙ ap (λ b. straight (take i rows) ++ cond (not b) (e.row ∷ []) []) apart)

pub straight_passed : {rows : List EdgeRow} {i : ℕ} (e : EdgeThere rows i) (places : List ℕ) → is_loop e.row ≡ true → taken rows places ≡ straight (take i rows) → taken rows places ≡ straight (take (i + 1) rows)
straight_passed {rows} {i} e places same so_far =
    so_far ∙ sym (append-nil (straight (take i rows))) ∙ sym (straight_step e ∙ ap (λ b. straight (take i rows) ++ cond (not b) (e.row ∷ []) []) same)

-- how many there are
pub straight_counted : {rows : List EdgeRow} {i : ℕ} (e : EdgeThere rows i) → is_loop e.row ≡ false → length (straight (take (i + 1) rows)) ≡ length (straight (take i rows)) + 1
straight_counted {rows} {i} e apart = ap length (straight_step e ∙ ap (λ b. straight (take i rows) ++ cond (not b) (e.row ∷ []) []) apart) ∙ length-append (straight (take i rows)) (e.row ∷ [])

pub straight_same : {rows : List EdgeRow} {i : ℕ} (e : EdgeThere rows i) → is_loop e.row ≡ true → length (straight (take (i + 1) rows)) ≡ length (straight (take i rows))
straight_same {rows} {i} e same = ap length (straight_step e ∙ ap (λ b. straight (take i rows) ++ cond (not b) (e.row ∷ []) []) same ∙ append-nil (straight (take i rows)))

-- ---- tests of numbers

differ : (a b : ℤ) (c : Bool) → int_eq a b ≡ c → (a ≡ b → ⊥) → c ≡ false
differ a b true e h = absurd (h ((Decides-int_eq a b).0 e))
differ a b false e h = refl

pub int_eq_no : (a b : ℤ) → (a ≡ b → ⊥) → int_eq a b ≡ false
int_eq_no a b h = differ a b (int_eq a b) refl h

pub int_eq_yes : (a b : ℤ) → a ≡ b → int_eq a b ≡ true
int_eq_yes a b e = (Decides-int_eq a b).1 e
