-- What tells of a graph whether changes fit follows the changes.
use Rattle.std.proofs.Common.{◌≡◌, ◌∙◌, refl, sym, ap, ℕ, ℤ, ◌+◌, ◌-◌, ◌<◌, ◌≤◌, Bool, true, false, ◌&&◌, cond, List, [], ◌∷◌, ◌++◌, All, length, set, slice_get, Option, Some, None, sum_by, arith}
use Rattle.std.specs.Prelude.{nat_eq, find}
use Rattle.std.specs.Ordering.{int_eq}
use Rattle.std.proofs.lemmas.List.{length-set}
use Rattle.std.proofs.lemmas.List.Sums.{sum_by-set, sum_by_push}
use Rattle.column_types.specs.declared.value.Value.{Value}
use Rattle.graph_schema.specs.declared.schema.Keys.{Keys}
use Rattle.graph_schema.specs.declared.schema.Keys.TheVariants.{Whole, PerTable}
use Rattle.graph_schema.specs.declared.schema.EdgeTable.{EdgeTable}
use Rattle.graph_model.specs.declared.row.VertexRow.{VertexRow}
use Rattle.graph_model.specs.declared.row.EdgeRow.{EdgeRow}
use Rattle.graph_model.specs.declared.change.Change.{Change}
use Rattle.graph_model.specs.declared.change.Change.TheVariants.{InsertVertex, DeleteVertex, InsertEdge, DeleteEdge, SetVertex, SetEdge}
use Rattle.graph_model.specs.Keys.{rows_at, has_key_in, is_taken, count_in, without_key, change_at_key, row_total, value_total}
use Rattle.graph_model.specs.Graph.{GraphData, IsGraph, vertex_key, edge_key, vertex_values, edge_values, vertex_props_at, edge_props_at, has_vertex_in, source_at, destination_at, source_table, destination_table}
use Rattle.graph_model.specs.Change.{misfit, changed, with_vertex_value, with_edge_value}
use Rattle.graph_model.proofs.Rows.{any_map, sum_map, total_push, sum_push, length_without, one_at_least, any_false_at}
use Rattle.graph_model.proofs.Zips.{AllZip-length}
use Rattle.graph_model.proofs.Totals.{rows_changed, values_changed}
use Rattle.graph_model.proofs.Distinct.{once_in}
use Rattle.graph_model.proofs.VertexChanges as v
use Rattle.graph_model.proofs.EdgeChanges as e
use Rattle.graph_columns.proofs.SlotParts.{item_at}
use Rattle.graph_snap.proofs.GraphOf.{vertex_widths, edge_widths}
use Rattle.changeset.specs.declared.state.VertexState.{VertexState}
use Rattle.changeset.specs.declared.state.EdgeState.{EdgeState}
use Rattle.changeset.specs.declared.state.EdgeState.TheVariants.{Gone, There}
use Rattle.changeset.specs.Facts.{facts, vertex_fact, edge_state, one_if, ends_there, end_count, put, more_ends, fewer_ends, edge_gone, noted}
use Rattle.changeset.proofs.Written.{same_facts}
use Rattle.changeset.proofs.Tables.{at_both, answer_after, answer_same, has_pushed, has_without, find_pushed, find_without, find_place, has_found, sum_without, zip_sum}

pub same_state : (a b : VertexState) → a.there ≡ b.there → a.ends ≡ b.ends → a ≡ b
same_state a b p q = λ i. record { there = p i; ends = q i }

-- ---- where a vertex comes or goes

put_by : (f : ℕ → ℤ → VertexState) (t u : ℕ) (k q : ℤ) (b : Bool) (now : VertexState) (c : Bool) → (nat_eq t u && int_eq k q) ≡ c → now.there ≡ cond c b (f u q).there → now.ends ≡ (f u q).ends
    → now ≡ cond c (let x : VertexState = record { there = b; ends = (f t k).ends } in x) (f u q)
put_by f t u k q b now true at there ends =
    let same = at_both t u k q at in
    same_state _ _ there (ends ∙ ap (λ z. (f z q).ends) (sym same.0) ∙ ap (λ z. (f t z).ends) (sym same.1))
put_by f t u k q b now false at there ends = same_state _ _ there ends

module _ (g : GraphData) (t : ℕ) (k : ℤ) (rows : List VertexRow) (b : Bool) (within : t < length g.vertices) (here : (q : ℤ) (d : Bool) → int_eq k q ≡ d → has_vertex_in q rows ≡ cond d b (has_vertex_in q (rows_at g.vertices t))) where
  vertex_put : (u : ℕ) (q : ℤ) → vertex_fact (record g { vertices = set g.vertices t rows }) u q ≡ put (vertex_fact g) t k (record { there = b; ends = (vertex_fact g t k).ends }) u q
  vertex_put u q =
      put_by (vertex_fact g) t u k q b (vertex_fact (record g { vertices = set g.vertices t rows }) u q) (nat_eq t u && int_eq k q) refl
      (answer_after (λ (rs : List VertexRow) z. has_vertex_in z rs) g.vertices t u k q rows b (nat_eq t u) (int_eq k q) within refl refl (λ d e. here q d e)) refl

-- ---- sums over tables

-- a table with fewer rows: the one of a key goes
module _ {R : Type 0} (key : R → ℤ) (values : R → List Value) (tables : List (List R)) (t n : ℕ) (k : ℤ) (within : t < length tables) (once : count_in key k (rows_at tables t) ≤ 1) (has : has_key_in key k (rows_at tables t) ≡ true) where
  rows_less : row_total (set tables t (without_key key k (rows_at tables t))) ≡ row_total tables - 1
  rows_less =
      omega (
        arith,
        sum_by-set (λ (rows : List R). length rows) tables t (without_key key k (rows_at tables t)) [] within,
        length_without (λ r. int_eq (key r) k) (rows_at tables t),
        one_at_least (λ r. int_eq (key r) k) (rows_at tables t) has,
        once,
      )

  cells_less : All (λ r. length (values r) ≡ n) (rows_at tables t) → value_total values (set tables t (without_key key k (rows_at tables t))) + n ≡ value_total values tables
  cells_less wide =
      let row = has_found key (rows_at tables t) k has in
      let at = find_place key (rows_at tables t) k row.0 row.1 in
      let width : length (values row.0) ≡ n = ap (λ r. length (values r)) (sym at.2) ∙ wide at.0 row.0 at.1 in
      omega (
        arith,
        sum_by-set (λ (rows : List R). sum_by (λ r. length (values r)) rows) tables t (without_key key k (rows_at tables t)) [] within,
        sum_without key (λ r. length (values r)) (rows_at tables t) k row.0 once row.1,
        width,
      )

-- ---- vertices

insert_vertex : (g : GraphData) (t : ℕ) (k : ℤ) (vs : List Value) → IsGraph g → misfit g (InsertVertex t k vs) ≡ None → facts (changed g (InsertVertex t k vs)) ≡ noted g.schema (facts g) (InsertVertex t k vs)
insert_vertex g t k vs is fits =
    let f = v.fits_vertex g t k vs fits in
    let within : t < length g.vertices = omega (arith, f.table, AllZip-length _ _ _ is.vertices) in
    let row : VertexRow = record { key = k; values = vs } in
    same_facts _ _
    (vertex_put g t k (rows_at g.vertices t ++ row ∷ []) true within (λ q d e. has_pushed vertex_key (rows_at g.vertices t) row q d e))
    (λ u q. refl) (total_push g.vertices t row within) refl (omega (arith, sum_push (λ (r : VertexRow). length (vertex_values r)) g.vertices t row within))

delete_vertex : (g : GraphData) (t : ℕ) (k : ℤ) → IsGraph g → misfit g (DeleteVertex t k) ≡ None → facts (changed g (DeleteVertex t k)) ≡ noted g.schema (facts g) (DeleteVertex t k)
delete_vertex g t k is fits =
    let f = v.fits_delete g t k fits in
    let within : t < length g.vertices = omega (arith, f.table, AllZip-length _ _ _ is.vertices) in
    let once = once_in g.schema.keys vertex_key g.vertices is.vertex_keys k t in
    same_facts _ _
    (vertex_put g t k (without_key vertex_key k (rows_at g.vertices t)) false within (λ q d e. has_without vertex_key (rows_at g.vertices t) k q d e))
    (λ u q. refl) (rows_less vertex_key vertex_values g.vertices t (length (vertex_props_at g.schema t)) k within once f.key) refl
    (omega (arith, cells_less vertex_key vertex_values g.vertices t (length (vertex_props_at g.schema t)) k within once f.key (vertex_widths g t is f.table)))

key_stays : (p : ℕ) (w : Value) (q : ℤ) (r : VertexRow) (b : Bool) → int_eq (vertex_key (cond b (with_vertex_value p w r) r)) q ≡ int_eq r.key q
key_stays p w q r true = refl
key_stays p w q r false = refl

width_stays : (p : ℕ) (w : Value) (r : VertexRow) (b : Bool) → length (vertex_values (cond b (with_vertex_value p w r) r)) ≡ length r.values
width_stays p w r true = length-set r.values p w
width_stays p w r false = refl

set_vertex : (g : GraphData) (t : ℕ) (k : ℤ) (p : ℕ) (w : Value) → IsGraph g → misfit g (SetVertex t k p w) ≡ None → facts (changed g (SetVertex t k p w)) ≡ facts g
set_vertex g t k p w is fits =
    let f = v.fits_set g t k p w fits in
    let within : t < length g.vertices = omega (arith, f.table, AllZip-length _ _ _ is.vertices) in
    let one = with_vertex_value p w in
    let rows = change_at_key vertex_key k one (rows_at g.vertices t) in
    same_facts _ _
    (λ u q. same_state _ _
    (answer_same (λ (rs : List VertexRow) z. has_vertex_in z rs) g.vertices t u q rows (nat_eq t u) within refl
    (any_map (λ r. int_eq r.key q) (λ r. cond (int_eq r.key k) (one r) r) (rows_at g.vertices t) (λ r. key_stays p w q r (int_eq r.key k))))
    refl)
    (λ u q. refl) (rows_changed vertex_key vertex_values g.vertices t k within one) refl
    (omega (arith, values_changed vertex_key vertex_values g.vertices t k within one (λ r. width_stays p w r (int_eq r.key k))))

-- ---- ends of edges

more_by : (f : ℕ → ℤ → VertexState) (t u : ℕ) (k q : ℤ) (c : Bool) → (nat_eq t u && int_eq k q) ≡ c → (cond c (let x : VertexState = record { there = (f t k).there; ends = (f t k).ends + 1 } in x) (f u q)).there ≡ (f u q).there
more_by f t u k q true at = let same = at_both t u k q at in ap (λ z. (f z k).there) same.0 ∙ ap (λ z. (f u z).there) same.1
more_by f t u k q false at = refl

more_ends_by : (f : ℕ → ℤ → VertexState) (t u : ℕ) (k q : ℤ) (c : Bool) → (nat_eq t u && int_eq k q) ≡ c → (cond c (let x : VertexState = record { there = (f t k).there; ends = (f t k).ends + 1 } in x) (f u q)).ends ≡ (f u q).ends + one_if c
more_ends_by f t u k q true at = let same = at_both t u k q at in omega (arith, ap (λ z. (f z k).ends) same.0, ap (λ z. (f u z).ends) same.1)
more_ends_by f t u k q false at = omega arith

fewer_by : (f : ℕ → ℤ → VertexState) (t u : ℕ) (k q : ℤ) (c : Bool) → (nat_eq t u && int_eq k q) ≡ c → (cond c (let x : VertexState = record { there = (f t k).there; ends = (f t k).ends - 1 } in x) (f u q)).there ≡ (f u q).there
fewer_by f t u k q true at = let same = at_both t u k q at in ap (λ z. (f z k).there) same.0 ∙ ap (λ z. (f u z).there) same.1
fewer_by f t u k q false at = refl

fewer_ends_by : (f : ℕ → ℤ → VertexState) (t u : ℕ) (k q : ℤ) (c : Bool) → (nat_eq t u && int_eq k q) ≡ c → (cond c (let x : VertexState = record { there = (f t k).there; ends = (f t k).ends - 1 } in x) (f u q)).ends ≡ (f u q).ends - one_if c
fewer_ends_by f t u k q true at = let same = at_both t u k q at in omega (arith, ap (λ z. (f z k).ends) same.0, ap (λ z. (f u z).ends) same.1)
fewer_ends_by f t u k q false at = omega arith

pub more_there : (f : ℕ → ℤ → VertexState) (t : ℕ) (k : ℤ) (u : ℕ) (q : ℤ) → (more_ends f t k u q).there ≡ (f u q).there
more_there f t k u q = more_by f t u k q (nat_eq t u && int_eq k q) refl

pub more_at : (f : ℕ → ℤ → VertexState) (t : ℕ) (k : ℤ) (u : ℕ) (q : ℤ) → (more_ends f t k u q).ends ≡ (f u q).ends + one_if (nat_eq t u && int_eq k q)
more_at f t k u q = more_ends_by f t u k q (nat_eq t u && int_eq k q) refl

fewer_there : (f : ℕ → ℤ → VertexState) (t : ℕ) (k : ℤ) (u : ℕ) (q : ℤ) → (fewer_ends f t k u q).there ≡ (f u q).there
fewer_there f t k u q = fewer_by f t u k q (nat_eq t u && int_eq k q) refl

fewer_at : (f : ℕ → ℤ → VertexState) (t : ℕ) (k : ℤ) (u : ℕ) (q : ℤ) → (fewer_ends f t k u q).ends ≡ (f u q).ends - one_if (nat_eq t u && int_eq k q)
fewer_at f t k u q = fewer_ends_by f t u k q (nat_eq t u && int_eq k q) refl

-- the ends at a vertex where the rows of one edge table are others
ends_with : (g : GraphData) (t : ℕ) (rows : List EdgeRow) (x : EdgeTable) (u : ℕ) (q : ℤ) → slice_get g.schema.edges t ≡ Some x → t < length g.edges
    → end_count g.schema u q (set g.edges t rows) + sum_by (ends_there u q x) (rows_at g.edges t) ≡ end_count g.schema u q g.edges + sum_by (ends_there u q x) rows
ends_with g t rows x u q at within = zip_sum (λ (y : EdgeTable) (rs : List EdgeRow). sum_by (ends_there u q y) rs) g.schema.edges g.edges t x rows [] at within

-- ---- edges

state_cond : (d : Bool) (o : Option EdgeRow) (r : EdgeRow) → edge_state (cond d (Some r) o) ≡ cond d (There r.source r.destination) (edge_state o)
state_cond true o r = refl
state_cond false o r = refl

gone_cond : (d : Bool) (o : Option EdgeRow) → edge_state (cond d None o) ≡ cond d Gone (edge_state o)
gone_cond true o = refl
gone_cond false o = refl

-- what is told of an edge of the rows of a table
abbrev told_in : List EdgeRow → ℤ → EdgeState
told_in rows q = edge_state (find (λ r. int_eq r.key q) rows)

not_here : {R : Type 0} (keys : Keys) (key : R → ℤ) (k : ℤ) (tables : List (List R)) (t : ℕ) → t < length tables → is_taken keys key k tables t ≡ false → has_key_in key k (rows_at tables t) ≡ false
not_here Whole key k tables t within e = any_false_at (has_key_in key k) tables t [] e within
not_here PerTable key k tables t within e = e

insert_edge : (g : GraphData) (t : ℕ) (k a b : ℤ) (vs : List Value) → IsGraph g → misfit g (InsertEdge t k a b vs) ≡ None → facts (changed g (InsertEdge t k a b vs)) ≡ noted g.schema (facts g) (InsertEdge t k a b vs)
insert_edge g t k a b vs is fits =
    let f = e.fits_edge g t k a b vs fits in
    let within : t < length g.edges = omega (arith, f.table, AllZip-length _ _ _ is.edges) in
    let row : EdgeRow = record { key = k; source = a; destination = b; values = vs } in
    let rows = rows_at g.edges t ++ row ∷ [] in
    let x = item_at g.schema.edges t f.table in
    let src = source_at g.schema t in
    let dst = destination_at g.schema t in
    let from : src ≡ x.item.source = ap source_table x.there in
    let to : dst ≡ x.item.destination = ap destination_table x.there in
    let new = not_here g.schema.keys edge_key k g.edges t within f.key in
    same_facts _ _
    (λ u q. same_state _ _
    (sym (more_there (more_ends (vertex_fact g) src a) dst b u q ∙ more_there (vertex_fact g) src a u q))
    (omega (
      arith,
      ends_with g t rows x.item u q x.there within,
      sum_by_push (ends_there u q x.item) (rows_at g.edges t) row,
      more_at (more_ends (vertex_fact g) src a) dst b u q,
      more_at (vertex_fact g) src a u q,
      ap (λ z. one_if (nat_eq z u && int_eq a q)) from,
      ap (λ z. one_if (nat_eq z u && int_eq b q)) to,
    )))
    (λ u q. answer_after told_in g.edges t u k q rows (There a b) (nat_eq t u) (int_eq k q) within refl refl
    (λ d h. ap edge_state (find_pushed edge_key (rows_at g.edges t) row q d h new) ∙ state_cond d (find (λ r. int_eq r.key q) (rows_at g.edges t)) row))
    refl (total_push g.edges t row within) (omega (arith, sum_push (λ (r : EdgeRow). length (edge_values r)) g.edges t row within))

delete_edge : (g : GraphData) (t : ℕ) (k : ℤ) → IsGraph g → misfit g (DeleteEdge t k) ≡ None → facts (changed g (DeleteEdge t k)) ≡ noted g.schema (facts g) (DeleteEdge t k)
delete_edge g t k is fits =
    let f = e.fits_delete g t k fits in
    let within : t < length g.edges = omega (arith, f.table, AllZip-length _ _ _ is.edges) in
    let once = once_in g.schema.keys edge_key g.edges is.edge_keys k t in
    let rows = without_key edge_key k (rows_at g.edges t) in
    let row = has_found edge_key (rows_at g.edges t) k f.key in
    let a = row.0.source in
    let b = row.0.destination in
    let x = item_at g.schema.edges t f.table in
    let src = source_at g.schema t in
    let dst = destination_at g.schema t in
    let from : src ≡ x.item.source = ap source_table x.there in
    let to : dst ≡ x.item.destination = ap destination_table x.there in
    same_facts _ _
    (λ u q. same_state _ _
    (sym (fewer_there (fewer_ends (vertex_fact g) src a) dst b u q ∙ fewer_there (vertex_fact g) src a u q))
    (omega (
      arith,
      ends_with g t rows x.item u q x.there within,
      sum_without edge_key (ends_there u q x.item) (rows_at g.edges t) k row.0 once row.1,
      fewer_at (fewer_ends (vertex_fact g) src a) dst b u q,
      fewer_at (vertex_fact g) src a u q,
      ap (λ z. one_if (nat_eq z u && int_eq a q)) from,
      ap (λ z. one_if (nat_eq z u && int_eq b q)) to,
    )))
    (λ u q. answer_after told_in g.edges t u k q rows Gone (nat_eq t u) (int_eq k q) within refl refl
    (λ d h. ap edge_state (find_without edge_key (rows_at g.edges t) k q d h) ∙ gone_cond d (find (λ r. int_eq r.key q) (rows_at g.edges t))))
    refl (rows_less edge_key edge_values g.edges t (length (edge_props_at g.schema t)) k within once f.key)
    (omega (arith, cells_less edge_key edge_values g.edges t (length (edge_props_at g.schema t)) k within once f.key (edge_widths g t is f.table)))
    ∙ ap (edge_gone g.schema (facts g) t k) (sym (ap edge_state row.1))

edge_key_stays : (p : ℕ) (w : Value) (q : ℤ) (r : EdgeRow) (b : Bool) → int_eq (edge_key (cond b (with_edge_value p w r) r)) q ≡ int_eq r.key q
edge_key_stays p w q r true = refl
edge_key_stays p w q r false = refl

edge_width_stays : (p : ℕ) (w : Value) (r : EdgeRow) (b : Bool) → length (edge_values (cond b (with_edge_value p w r) r)) ≡ length r.values
edge_width_stays p w r true = length-set r.values p w
edge_width_stays p w r false = refl

ends_stay : (u : ℕ) (q : ℤ) (x : EdgeTable) (p : ℕ) (w : Value) (r : EdgeRow) (b : Bool) → ends_there u q x (cond b (with_edge_value p w r) r) ≡ ends_there u q x r
ends_stay u q x p w r true = refl
ends_stay u q x p w r false = refl

state_stays : (p : ℕ) (w : Value) (r : EdgeRow) (b : Bool) → edge_state (Some (cond b (with_edge_value p w r) r)) ≡ edge_state (Some r)
state_stays p w r true = refl
state_stays p w r false = refl

found_by : (p : ℕ) (w : Value) (r : EdgeRow) (b c d : Bool) (xs ys : Option EdgeRow) → c ≡ d → edge_state xs ≡ edge_state ys → edge_state (cond c (Some (cond b (with_edge_value p w r) r)) xs) ≡ edge_state (cond d (Some r) ys)
found_by p w r b true true xs ys e f = state_stays p w r b
found_by p w r b true false xs ys e f = cc
found_by p w r b false true xs ys e f = cc
found_by p w r b false false xs ys e f = f

told_stays : (k : ℤ) (p : ℕ) (w : Value) (rows : List EdgeRow) (q : ℤ) → told_in (change_at_key edge_key k (with_edge_value p w) rows) q ≡ told_in rows q
told_stays k p w [] q = refl
told_stays k p w (r ∷ rows) q =
    found_by p w r (int_eq r.key k) (int_eq (edge_key (cond (int_eq r.key k) (with_edge_value p w r) r)) q) (int_eq r.key q) (find (λ x. int_eq x.key q) (change_at_key edge_key k (with_edge_value p w) rows)) (find (λ x. int_eq x.key q) rows)
    (edge_key_stays p w q r (int_eq r.key k)) (told_stays k p w rows q)

set_edge : (g : GraphData) (t : ℕ) (k : ℤ) (p : ℕ) (w : Value) → IsGraph g → misfit g (SetEdge t k p w) ≡ None → facts (changed g (SetEdge t k p w)) ≡ facts g
set_edge g t k p w is fits =
    let f = e.fits_set g t k p w fits in
    let within : t < length g.edges = omega (arith, f.table, AllZip-length _ _ _ is.edges) in
    let one = with_edge_value p w in
    let rows = change_at_key edge_key k one (rows_at g.edges t) in
    let x = item_at g.schema.edges t f.table in
    same_facts _ _
    (λ u q. same_state _ _ refl (omega (
      arith,
      ends_with g t rows x.item u q x.there within,
      sum_map (ends_there u q x.item) (λ r. cond (int_eq r.key k) (one r) r) (rows_at g.edges t) (λ r. ends_stay u q x.item p w r (int_eq r.key k)),
    )))
    (λ u q. answer_same told_in g.edges t u q rows (nat_eq t u) within refl (told_stays k p w (rows_at g.edges t) q))
    refl (rows_changed edge_key edge_values g.edges t k within one)
    (omega (arith, values_changed edge_key edge_values g.edges t k within one (λ r. edge_width_stays p w r (int_eq r.key k))))

-- ---- all changes

pub facts_follow : (g : GraphData) (c : Change) → IsGraph g → misfit g c ≡ None → facts (changed g c) ≡ noted g.schema (facts g) c
facts_follow g (InsertVertex t k vs) is fits = insert_vertex g t k vs is fits
facts_follow g (DeleteVertex t k) is fits = delete_vertex g t k is fits
facts_follow g (InsertEdge t k a b vs) is fits = insert_edge g t k a b vs is fits
facts_follow g (DeleteEdge t k) is fits = delete_edge g t k is fits
facts_follow g (SetVertex t k p w) is fits = set_vertex g t k p w is fits
facts_follow g (SetEdge t k p w) is fits = set_edge g t k p w is fits
