-- The rows of a graph, put one after the other in the graph without rows, make it.
use Rattle.std.proofs.Common.{◌≡◌, ◌∙◌, refl, sym, ap, subst, ℕ, ◌+◌, List, [], ◌∷◌, ◌++◌, length, map, replicate, None, arith}
use Rattle.std.proofs.lemmas.List.{append_assoc, append-nil, length_push}
use Rattle.std.proofs.lemmas.List.Sums.{fold-append}
use Rattle.graph_schema.specs.Schema.{SchemaData}
use Rattle.graph_model.specs.declared.row.VertexRow.{VertexRow}
use Rattle.graph_model.specs.declared.row.EdgeRow.{EdgeRow}
use Rattle.graph_model.specs.declared.change.Change.{Change}
use Rattle.graph_model.specs.Graph.{GraphData, IsGraph, empty_graph}
use Rattle.graph_model.specs.Change.{misfit, changed}
use Rattle.graph_model.specs.FromRows.{vertex_put, edge_put, puts, FitEach, made}
use Rattle.graph_model.proofs.Zips.{AllZip-length}
use Rattle.graph_model.proofs.Fitting.{graph_of, vertex_fits, edge_fits, vertex_push, edge_push}

-- ---- changes in turn

pub fit_both : (g : GraphData) (xs ys : List Change) → FitEach g xs → FitEach (made g xs) ys → FitEach g (xs ++ ys)
fit_both g [] ys a b = b
fit_both g (x ∷ xs) ys a b = (a.0, fit_both (changed g x) xs ys a.1 b)

pub fit_parts : (g : GraphData) (xs ys : List Change) → FitEach g (xs ++ ys) → FitEach g xs × FitEach (made g xs) ys
fit_parts g [] ys a = (tt, a)
fit_parts g (x ∷ xs) ys a = let q = fit_parts (changed g x) xs ys a.1 in ((a.0, q.0), q.1)

pub made_both : (g : GraphData) (xs ys : List Change) → made g (xs ++ ys) ≡ made (made g xs) ys
made_both g xs ys = fold-append changed g xs ys

-- ---- the step of a loop over rows, and of a loop over tables

pub next_row : {R : Type 0} (put : ℕ → R → Change) (t : ℕ) (g all : GraphData) (rest after : List R) (r : R) → rest ≡ r ∷ after → FitEach g (map (put t) rest) → made g (map (put t) rest) ≡ all
    → (misfit g (put t r) ≡ None) × FitEach (changed g (put t r)) (map (put t) after) × (made (changed g (put t r)) (map (put t) after) ≡ all)
next_row put t g all rest after r next fit is =
    let f = subst (λ rows. FitEach g (map (put t) rows)) next fit in
    let m = subst (λ rows. made g (map (put t) rows) ≡ all) next is in
    (f.0, f.1, m)

pub next_table : {R : Type 0} (put : ℕ → R → Change) (t : ℕ) (g all : GraphData) (rest after : List (List R)) (rows : List R) → rest ≡ rows ∷ after → FitEach g (puts put t rest) → made g (puts put t rest) ≡ all
    → FitEach g (map (put t) rows) × FitEach (made g (map (put t) rows)) (puts put (t + 1) after) × (made (made g (map (put t) rows)) (puts put (t + 1) after) ≡ all)
next_table put t g all rest after rows next fit is =
    let f = fit_parts g (map (put t) rows) (puts put (t + 1) after) (subst (λ tables. FitEach g (puts put t tables)) next fit) in
    let m = subst (λ tables. made g (puts put t tables) ≡ all) next is in
    (f.0, f.1, sym (made_both g (map (put t) rows) (puts put (t + 1) after)) ∙ m)

-- ---- rows that fit in turn

module _ {R : Type 0} (put : ℕ → R → Change) (graph : List (List R) → GraphData)
    (push : (done todo : List (List R)) (rows : List R) (r : R) → changed (graph (done ++ rows ∷ todo)) (put (length done) r) ≡ graph (done ++ (rows ++ r ∷ []) ∷ todo))
    (all : List (List R))
    (fits : (done after : List (List R)) (front back : List R) (r : R) → all ≡ done ++ (front ++ r ∷ back) ∷ after → misfit (graph (done ++ front ∷ replicate (length after) [])) (put (length done) r) ≡ None) where
  rows_put : (done after : List (List R)) (front back : List R) → all ≡ done ++ (front ++ back) ∷ after
      → FitEach (graph (done ++ front ∷ replicate (length after) [])) (map (put (length done)) back) × (made (graph (done ++ front ∷ replicate (length after) [])) (map (put (length done)) back) ≡ graph (done ++ (front ++ back) ∷ replicate (length after) []))
  rows_put done after front [] split = (tt, ap (λ rows. graph (done ++ rows ∷ replicate (length after) [])) (sym (append-nil front)))
  rows_put done after front (r ∷ back) split =
      let same = append_assoc front (r ∷ []) back in
      let pushed = push done (replicate (length after) []) front r in
      let rest = rows_put done after (front ++ r ∷ []) back (split ∙ ap (λ rows. done ++ rows ∷ after) (sym same)) in
      let puts_back = map (put (length done)) back in (
        (fits done after front back r split, subst (λ g. FitEach g puts_back) (sym pushed) rest.0),
        ap (λ g. made g puts_back) pushed ∙ rest.1 ∙ ap (λ rows. graph (done ++ rows ∷ replicate (length after) [])) same,
      )

  tables_put : (done rest : List (List R)) (t : ℕ) → all ≡ done ++ rest → t ≡ length done
      → FitEach (graph (done ++ replicate (length rest) [])) (puts put t rest) × (made (graph (done ++ replicate (length rest) [])) (puts put t rest) ≡ graph all)
  tables_put done [] t split at = (tt, ap graph (sym split))
  tables_put done (rows ∷ rest) t split at =
      let empties = replicate (length rest) [] in
      let same = append_assoc done (rows ∷ []) empties in
      let first = subst (λ n. FitEach (graph (done ++ [] ∷ empties)) (map (put n) rows) × (made (graph (done ++ [] ∷ empties)) (map (put n) rows) ≡ graph (done ++ rows ∷ empties))) (sym at) (rows_put done rest [] rows split) in
      let later = tables_put (done ++ rows ∷ []) rest (t + 1) (split ∙ sym (append_assoc done (rows ∷ []) rest)) (omega (arith, at, length_push done rows)) in
      let so_far : made (graph (done ++ [] ∷ empties)) (map (put t) rows) ≡ graph ((done ++ rows ∷ []) ++ empties) = first.1 ∙ ap graph (sym same) in (
        fit_both (graph (done ++ [] ∷ empties)) (map (put t) rows) (puts put (t + 1) rest) first.0 (subst (λ g. FitEach g (puts put (t + 1) rest)) (sym so_far) later.0),
        made_both (graph (done ++ [] ∷ empties)) (map (put t) rows) (puts put (t + 1) rest) ∙ ap (λ g. made g (puts put (t + 1) rest)) so_far ∙ later.1,
      )

-- ---- the rows of a graph

pub vertices_put : (s : SchemaData) (vss : List (List VertexRow)) (ess : List (List EdgeRow)) → IsGraph (graph_of s vss ess)
    → FitEach (empty_graph s) (puts vertex_put 0 vss) × (made (empty_graph s) (puts vertex_put 0 vss) ≡ graph_of s vss (replicate (length s.edges) []))
vertices_put s vss ess is =
    let es = replicate (length s.edges) [] in
    let count = AllZip-length _ s.vertices vss is.vertices in
    subst (λ n. FitEach (graph_of s (replicate n []) es) (puts vertex_put 0 vss) × (made (graph_of s (replicate n []) es) (puts vertex_put 0 vss) ≡ graph_of s vss es)) (sym count)
    (tables_put vertex_put (λ vs. graph_of s vs es) (vertex_push s es) vss (vertex_fits s vss ess is) [] vss 0 refl refl)

pub edges_put : (s : SchemaData) (vss : List (List VertexRow)) (ess : List (List EdgeRow)) → IsGraph (graph_of s vss ess)
    → FitEach (graph_of s vss (replicate (length s.edges) [])) (puts edge_put 0 ess) × (made (graph_of s vss (replicate (length s.edges) [])) (puts edge_put 0 ess) ≡ graph_of s vss ess)
edges_put s vss ess is =
    let count = AllZip-length _ s.edges ess is.edges in
    subst (λ n. FitEach (graph_of s vss (replicate n [])) (puts edge_put 0 ess) × (made (graph_of s vss (replicate n [])) (puts edge_put 0 ess) ≡ graph_of s vss ess)) (sym count)
    (tables_put edge_put (λ es. graph_of s vss es) (edge_push s vss) ess (edge_fits s vss ess is) [] ess 0 refl refl)
