-- weights that are read table by table, and the first that is bad
use Rattle.std.proofs.Common.{◌≡◌, ℕ, zero, suc, ◌+◌, ◌-◌, ◌<◌, ◌≤◌, List, [], ◌∷◌, ◌++◌, Option, Some, None, length, slice_get, map, take, drop, refl, ap, sym, ◌∙◌, subst, arith}
use Rattle.std.specs.Prelude.{flat_map}
use Rattle.std.specs.List.{range_with_len}
use Rattle.std.proofs.lemmas.List.{map-append, append_assoc, take_more, take_all, take-append-drop, append-nil}
use Rattle.std.proofs.lemmas.Option.{slice_get_within, get_or_from_slice_get}
use Rattle.std.proofs.Math.Seq.{drop-cons}
use Rattle.graph_model.specs.declared.row.EdgeRow.{EdgeRow}
use Rattle.graph_model.specs.Keys.{rows_at}
use Rattle.graph_model.specs.Graph.{GraphData}
use Rattle.algo_digraph.specs.DigraphOf.{all_edges}
use Rattle.algo_digraph.proofs.Edges.{tables_more}
use Rattle.algo_paths.specs.declared.fault.PathFault.{PathFault}
use Rattle.algo_paths.specs.declared.fault.PathFault.TheVariants.{NoVertex, NoProp, BadWeight, NoMemory}
use Rattle.algo_paths.specs.Weights.{edge_weight, AreWeights, IsFirstBad}
use Rattle.algo_paths.specs.Reading.{AddsWeights, ReadCause, TableCause}

-- ---- weights of one list after another

pub weights_then : {X : Type 0} (weight : X → Option ℕ) (xs ys : List X) (us vs : List ℕ) → AreWeights weight xs us → AreWeights weight ys vs → AreWeights weight (xs ++ ys) (us ++ vs)
weights_then weight xs ys us vs a b =
    map-append weight xs ys ∙ ap (λ zs. zs ++ map weight ys) a ∙ ap (λ zs. map Some us ++ zs) b ∙ sym (map-append Some us vs)

mapped : {X Y Z : Type 0} (f : Y → Z) (h : X → Y) (xs : List X) → map f (map h xs) ≡ map (λ x. f (h x)) xs
mapped f h [] = refl
mapped f h (x ∷ xs) = ap (λ ys. f (h x) ∷ ys) (mapped f h xs)

-- ---- one table

module _ (weight : EdgeRow → Option ℕ) (rows : List EdgeRow) where
  pub adds_none : (old : List ℕ) → AddsWeights weight (take 0 rows) old old
  adds_none old = record { added = []; are = refl; all = sym (append-nil old) }

  pub adds_more : (i w : ℕ) (r : EdgeRow) (old mid new : List ℕ) → slice_get rows i ≡ Some r → weight r ≡ Some w → AddsWeights weight (take i rows) old mid → new ≡ mid ++ w ∷ [] → AddsWeights weight (take (i + 1) rows) old new
  adds_more i w r old mid new at is so more =
      let lt = slice_get_within rows i r at in
      let front : take (i + 1) rows ≡ take i rows ++ r ∷ [] = take_more rows i r lt ∙ ap (λ x. take i rows ++ x ∷ []) (get_or_from_slice_get rows i r r at) in
      record {
        added = so.added ++ w ∷ [];
        are = ap (map weight) front ∙ weights_then weight (take i rows) (r ∷ []) so.added (w ∷ []) so.are (ap (λ x. x ∷ []) is);
        all = more ∙ ap (λ xs. xs ++ w ∷ []) so.all ∙ append_assoc old so.added (w ∷ []);
      }

  pub adds_all : (i : ℕ) (old new : List ℕ) → length rows ≤ i → AddsWeights weight (take i rows) old new → AddsWeights weight rows old new
  adds_all i old new past so = subst (λ xs. AddsWeights weight xs old new) (take_all i rows past) so

  pub first_bad : (i : ℕ) (r : EdgeRow) (old new : List ℕ) → slice_get rows i ≡ Some r → weight r ≡ None → AddsWeights weight (take i rows) old new → IsFirstBad weight rows r
  first_bad i r old new at is so =
      let lt = slice_get_within rows i r at in
      let rest : drop i rows ≡ r ∷ drop (suc i) rows = drop-cons rows i r lt ∙ ap (λ x. x ∷ drop (suc i) rows) (get_or_from_slice_get rows i r r at) in
      record {
        before = take i rows;
        after = drop (suc i) rows;
        weights = so.added;
        split = sym (take-append-drop i rows) ∙ ap (λ xs. take i rows ++ xs) rest;
        earlier = so.are;
        bad = is;
      }

-- ---- all tables

-- the edges of a table, and of the tables before one
abbrev pub table_rows : GraphData → ℕ → List (ℕ × EdgeRow)
table_rows g t = map (λ r. (t, r)) (rows_at g.edges t)

abbrev pub edges_before : GraphData → ℕ → List (ℕ × EdgeRow)
edges_before g n = flat_map (table_rows g) (range_with_len 0 n)

module _ (g : GraphData) where
  -- what stands behind a table
  later : (t k : ℕ) → (rest : List (ℕ × EdgeRow)) × (edges_before g (t + 1 + k) ≡ edges_before g t ++ (table_rows g t ++ rest))
  later t zero =
      let whole : t + 1 + 0 ≡ t + 1 = omega arith in
      ([], ap (λ n. edges_before g n) whole ∙ tables_more (table_rows g) t ∙ ap (λ xs. edges_before g t ++ xs) (sym (append-nil (table_rows g t))))
  later t (suc k) =
      let r = later t k in
      let whole : t + 1 + suc k ≡ (t + 1 + k) + 1 = omega arith in (
        r.0 ++ table_rows g (t + 1 + k),
        ap (λ n. edges_before g n) whole
            ∙ tables_more (table_rows g) (t + 1 + k)
            ∙ ap (λ xs. xs ++ table_rows g (t + 1 + k)) r.1
            ∙ append_assoc (edges_before g t) (table_rows g t ++ r.0) (table_rows g (t + 1 + k))
            ∙ ap (λ xs. edges_before g t ++ xs) (append_assoc (table_rows g t) r.0 (table_rows g (t + 1 + k))),
      )

  -- a table's weights after those of the tables before it
  pub weights_more : (name : List ℕ) (t : ℕ) (old new : List ℕ) → AreWeights (edge_weight name g) (edges_before g t) old → AddsWeights (λ r. edge_weight name g (t, r)) (rows_at g.edges t) old new
      → AreWeights (edge_weight name g) (edges_before g (t + 1)) new
  weights_more name t old new so more =
      let these : AreWeights (edge_weight name g) (table_rows g t) more.added = mapped (edge_weight name g) (λ r. (t, r)) (rows_at g.edges t) ∙ more.are in
      ap (map (edge_weight name g)) (tables_more (table_rows g) t) ∙ weights_then (edge_weight name g) (edges_before g t) (table_rows g t) old more.added so these ∙ ap (map Some) (sym more.all)

  pub weights_whole : (name : List ℕ) (n : ℕ) (weights : List ℕ) → n ≡ length g.edges → AreWeights (edge_weight name g) (edges_before g n) weights → AreWeights (edge_weight name g) (all_edges g) weights
  unfolding all_edges
  weights_whole name n weights e so = ap (λ k. map (edge_weight name g) (edges_before g k)) (sym e) ∙ so

  split_at : (t : ℕ) → t < length g.edges → (rest : List (ℕ × EdgeRow)) × (all_edges g ≡ edges_before g t ++ (table_rows g t ++ rest))
  unfolding all_edges
  split_at t lt =
      let r = later t (length g.edges - (t + 1)) in
      let whole : length g.edges ≡ t + 1 + (length g.edges - (t + 1)) = omega arith in
      (r.0, ap (edges_before g) whole ∙ r.1)

  bad_on : (name : List ℕ) (t : ℕ) (r : EdgeRow) (old : List ℕ) → t < length g.edges → AreWeights (edge_weight name g) (edges_before g t) old
      → IsFirstBad (λ x. edge_weight name g (t, x)) (rows_at g.edges t) r → IsFirstBad (edge_weight name g) (all_edges g) (t, r)
  bad_on name t r old lt so first =
      let s = split_at t lt in
      let here : table_rows g t ≡ map (λ x. (t, x)) first.before ++ ((t, r) ∷ map (λ x. (t, x)) first.after) =
      ap (map (λ x. (t, x))) first.split ∙ map-append (λ x. (t, x)) first.before (r ∷ first.after) in
      record {
        before = edges_before g t ++ map (λ x. (t, x)) first.before;
        after = map (λ x. (t, x)) first.after ++ s.0;
        weights = old ++ first.weights;
        split = s.1 ∙ ap (λ xs. edges_before g t ++ (xs ++ s.0)) here
            ∙ ap (λ xs. edges_before g t ++ xs) (append_assoc (map (λ x. (t, x)) first.before) ((t, r) ∷ map (λ x. (t, x)) first.after) s.0)
            ∙ sym (append_assoc (edges_before g t) (map (λ x. (t, x)) first.before) ((t, r) ∷ (map (λ x. (t, x)) first.after ++ s.0)));
        earlier = weights_then (edge_weight name g) (edges_before g t) (map (λ x. (t, x)) first.before) old first.weights so (mapped (edge_weight name g) (λ x. (t, x)) first.before ∙ first.earlier);
        bad = first.bad;
      }

  pub cause_on : (name : List ℕ) (t : ℕ) (old : List ℕ) (e : PathFault) → t < length g.edges → AreWeights (edge_weight name g) (edges_before g t) old → TableCause g name t e → ReadCause g name e
  cause_on name t old (NoVertex key) lt so h = h
  cause_on name t old (NoProp told) lt so h = h
  cause_on name t old (BadWeight key) lt so h = ((t, h.0), bad_on name t h.0 old lt so h.1, h.2)
  cause_on name t old NoMemory lt so h = h
