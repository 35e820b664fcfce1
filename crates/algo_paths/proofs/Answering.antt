-- an answer over a graph from one over its digraph
use Rattle.std.proofs.Common.{◌≡◌, ℕ, ◌<◌, ℤ, Bool, true, false, List, Option, Some, None, slice_index_or, length, refl, ap, sym, ◌∙◌, subst}
use Rattle.std.specs.Prelude.{IsNone}
use Rattle.std.proofs.lemmas.List.{length-map}
use Rattle.graph_model.specs.declared.row.EdgeRow.{EdgeRow}
use Rattle.algo_paths.specs.Weights.{AreWeights}
use Rattle.graph_model.specs.Graph.{GraphData, vertex_total}
use Rattle.graph_columns.specs.declared.position.VertexAt.{VertexAt}
use Rattle.algo_digraph.specs.Digraph.{Digraph}
use Rattle.algo_digraph.specs.DigraphOf.{all_edges, ends_of, digraph_of, table_sizes, index_of}
use Rattle.algo_digraph.specs.Walks.{IsLeastWeight}

-- what is found is there
pub found_there : {X : Type 0} (b : Bool) (o : Option X) (x : X) → (b ≡ false → IsNone o) → o ≡ Some x → b ≡ true
found_there true o x missing is = refl
found_there false o x missing is = let none : IsNone (Some x) = subst IsNone is (missing refl) in cc

module _ (g : GraphData) (at : VertexAt) (found : List (Option ℤ)) (digraph : Digraph) (read weights order : List ℕ) (start : ℕ)
    (whole : digraph ≡ digraph_of g) (same : read ≡ weights) (place : start ≡ index_of order at) (sizes : order ≡ table_sizes g) where
  pub least_on : ((v : ℕ) → v < digraph.vertices → IsLeastWeight digraph read start v (slice_index_or found v None)) → (v : ℕ) → v < vertex_total g → IsLeastWeight (digraph_of g) weights (index_of (table_sizes g) at) v (slice_index_or found v None)
  least_on each v lt =
      subst (λ n. IsLeastWeight n weights (index_of (table_sizes g) at) v (slice_index_or found v None)) whole
      (subst (λ ws. IsLeastWeight digraph ws (index_of (table_sizes g) at) v (slice_index_or found v None)) same
      (subst (λ s. IsLeastWeight digraph read s v (slice_index_or found v None)) (place ∙ ap (λ sz. index_of sz at) sizes)
      (each v (subst (λ (n : Digraph). v < n.vertices) (sym whole) lt))))

-- a weight for each edge
pub weights_long : (g : GraphData) (weight : ℕ × EdgeRow → Option ℕ) (read weights : List ℕ) (digraph : Digraph) → AreWeights weight (all_edges g) weights → read ≡ weights → digraph ≡ digraph_of g → length read ≡ length digraph.edges
weights_long g weight read weights digraph are same whole =
    ap length same
    ∙ sym (length-map weights Some)
    ∙ ap length (sym are)
    ∙ length-map (all_edges g) weight
    ∙ sym (length-map (all_edges g) (λ (p : ℕ × EdgeRow). ends_of g p.0 p.1))
    ∙ ap (λ (d : Digraph). length d.edges) (sym whole)
