-- the digraph that the sides of all tables are seen as
use Rattle.std.proofs.Common.{◌≡◌, ℕ, ◌<◌, ◌≤◌, List, Some, All, length, slice_get, slice_index, slice_index_or, map, refl, ap, sym, ◌∙◌, subst, arith}
use Rattle.std.specs.Prelude.{flat_map}
use Rattle.std.specs.List.{zip}
use Rattle.std.proofs.lemmas.List.{length-map}
use Rattle.std.proofs.lemmas.List.Elements.{All-get_or}
use Rattle.std.proofs.lemmas.Slice.Zip.{firsts-zip}
use Rattle.csr_rows.specs.Rows.{places_of}
use Rattle.algo_digraph.specs.declared.side.Side.{Side}
use Rattle.algo_digraph.specs.declared.arcs.Arc.{Arc}
use Rattle.algo_digraph.specs.Digraph.{Digraph, IsClosed}
use Rattle.algo_digraph.specs.Arcs.{arc, out_arcs, in_arcs}
use Rattle.algo_digraph.specs.Sides.{side_arcs, all_ends, HasRows, IsFlat}
use Rattle.algo_digraph.proofs.Lists.{map_same, first_at, second_at, seconds-zip}
use Rattle.algo_digraph.proofs.Sides.{arcs_are, all_have_rows, ends_in, ends_long}
use Rattle.algo_digraph.proofs.ArcEdges.{goes_within, source_is, target_is, out_few, in_few}

module _ (vertices : ℕ) (out into : List Side) (is : IsFlat vertices out into) where
  abbrev pub flat : Digraph
  flat = record { vertices = vertices; edges = zip (all_ends into) (all_ends out) }

  long : length (all_ends out) ≡ length (all_ends into)
  long = ends_long vertices 0 out into is.out_are

  firsts : map (λ (p : ℕ × ℕ). p.0) (zip (all_ends into) (all_ends out)) ≡ all_ends into
  firsts = firsts-zip (all_ends into) (all_ends out) long

  seconds : map (λ (p : ℕ × ℕ). p.1) (zip (all_ends into) (all_ends out)) ≡ all_ends out
  seconds = seconds-zip (all_ends into) (all_ends out) long

  pub edge_count : length (zip (all_ends into) (all_ends out)) ≡ length (all_ends out)
  edge_count = sym (length-map (zip (all_ends into) (all_ends out)) (λ (p : ℕ × ℕ). p.1)) ∙ ap length seconds

  target_at : (e : ℕ) → slice_index_or (all_ends out) e 0 ≡ (slice_index_or (zip (all_ends into) (all_ends out)) e (0, 0)).1
  target_at e = ap (λ xs. slice_index_or xs e 0) (sym seconds) ∙ second_at (zip (all_ends into) (all_ends out)) e

  source_at : (e : ℕ) → slice_index_or (all_ends into) e 0 ≡ (slice_index_or (zip (all_ends into) (all_ends out)) e (0, 0)).0
  source_at e = ap (λ xs. slice_index_or xs e 0) (sym firsts) ∙ first_at (zip (all_ends into) (all_ends out)) e

  -- the arcs of a vertex
  pub out_is : (v : ℕ) → flat_map (side_arcs v) out ≡ map (λ e. arc e (slice_index_or (zip (all_ends into) (all_ends out)) e (0, 0)).1) (places_of (map (λ (p : ℕ × ℕ). p.0) (zip (all_ends into) (all_ends out))) v)
  out_is v =
      arcs_are vertices 0 out into v (all_ends out) is.out_are refl
      ∙ map_same (λ e. arc e (slice_index_or (all_ends out) e 0)) (λ e. arc e (slice_index_or (zip (all_ends into) (all_ends out)) e (0, 0)).1) (places_of (all_ends into) v) (λ e. ap (arc e) (target_at e))
      ∙ ap (λ xs. map (λ e. arc e (slice_index_or (zip (all_ends into) (all_ends out)) e (0, 0)).1) (places_of xs v)) (sym firsts)

  pub in_is : (v : ℕ) → flat_map (side_arcs v) into ≡ map (λ e. arc e (slice_index_or (zip (all_ends into) (all_ends out)) e (0, 0)).0) (places_of (map (λ (p : ℕ × ℕ). p.1) (zip (all_ends into) (all_ends out))) v)
  in_is v =
      arcs_are vertices 0 into out v (all_ends into) is.into_are refl
      ∙ map_same (λ e. arc e (slice_index_or (all_ends into) e 0)) (λ e. arc e (slice_index_or (zip (all_ends into) (all_ends out)) e (0, 0)).0) (places_of (all_ends out) v) (λ e. ap (arc e) (source_at e))
      ∙ ap (λ xs. map (λ e. arc e (slice_index_or (zip (all_ends into) (all_ends out)) e (0, 0)).0) (places_of xs v)) (sym seconds)

  -- each edge goes between vertices
  pub closed : (e a b : ℕ) → slice_get (zip (all_ends into) (all_ends out)) e ≡ Some (a, b) → (a < vertices) × (b < vertices)
  closed e a b h =
      let within : e < length (zip (all_ends into) (all_ends out)) = goes_within flat e a b h in
      let from : slice_index (all_ends into) e ≡ a = source_at e ∙ source_is flat e a b h in
      let to : slice_index (all_ends out) e ≡ b = target_at e ∙ target_is flat e a b h in (
        omega (arith, from, All-get_or (λ v. v < vertices) (all_ends into) e 0 (omega (arith, within, edge_count, long)) (ends_in vertices 0 into out is.into_are)),
        omega (arith, to, All-get_or (λ v. v < vertices) (all_ends out) e 0 (omega (arith, within, edge_count)) (ends_in vertices 0 out into is.out_are)),
      )

  -- what a call finds, where the digraph is the one that is seen
  module _ (g : Digraph) (seen : flat ≡ g) (v : ℕ) (lent : List Side) (found : List Arc) (is_found : found ≡ flat_map (side_arcs v) lent) where
    pub out_found : lent ≡ out → found ≡ out_arcs g v
    out_found same = is_found ∙ ap (flat_map (side_arcs v)) same ∙ out_is v ∙ ap (λ x. out_arcs x v) seen

    pub in_found : lent ≡ into → found ≡ in_arcs g v
    in_found same = is_found ∙ ap (flat_map (side_arcs v)) same ∙ in_is v ∙ ap (λ x. in_arcs x v) seen

  pub closed_seen : (g : Digraph) → flat ≡ g → IsClosed g
  closed_seen g seen = subst IsClosed seen closed

  -- there are few arcs
  pub out_short : (v : ℕ) → length (flat_map (side_arcs v) out) ≤ 4194304
  out_short v =
      let same : length (flat_map (side_arcs v) out) ≡ length (out_arcs flat v) = ap length (out_is v) in
      omega (arith, same, out_few flat v, edge_count, is.few_edges)

  pub in_short : (v : ℕ) → length (flat_map (side_arcs v) into) ≤ 4194304
  in_short v =
      let same : length (flat_map (side_arcs v) into) ≡ length (in_arcs flat v) = ap length (in_is v) in
      omega (arith, same, in_few flat v, edge_count, is.few_edges)

  -- the rows of both sides can be read
  pub out_rows : All HasRows out
  out_rows = all_have_rows vertices 0 out into is.out_are is.few_vertices (omega (arith, is.few_edges))

  pub into_rows : All HasRows into
  into_rows = all_have_rows vertices 0 into out is.into_are is.few_vertices (omega (arith, is.few_edges, long))
