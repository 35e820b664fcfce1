use Rattle.std.proofs.Common.{◌≡◌, ◌<◌, ◌+◌, [], ◌∙◌, ℕ, ap, sym, subst, arith, length, map}
use Rattle.std.specs.Prelude.{flat_map, sum, sum_by}
use Rattle.std.specs.List.{range_with_len, zip}
use Rattle.std.proofs.lemmas.List.Sums.{sum_by_more, sum-map}
use Rattle.graph_schema.specs.Schema.{SchemaData}
use Rattle.graph_model.specs.Graph.{source_at, destination_at}
use Rattle.graph_slots.specs.Meaning.{source_places, destination_places}
use Rattle.graph_model.proofs.Zips.{AllZip-length}
use Rattle.algo_digraph.specs.Digraph.{Digraph}
use Rattle.algo_digraph.specs.DigraphOf.{digraph_edges, table_edges}
use Rattle.algo_digraph.specs.Sides.{all_ends, IsSide}
use Rattle.algo_digraph.proofs.Edges.{by_tables, whole}
use Rattle.algo_digraph.proofs.Sides.{sides_push}
use Rattle.algo_digraph.proofs.Tables.{sources_in, destinations_in, places_long, is_side, source_ends, target_ends, ends_more, ends_count, edges_before}
use Rattle.algo_digraph.proofs.flat.FlatDigraph.new.Goals as goal

pub overflow_add-first_edge : goal.overflow_add-first_edge
overflow_add-first_edge c =
    let g = c.args.on.now in
    let t = c.loop-table.table in
    let within : t < length g.edges = omega (arith, ap length c.edges.ensures, ap (λ (s : SchemaData). length s.edges) c.schema.ensures, AllZip-length _ _ _ c.sound.ensures.edges, c.loop-table-test.true) in
    omega (arith, c.loop-table.invariant.first, c.edge_count-first_edge.ensures, sum_by_more length g.edges t [] within, edges_before g (t + 1), c.sound.ensures.few_edges)

pub loop-table-preserved : goal.loop-table-preserved
loop-table-preserved c =
    let g = c.args.on.now in
    let t = c.loop-table.table in
    let inv = c.loop-table.invariant in
    let out = c.loop-table.out in
    let into = c.loop-table.into in
    let s = c.out_side.result in
    let o = c.in_side.result in
    let within : t < length g.edges = omega (arith, ap length c.edges.ensures, ap (λ (s : SchemaData). length s.edges) c.schema.ensures, AllZip-length _ _ _ c.sound.ensures.edges, c.loop-table-test.true) in
    let sizes = c.requires in
    let long = places_long g t c.sound.ensures in
    let from : ℕ = source_at g.schema t in
    let to : ℕ = destination_at g.schema t in
    let one = subst (λ z. IsSide (sum z) c.loop-table.first_edge s o) (sym sizes) (is_side g c.loop-table.first_edge from to (source_places g t) (destination_places g t) s o c.out_side.ensures c.in_side.ensures long (destinations_in g t c.sound.ensures)) in
    let two = subst (λ z. IsSide (sum z) c.loop-table.first_edge o s) (sym sizes) (is_side g c.loop-table.first_edge to from (destination_places g t) (source_places g t) o s c.in_side.ensures c.out_side.ensures (sym long) (sources_in g t c.sound.ensures)) in
    let outs : c.loop-table.first_edge ≡ 0 + length (all_ends out) = omega (arith, inv.first, ends_count (λ (p : ℕ × ℕ). p.1) g t out (omega (arith, within)) inv.targets) in
    let ins : c.loop-table.first_edge ≡ 0 + length (all_ends into) = omega (arith, inv.first, ends_count (λ (p : ℕ × ℕ). p.0) g t into (omega (arith, within)) inv.sources) in
    let pushed_out = c.in_ok-push.ensures.ok in
    let pushed_in = c.in_ok-push-2.ensures.ok in
    record {
      out_are = rw (pushed_out, pushed_in) (sides_push (sum c.args.order.now) 0 out into s o inv.out_are (subst (λ k. IsSide (sum c.args.order.now) k s o) outs one));
      into_are = rw (pushed_out, pushed_in) (sides_push (sum c.args.order.now) 0 into out o s inv.into_are (subst (λ k. IsSide (sum c.args.order.now) k o s) ins two));
      sources = ends_more (λ (p : ℕ × ℕ). p.0) g t into _ o inv.sources (source_ends g t c.loop-table.first_edge to (destination_places g t) o c.in_side.ensures) pushed_in;
      targets = ends_more (λ (p : ℕ × ℕ). p.1) g t out _ s inv.targets (target_ends g t c.loop-table.first_edge from (source_places g t) s c.out_side.ensures) pushed_out;
      first = omega (arith, inv.first, c.edge_count-first_edge.ensures, sum_by_more length g.edges t [] within);
    }

pub invariant_of-result : goal.invariant_of-result
invariant_of-result c =
    let g = c.args.on.now in
    let inv = c.loop-table.invariant in
    let all : c.loop-table.table ≡ length g.edges = omega (arith, ap length c.edges.ensures, ap (λ (s : SchemaData). length s.edges) c.schema.ensures, AllZip-length _ _ _ c.sound.ensures.edges, c.loop-table.auto.table-end, c.loop-table-test.false) in
    record {
      few_vertices = omega (arith, c.vertex_count.ensures.few);
      few_edges = omega (arith, ends_count (λ (p : ℕ × ℕ). p.1) g c.loop-table.table c.loop-table.out (omega (arith, all)) inv.targets, edges_before g c.loop-table.table, c.sound.ensures.few_edges);
      out_are = rw c.vertex_count.ensures.all inv.out_are;
      into_are = rw c.vertex_count.ensures.all inv.into_are;
    }

pub returns : goal.returns
returns c =
    let g = c.args.on.now in
    let inv = c.loop-table.invariant in
    let out = c.loop-table.out in
    let into = c.loop-table.into in
    let all : c.loop-table.table ≡ length g.edges = omega (arith, ap length c.edges.ensures, ap (λ (s : SchemaData). length s.edges) c.schema.ensures, AllZip-length _ _ _ c.sound.ensures.edges, c.loop-table.auto.table-end, c.loop-table-test.false) in
    let sources : all_ends into ≡ map (λ p. p.0) (digraph_edges g) =
    inv.sources ∙ ap (λ n. map (λ (p : ℕ × ℕ). p.0) (flat_map (table_edges g) (range_with_len 0 n))) all ∙ ap (map (λ (p : ℕ × ℕ). p.0)) (sym (by_tables g)) in
    let targets : all_ends out ≡ map (λ p. p.1) (digraph_edges g) =
    inv.targets ∙ ap (λ n. map (λ (p : ℕ × ℕ). p.1) (flat_map (table_edges g) (range_with_len 0 n))) all ∙ ap (map (λ (p : ℕ × ℕ). p.1)) (sym (by_tables g)) in
    let count = c.vertex_count.ensures.all ∙ ap sum c.requires ∙ sum-map length g.vertices in
    let edges = ap (λ s. zip s (all_ends out)) sources ∙ ap (zip (map (λ (p : ℕ × ℕ). p.0) (digraph_edges g))) targets ∙ whole (digraph_edges g) in
    ap (λ n. let x : Digraph = record { vertices = n; edges = zip (all_ends into) (all_ends out) } in x) count
    ∙ ap (λ es. let x : Digraph = record { vertices = sum_by length g.vertices; edges = es } in x) edges
