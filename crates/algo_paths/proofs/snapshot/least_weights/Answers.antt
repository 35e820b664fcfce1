use Rattle.std.proofs.Common.{◌∙◌, ap, sym, w64, FitsSigned}
use Rattle.std.proofs.lemmas.Int.{to_z-of_z}
use Rattle.graph_schema.specs.Schema.{SchemaData}
use Rattle.graph_model.specs.Graph.{has_vertex}
use Rattle.algo_paths.specs.Weights.{has_weight, edge_weight}
use Rattle.algo_paths.proofs.Answering.{found_there, weights_long, least_on}
use Rattle.algo_paths.proofs.snapshot.least_weights.Goals as goal

pub digraph_least_weights-requires-clause-weights : goal.digraph_least_weights-requires-clause-weights
digraph_least_weights-requires-clause-weights g c κs within =
    weights_long c.args.on.now (edge_weight c.args.weight.now c.args.on.now) c.as_slice.result.now c.in_ok-weights.weights c.in_ok-digraph.digraph c.in_ok-weights.ensures.are c.as_slice.ensures c.in_ok-digraph.ensures

pub returns-clause-least : goal.returns-clause-least
returns-clause-least g c =
    let on = c.args.on.now in
    let fits : FitsSigned w64 c.args.from = c.ranges.from in
    let missing = rw (to_z-of_z w64 _ fits) at c.vertex_of_key.ensures.missing.1 in
    let edges = c.edges.ensures ∙ ap (λ (s : SchemaData). s.edges) c.schema.ensures in
    record {
      vertex = found_there (has_vertex c.args.from on.vertices) c.vertex_of_key.result c.in-Some.at missing c.in-Some.is;
      property = ap (has_weight c.args.weight.now) (sym edges) ∙ sym c.has_weight.ensures ∙ c.if-not-has_weight.false;
      at = c.in-Some.at;
      start = rw (to_z-of_z w64 _ fits) at c.in-Some.ensures.found;
      first = rw (to_z-of_z w64 _ fits) at c.in-Some.ensures.least;
      weights = c.in_ok-weights.weights;
      are = c.in_ok-weights.ensures.are;
      least = least_on on c.in-Some.at c.in_ok-found.found c.in_ok-digraph.digraph c.as_slice.result.now c.in_ok-weights.weights c.in_ok-order.order c.index-start.result
          c.in_ok-digraph.ensures c.as_slice.ensures c.index-start.ensures.value c.in_ok-order.ensures c.in_ok-found.ensures.each;
    }
