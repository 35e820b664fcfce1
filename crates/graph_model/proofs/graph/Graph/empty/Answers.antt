use Rattle.std.proofs.Common.{◌≡◌, ◌∙◌, [], map, length, ap, subst}
use Rattle.graph_schema.specs.Schema.{IsSchema}
use Rattle.graph_model.specs.Stored.{kinds_of_props}
use Rattle.graph_model.proofs.StoredRows.{empty_stored, empty_view, no_edges, no_vertices}
use Rattle.graph_model.proofs.Kept.{empty_counted}
use Rattle.graph_model.proofs.graph.Graph.empty.Goals as goal

pub invariant_of-result : goal.invariant_of-result
invariant_of-result c =
    let same : c.len.result ≡ length (no_edges c.args.schema c.len.result) = c.len.ensures ∙ ap length c.in_ok-edges.ensures ∙ ap (λ xs. length (map (λ x. record { kinds = kinds_of_props x.props; seats = [] }) xs)) c.edges.ensures in
    let tables : c.len-2.result ≡ length (no_vertices c.args.schema c.len.result) = c.len-2.ensures ∙ ap length c.in_ok-vertices.ensures ∙ ap (λ xs. length (map (λ x. record { kinds = kinds_of_props x.props; seats = [] }) xs)) c.vertices.ensures in
    rw (c.in_ok-counts.ensures, c.in_ok-ends.ensures, c.in_ok-vertices.ensures, c.in_ok-edges.ensures, c.vertices.ensures, c.edges.ensures)
    (record {
      stored = empty_stored c.args.schema c.len.result same (subst IsSchema c.schema.view_is c.schema.invariant);
      counted = empty_counted c.args.schema c.len.result c.len-2.result tables;
    })

pub returns : goal.returns
returns c =
    rw (c.in_ok-ends.ensures, c.in_ok-vertices.ensures, c.in_ok-edges.ensures, c.vertices.ensures, c.edges.ensures)
    (empty_view c.args.schema c.len.result)
