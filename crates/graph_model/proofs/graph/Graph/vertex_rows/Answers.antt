use Rattle.std.proofs.Common.{◌≡◌, ◌∙◌, sym, ap}
use Rattle.std.proofs.lemmas.Result.{IfOk-weaker}
use Rattle.graph_model.specs.Keys.{rows_at}
use Rattle.graph_model.specs.Stored.{no_table, vertex_rows}
use Rattle.graph_model.proofs.Rows.{got, none_at}
use Rattle.graph_model.proofs.StoredRows.{vertices_at}
use Rattle.graph_model.proofs.graph.Graph.vertex_rows.Goals as goal

pub returns-in-Some : goal.returns-in-Some
returns-in-Some c =
    let g = c.self.inside in
    let there = c.in-Some.there.now in
    let at = got g.vertices c.args.table there no_table (sym c.in-Some.ensures.value) in
    IfOk-weaker c.copy_vertices.result (λ rows. rows ≡ vertex_rows there) (λ rows. rows ≡ rows_at c.args.self.now.vertices c.args.table)
    (λ rows e. e ∙ ap vertex_rows (sym at.1) ∙ sym (vertices_at g.schema g.vertices g.edges g.ends c.args.table) ∙ ap (λ x. rows_at x.vertices c.args.table) c.self.view_is)
    c.copy_vertices.ensures

pub returns-in-None : goal.returns-in-None
returns-in-None c =
    let g = c.self.inside in
    let none = none_at g.vertices c.args.table no_table (sym c.in-None.ensures.value) in
    c.new.ensures ∙ ap vertex_rows (sym none) ∙ sym (vertices_at g.schema g.vertices g.edges g.ends c.args.table) ∙ ap (λ x. rows_at x.vertices c.args.table) c.self.view_is
