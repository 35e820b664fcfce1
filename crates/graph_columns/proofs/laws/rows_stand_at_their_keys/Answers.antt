use Rattle.graph_model.specs.Keys.{rows_at}
use Rattle.graph_model.specs.Graph.{vertex_key, edge_key}
use Rattle.graph_model.proofs.Distinct.{once_in}
use Rattle.graph_columns.proofs.Standing.{row_found}
use Rattle.graph_columns.proofs.laws.rows_stand_at_their_keys.Goals as goal

pub returns : goal.returns
returns c =
    let g = c.args.graph.now in
    record {
      vertices = λ t place row there. row_found vertex_key (rows_at g.vertices t) place row there (once_in g.schema.keys vertex_key g.vertices c.sound.ensures.vertex_keys row.key t);
      edges = λ t place row there. row_found edge_key (rows_at g.edges t) place row there (once_in g.schema.keys edge_key g.edges c.sound.ensures.edge_keys row.key t);
    }
