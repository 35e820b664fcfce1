use Rattle.std.proofs.Common.{ap}
use Rattle.graph_slots.specs.Meaning.{longs, edge_rows, source_places, destination_places}
use Rattle.graph_columns.proofs.ColumnTables.{told, integers_are, vertex_prop_is, edge_prop_is, vertex_tables_keep, edge_tables_keep}
use Rattle.graph_columns.proofs.laws.columns_hold_slots.Goals as goal

pub returns : goal.returns
returns c =
    let g = c.args.graph.now in
    record {
      vertex_keys = λ d x t are at. ap longs (are.vertices t x at).keys;
      vertex_props = λ d x t p values are at there. vertex_prop_is g d x t p values are at there;
      edge_keys = λ d x t are at. ap longs (are.edges t x at).keys;
      edge_props = λ d x t p values are at there. edge_prop_is g d x t p values are at there;
      sources = λ d x t are at. integers_are x.sources (source_places g t) (are.edges t x at).sources;
      destinations = λ d x t are at. integers_are x.destinations (destination_places g t) (are.edges t x at).destinations;
      out = λ d x t are at. ap edge_rows (told x.sources (source_places g t) (are.edges t x at).sources);
      into = λ d x t are at. ap edge_rows (told x.destinations (destination_places g t) (are.edges t x at).destinations);
      keep_vertices = λ d are. vertex_tables_keep g d c.sound.ensures are;
      keep_edges = λ d are. edge_tables_keep g d c.sound.ensures are;
    }
