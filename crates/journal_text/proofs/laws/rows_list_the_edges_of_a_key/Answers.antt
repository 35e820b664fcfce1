use Rattle.journal_text.proofs.KeyEdges.{leaving_listed, entering_listed, none_leaves, none_enters, out_there, in_there}
use Rattle.journal_text.proofs.laws.rows_list_the_edges_of_a_key.Goals as goal

pub returns : goal.returns
returns c =
    let g = c.args.on.now in
    let t = c.args.at.table in
    let place = c.args.at.place in
    record {
      leaving = leaving_listed g t place c.args.key c.sound.ensures c.requires c.args.edges;
      entering = entering_listed g t place c.args.key c.sound.ensures c.requires c.args.edges;
      out_there = out_there g t place c.args.edges;
      in_there = in_there g t place c.args.edges;
      none_leaves = none_leaves g t c.args.key c.args.edges;
      none_enters = none_enters g t c.args.key c.args.edges;
    }
