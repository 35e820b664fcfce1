use Rattle.journal_text.proofs.KeyEdges.{all_leaving, all_entering}
use Rattle.journal_text.proofs.laws.keys_of_whole_graphs_tell_the_vertex.Goals as goal

pub returns : goal.returns
returns c =
    let g = c.args.on.now in
    let t = c.args.at.table in
    let place = c.args.at.place in
    record {
      leaving = all_leaving g t place c.args.key c.sound.ensures c.requires.there c.requires.keys;
      entering = all_entering g t place c.args.key c.sound.ensures c.requires.there c.requires.keys;
    }
