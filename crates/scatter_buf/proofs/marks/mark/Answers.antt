use Rattle.scatter_buf.proofs.Marked.{is_marked-same, is_marked-other}
use Rattle.scatter_buf.proofs.marks.mark.Goals as goal

pub returns-clause-marked : goal.returns-clause-marked
returns-clause-marked c = is_marked-same c.args.words.now c.args.place c.requires

pub returns-clause-others : goal.returns-clause-others
returns-clause-others c = is_marked-other c.args.words.now c.args.place c.requires
