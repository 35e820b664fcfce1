use Rattle.std.proofs.Common.{◌∙◌, ap}
use Rattle.algo_digraph.specs.Marks.{marks_in}
use Rattle.algo_digraph.proofs.Cells.{no_marks}
use Rattle.algo_digraph.proofs.marks.Marks.none.Goals as goal

pub returns : goal.returns
returns c = ap marks_in (c.from_vec.ensures ∙ c.in_ok-cells.ensures.items_if_clones_equal (λ y e. e)) ∙ no_marks c.args.n
