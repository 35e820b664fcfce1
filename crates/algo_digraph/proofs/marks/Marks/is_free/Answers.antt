use Rattle.std.proofs.Common.{◌∙◌, ap, None}
use Rattle.std.specs.Option.{is_none}
use Rattle.std.proofs.lemmas.List.{get_or_default}
use Rattle.algo_digraph.proofs.Cells.{is_free, free_is}
use Rattle.algo_digraph.proofs.marks.Marks.is_free.Goals as goal

pub returns-clause-value : goal.returns-clause-value
returns-clause-value c = λ d. is_free c.cell.result ∙ ap is_none (c.cell.ensures ∙ get_or_default c.args.self.now c.args.v None d c.requires)

pub returns-clause-free : goal.returns-clause-free
returns-clause-free c = rw (← c.cell.ensures) (free_is c.cell.result)
