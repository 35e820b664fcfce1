use Rattle.std.proofs.lemmas.Result.{IfOk-weaker, on_err_weaker}
use Rattle.catalogue.proofs.desk.respond_plain.Goals as goal

pub returns-in-Peek-clause-ok : goal.returns-in-Peek-clause-ok
returns-in-Peek-clause-ok c = rw c.in-Peek.is (IfOk-weaker c.peek.result _ _ (λ r all. all c.args.who) c.peek.ensures.ok)

pub returns-in-Columns-clause-ok : goal.returns-in-Columns-clause-ok
returns-in-Columns-clause-ok c = rw c.in-Columns.is (IfOk-weaker c.columns.result _ _ (λ r all. all c.args.who) c.columns.ensures)

pub returns-in-Lines-clause-ok : goal.returns-in-Lines-clause-ok
returns-in-Lines-clause-ok c = rw c.in-Lines.is (IfOk-weaker c.list_lines.result _ _ (λ r all. all c.args.who) c.list_lines.ensures)

pub returns-in-Peek-clause-surely : goal.returns-in-Peek-clause-surely
returns-in-Peek-clause-surely c = rw c.in-Peek.is (on_err_weaker c.peek.result (λ all. all c.args.who) c.peek.ensures.surely)
