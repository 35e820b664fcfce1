use Rattle.std.proofs.Common.{◌≡◌, ◌∙◌, sym, get_or}
use Rattle.std.proofs.lemmas.Result.{IfOk-weaker}
use Rattle.column_types.specs.declared.value.Value.TheVariants.{Null}
use Rattle.column_types.specs.Value.{cell_value}
use Rattle.graph_model.proofs.Rows.{got}
use Rattle.graph_model.proofs.cells.copy_cell.Goals as goal

pub returns : goal.returns
returns c =
    let at = got c.args.column.now.values c.args.place (cell_value c.get.result) Null c.get.ensures in
    IfOk-weaker c.copy_value.result (λ v. v ≡ cell_value c.get.result) (λ v. v ≡ get_or c.args.column.now.values c.args.place Null) (λ v e. e ∙ sym at.1) c.copy_value.ensures
