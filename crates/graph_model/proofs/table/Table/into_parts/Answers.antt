use Rattle.std.proofs.Common.{◌≡◌, ◌==◌, ◌∙◌, Bool, true, List, [], arith, sym, ap, subst, length}
use Rattle.std.specs.List.{list_all}
use Rattle.std.proofs.lemmas.Bool.Decides.{nat_tests}
use Rattle.std.proofs.lemmas.List.{nil_from_length}
use Rattle.column_types.specs.Column.{ColumnData}
use Rattle.graph_model.specs.declared.parts.TableParts.{TableParts}
use Rattle.graph_model.specs.Seats.{TableData, IsTable, kinds_of, seats_from}
use Rattle.graph_model.specs.Parts.{ArePartsOf}
use Rattle.graph_model.proofs.TableParts.{moved_parts}
use Rattle.graph_model.proofs.table.Table.into_parts.Goals as goal

pub returns-then-are_as_long : goal.returns-then-are_as_long
returns-then-are_as_long c =
    let t = c.self.inside in
    let p : TableParts = record { keys = t.keys; columns = t.columns; places = t.index } in
    let none : t.dead.items ≡ [] = nil_from_length t.dead.items (grind (arith, nat_tests, c.is_empty.ensures, c.if-is_empty.true)) in
    let exact : list_all (λ (x : ColumnData). length x.values == length t.keys) t.columns ≡ true =
    ap (list_all (λ (x : ColumnData). length x.values == length t.keys)) (sym c.as_slice.ensures)
    ∙ ap (λ n. list_all (λ (x : ColumnData). length x.values == n) c.as_slice.result.now) (sym c.len.ensures)
    ∙ sym c.are_as_long.ensures ∙ c.if-are_as_long.true in
    subst (λ x. ArePartsOf x p) c.self.view_is
    (subst (λ (l : List Bool). ArePartsOf (record { kinds = kinds_of t.columns; seats = seats_from t.keys t.columns l }) p) (sym none)
    (moved_parts p t.live (subst (λ (l : List Bool). IsTable t.keys t.columns l t.index t.live) none c.self.invariant) exact))
