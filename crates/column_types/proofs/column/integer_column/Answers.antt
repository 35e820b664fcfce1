use Rattle.std.proofs.Common.{◌≡◌, List, length, map, Some, ap, sym, subst, ◌∙◌, arith}
use Rattle.std.specs.Prelude.{IsTrue}
use Rattle.std.specs.List.{list_all}
use Rattle.std.proofs.lemmas.List.{length-map}
use Rattle.column_types.specs.declared.kind.Kind.TheVariants as kind
use Rattle.column_types.specs.declared.value.Value.TheVariants.{Integer}
use Rattle.column_types.specs.Value.{fits_kind}
use Rattle.column_types.specs.Column.{ColumnData}
use Rattle.column_types.proofs.WholeColumns.{values_told, integers_fit}
use Rattle.column_types.proofs.column.integer_column.Goals as goal

pub invariant_of-result : goal.invariant_of-result
invariant_of-result c =
    let are = values_told Integer c.args.integers c.of_items-items.result (c.of_items-items.ensures ∙ ap (map Some) c.into_vec.ensures) in
    (omega (arith, ap length are, length-map c.args.integers Integer), subst (λ vs. IsTrue (list_all (fits_kind kind.Integer) vs)) (sym are) (integers_fit c.args.integers))

pub returns : goal.returns
returns c =
    let are = values_told Integer c.args.integers c.of_items-items.result (c.of_items-items.ensures ∙ ap (map Some) c.into_vec.ensures) in
    ap (λ vs. let d : ColumnData = record { kind = kind.Integer; values = vs } in d) are
