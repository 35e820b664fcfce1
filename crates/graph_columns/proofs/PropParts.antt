-- the columns of the properties of a table
use Rattle.std.proofs.Common.{◌≡◌, suc, ◌*◌, List, [], ◌∷◌, All, length, sum_by, arith}
use Rattle.std.proofs.lemmas.List.Sums.{sum_by-cons}
use Rattle.column_types.specs.declared.value.Value.{Value}
use Rattle.graph_schema.specs.declared.schema.Prop.{Prop}
use Rattle.graph_model.specs.Graph.{AreValues}

-- a table has as many values as properties times rows
pub cells_counted : {R : Type 0} (values : R → List Value) (props : List Prop) (rows : List R) → All (λ r. AreValues props (values r)) rows → sum_by (λ r. length (values r)) rows ≡ length props * length rows
cells_counted values props [] are = omega arith
cells_counted values props (r ∷ rows) are =
    let here = (are 0 r (omega arith)).count in
    let rest = cells_counted values props rows (λ i d l. are (suc i) d (omega arith)) in
    omega (arith, sum_by-cons (λ r. length (values r)) r rows)
