-- values of columns fit their kinds, and what holds of each answer
use Rattle.std.proofs.Common.{◌≡◌, ℕ, Some, slice_get, sym, subst}
use Rattle.std.specs.Prelude.{IsTrue, OnOk, Result, Ok, Err}
use Rattle.std.proofs.lemmas.Option.{slice_get_within, get_or_from_slice_get}
use Rattle.column_types.specs.declared.value.Value.{Value}
use Rattle.column_types.specs.declared.kind.Kind.{Kind}
use Rattle.column_types.specs.Column.{ColumnData, IsColumn}
use Rattle.column_types.specs.Value.{fits_kind}
use Rattle.graph_schema.proofs.Sound.{all_pass}

-- a value of a column fits its kind
pub value_fits : (c : ColumnData) (p : ℕ) (k : Kind) (v : Value) → IsColumn c → k ≡ c.kind → slice_get c.values p ≡ Some v → IsTrue (fits_kind k v)
value_fits c p k v is same there =
    let fits = all_pass (fits_kind c.kind) c.values is.kinds p v (slice_get_within c.values p v there) in
    subst (λ j. IsTrue (fits_kind j v)) (sym same) (subst (λ x. IsTrue (fits_kind c.kind x)) (get_or_from_slice_get c.values p v v there) fits)

-- what holds holds where the answer is Ok
pub on_ok : {T E : Type 0} (r : Result T E) (P : Type 0) → P → OnOk r P
on_ok (Ok x) P p = p
on_ok (Err e) P p = tt
