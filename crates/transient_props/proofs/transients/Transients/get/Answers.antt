use Rattle.std.proofs.Common.{◌≡◌, ℕ, List, Option, Some, None, Bor, length, slice_get, get_or, refl, sym, ap, ◌∙◌}
use Rattle.std.specs.Prelude.{is_some, nat_lt, IfSome}
use Rattle.std.specs.Option.{option_copied}
use Rattle.std.proofs.lemmas.Bool.{ltb-true, ltb-false}
use Rattle.std.proofs.lemmas.Option.{slice_get_past, slice_get_read}
use Rattle.transient_props.specs.Transients.{column_of}
use Rattle.transient_props.proofs.Leaving.{found_in, answered}
use Rattle.transient_props.proofs.transients.Transients.get.Goals as goal

item_is : {X : Type 0} (xs : List X) (i : ℕ) (r : Option (Bor X)) → is_some r ≡ nat_lt i (length xs) → IfSome r (λ x. x.now ≡ get_or xs i x.now) → option_copied r ≡ slice_get xs i
item_is xs i None within is = sym (slice_get_past xs i (ltb-false i (length xs) (sym within)))
item_is xs i (Some x) within is = sym (slice_get_read xs (length xs) i x.now refl (ltb-true i (length xs) (sym within)) is)

-- the column that stands at the place of the name
pub returns : goal.returns
returns c =
    let n = c.args.name.now in
    let ps = c.self.inside.props.items in
    let cs = c.self.inside.columns.items in
    let place : c.place_of.result ≡ found_in n ps = c.place_of.ensures ∙ ap (found_in n) c.as_slice.ensures.value in
    item_is c.deref.result.now c.place_of.result c.get.result c.get.ensures.lookup.0 c.get.ensures.lookup.1
    ∙ ap (λ columns. slice_get columns c.place_of.result) c.deref.ensures.value ∙ ap (slice_get cs) place
    ∙ answered ps cs n c.self.invariant ∙ ap (λ ts. column_of ts n) c.self.view_is
