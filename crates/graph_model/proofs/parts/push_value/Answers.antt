use Rattle.std.proofs.Common.{◌≡◌, ◌++◌, ◌∷◌, [], ◌∙◌, sym, ap, subst, get_or}
use Rattle.std.specs.Prelude.{IsTrue}
use Rattle.column_types.specs.declared.value.Value.TheVariants.{Null}
use Rattle.column_types.specs.Value.{cell_value, fits_kind}
use Rattle.graph_model.specs.Parts.{is_kept}
use Rattle.graph_model.proofs.Rows.{got}
use Rattle.graph_model.proofs.SeatRows.{one_row}
use Rattle.graph_model.proofs.TableParts.{all_at}
use Rattle.graph_model.proofs.parts.push_value.Goals as goal

pub push-requires-clause-kind : goal.push-requires-clause-kind
push-requires-clause-kind c =
    let a = c.args in
    let at = got a.column.now.values a.place (cell_value c.get.result) Null c.get.ensures in
    let fits : IsTrue (fits_kind a.column.now.kind (get_or a.column.now.values a.place Null)) = all_at (fits_kind a.column.now.kind) a.column.now.values a.place Null c.requires.column.kinds c.requires.place in
    subst (λ k. IsTrue (fits_kind k c.in_ok-copy_value.field-0)) (sym c.requires.kind)
    (subst (λ v. IsTrue (fits_kind a.column.now.kind v)) (at.1 ∙ sym c.in_ok-copy_value.ensures) fits)

pub returns-clause-ok : goal.returns-clause-ok
returns-clause-ok c =
    let a = c.args in
    let at = got a.column.now.values a.place (cell_value c.get.result) Null c.get.ensures in
    let kept = sym c.stays.ensures ∙ c.if-not-stays.false in
    c.in_ok-push.ensures.ok
    ∙ ap (λ v. a.copy.now.values ++ v ∷ []) (c.in_ok-copy_value.ensures ∙ sym at.1)
    ∙ ap (λ l. a.copy.now.values ++ l) (sym (one_row (λ i. get_or a.column.now.values i Null) (is_kept a.dead.now) a.place kept))
