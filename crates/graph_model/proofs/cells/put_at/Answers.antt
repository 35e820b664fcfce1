use Rattle.std.proofs.Common.{◌≡◌, ◌∙◌, sym, ap, subst, length, get_or, set, slice_get}
use Rattle.std.specs.List.{refill}
use Rattle.std.proofs.lemmas.List.{length-set, get_or-set_same, get_or_default}
use Rattle.std.proofs.lemmas.Result.{on_ok_weaker}
use Rattle.graph_model.specs.Seats.{PutsAt, KeepsBelow, column_at, no_column}
use Rattle.graph_model.proofs.Rows.{refill_same}
use Rattle.graph_model.proofs.Memory.{puts_set}
use Rattle.graph_model.proofs.cells.put_at.Goals as goal

pub returns-clause-kept : goal.returns-clause-kept
returns-clause-kept c =
    let cs = c.args.columns.now in
    let p = c.args.column in
    let d = c.put_value.new.column in
    let lent = c.as_mut_slice.ensures.value in
    let after = ap (λ l. refill (length cs) cs (set l p d)) lent ∙ refill_same cs (set cs p d) (length-set cs p d) in
    let here = ap (λ l. get_or l p c.index-as_mut_slice-column.result) lent ∙ get_or_default cs p c.index-as_mut_slice-column.result no_column c.requires.column in
    subst (PutsAt p c.args.place cs) (sym after) (puts_set cs p c.args.place d c.requires.column (subst (λ x. KeepsBelow c.args.place x d) here c.put_value.ensures.kept))

pub returns-clause-ok : goal.returns-clause-ok
returns-clause-ok c =
    let cs = c.args.columns.now in
    let p = c.args.column in
    let d = c.put_value.new.column in
    let lent = c.as_mut_slice.ensures.value in
    let after = ap (λ l. refill (length cs) cs (set l p d)) lent ∙ refill_same cs (set cs p d) (length-set cs p d) in
    let same = ap (λ l. slice_get (column_at l p).values c.args.place) after ∙ ap (λ x. slice_get x.values c.args.place) (get_or-set_same cs p d no_column c.requires.column) in
    on_ok_weaker c.put_value.result (λ e. same ∙ e) c.put_value.ensures.ok
