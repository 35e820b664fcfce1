use Rattle.std.proofs.Common.{◌≡◌, ◌+◌, [], ◌∷◌, sym, ap, ◌∙◌, set}
use Rattle.column_reclaim.specs.Registry.{raise_by}
use Rattle.column_reclaim.proofs.Times.{times_same}
use Rattle.column_reclaim.proofs.Changes.{changed_at, unchanged, raise_other}
use Rattle.column_reclaim.proofs.row.raise.Goals as goal

pub returns-in-Some-clause-rows : goal.returns-in-Some-clause-rows
returns-in-Some-clause-rows g c =
    let id = c.args.id in
    let rows = c.args.rows.now.items in
    let place = c.in-Some.place in
    let row = c.index_mut-row.result.now in
    let is = c.index_mut-row.ensures.value in
    let within = rw c.as_slice.ensures.value at c.in-Some.ensures.within in
    let found = rw c.as_slice.ensures.value at c.in-Some.ensures.found in
    let own : row.id ≡ id = rw is (found row) in
    ap (λ n. set rows place (record row { count = row.count + n })) (sym (times_same row.id id (sym own)))
    ∙ changed_at (raise_by (id ∷ [])) id (raise_other id) rows place row c.requires.rises within found is

pub returns-in_default-clause-rows : goal.returns-in_default-clause-rows
returns-in_default-clause-rows g c =
    sym (unchanged (raise_by (c.args.id ∷ [])) c.args.id (raise_other c.args.id) c.args.rows.now.items (rw c.as_slice.ensures.value at c.in_default.ensures.missing))
