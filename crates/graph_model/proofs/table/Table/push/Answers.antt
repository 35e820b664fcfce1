use Rattle.std.proofs.Common.{◌≡◌, ◌<◌, ◌∙◌, false, arith, sym, ap, subst, length, FitsSigned, w64}
use Rattle.std.specs.List.{AllZip, list_any}
use Rattle.std.proofs.lemmas.Int.{to_z-of_z}
use Rattle.std.proofs.lemmas.Bool.Decides.{nat_tests}
use Rattle.std.proofs.lemmas.List.Sums.{length-filter, count_by-le-length}
use Rattle.std.proofs.lemmas.Result.{err_from_is_err_and}
use Rattle.graph_model.specs.Seats.{TableData, KeepsBelow, HasRow, is_live, sits, seats_from, seated}
use Rattle.graph_model.proofs.Memory.{kept_is_table, same_is_table, push_is_table, kept_view, push_view, length_seats}
use Rattle.graph_model.proofs.table.Table.push.Goals as goal

pub invariant_of-self : goal.invariant_of-self
invariant_of-self c =
    let t = c.self.inside in
    let kept = subst (λ n. AllZip (KeepsBelow n) t.columns c.put_row.new.columns) c.len-seat.ensures c.put_row.ensures.kept in
    kept_is_table t.keys t.columns c.put_row.new.columns t.dead.items t.index t.live c.self.invariant kept

pub returns-in_err-put_row-clause-err : goal.returns-in_err-put_row-clause-err
returns-in_err-put_row-clause-err c =
    let t = c.self.inside in
    let kept = subst (λ n. AllZip (KeepsBelow n) t.columns c.put_row.new.columns) c.len-seat.ensures c.put_row.ensures.kept in
    let p = err_from_is_err_and c.from_residual.result c.from_residual.ensures.1 in
    rw p.1 (kept_view t.keys t.columns c.put_row.new.columns t.dead.items kept ∙ c.self.view_is)

pub invariant_of-self-in_err-add_key : goal.invariant_of-self-in_err-add_key
invariant_of-self-in_err-add_key c =
    let t = c.self.inside in
    let kept = subst (λ n. AllZip (KeepsBelow n) t.columns c.put_row.new.columns) c.len-seat.ensures c.put_row.ensures.kept in
    rw c.in_err-add_key.ensures.keys_stay (same_is_table t.keys t.columns c.put_row.new.columns t.dead.items t.index c.add_key.new.index t.live c.self.invariant kept c.in_err-add_key.ensures.index_stays)

pub returns-in_err-add_key-clause-err : goal.returns-in_err-add_key-clause-err
returns-in_err-add_key-clause-err c =
    let t = c.self.inside in
    let kept = subst (λ n. AllZip (KeepsBelow n) t.columns c.put_row.new.columns) c.len-seat.ensures c.put_row.ensures.kept in
    let p = err_from_is_err_and c.from_residual-in_err-add_key.result c.from_residual-in_err-add_key.ensures.1 in
    rw (p.1, c.in_err-add_key.ensures.keys_stay) (kept_view t.keys t.columns c.put_row.new.columns t.dead.items kept ∙ c.self.view_is)

pub overflow_add-self : goal.overflow_add-self
overflow_add-self c =
    let t = c.self.inside in
    let seats = seats_from t.keys t.columns t.dead.items in
    omega (arith, c.self.invariant.told.count, length-filter is_live seats, count_by-le-length is_live seats, length_seats t.keys t.columns t.dead.items, c.self.invariant.laid.few)

pub invariant_of-self-2 : goal.invariant_of-self-2
invariant_of-self-2 c =
    let t = c.self.inside in
    let fits : FitsSigned w64 c.args.key = c.ranges.key in
    let kept = subst (λ n. AllZip (KeepsBelow n) t.columns c.put_row.new.columns) c.len-seat.ensures c.put_row.ensures.kept in
    let put = subst (λ n. HasRow n c.put_row.new.columns c.args.values) c.len-seat.ensures c.in_ok-put_row.ensures.ok in
    let absent : list_any (sits c.args.key) (seats_from t.keys t.columns t.dead.items) ≡ false = subst (λ x. list_any (sits c.args.key) x.seats ≡ false) (sym c.self.view_is) c.requires.new in
    let updates = rw (to_z-of_z w64 c.args.key fits) at c.in_ok-add_key.ensures.told in
    let room : length t.keys < 2147483647 = grind (arith, nat_tests, c.if-len-ge-MOST_SEATS.false, c.len.ensures) in
    rw (c.in_ok-add_key.ensures.keys, to_z-of_z w64 c.args.key fits) (push_is_table t.keys t.columns c.put_row.new.columns t.dead.items t.index c.add_key.new.index t.live c.args.key c.args.values room c.self.invariant kept put absent updates)

pub returns-clause-ok : goal.returns-clause-ok
returns-clause-ok c =
    let t = c.self.inside in
    let fits : FitsSigned w64 c.args.key = c.ranges.key in
    let kept = subst (λ n. AllZip (KeepsBelow n) t.columns c.put_row.new.columns) c.len-seat.ensures c.put_row.ensures.kept in
    let put = subst (λ n. HasRow n c.put_row.new.columns c.args.values) c.len-seat.ensures c.in_ok-put_row.ensures.ok in
    rw (c.in_ok-add_key.ensures.keys, to_z-of_z w64 c.args.key fits)
    (push_view t.keys t.columns c.put_row.new.columns t.dead.items c.args.key c.args.values c.self.invariant.laid.flags kept put
    ∙ ap {B = TableData} (λ x. record { kinds = x.kinds; seats = seated x.seats c.args.key c.args.values }) c.self.view_is)
