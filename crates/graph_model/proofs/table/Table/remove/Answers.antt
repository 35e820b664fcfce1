use Rattle.std.proofs.Common.{◌≡◌, ◌<◌, ◌∙◌, true, pos, arith, sym, ap, subst, length, get_or, rules, FitsSigned, w64}
use Rattle.std.proofs.lemmas.Int.{to_z-of_z}
use Rattle.std.proofs.lemmas.Result.{err_from_is_err_and}
use Rattle.graph_model.specs.Seats.{TableData, seats_from, sits_at, vacated, kinds_of}
use Rattle.graph_model.proofs.Told.{sits_within, some_sit}
use Rattle.graph_model.proofs.Memory.{vacate_is_table, unflagged_is_table, seats_unflagged, seats_vacate, length_seats}
use Rattle.graph_model.proofs.table.Table.remove.Goals as goal

pub bounds-as_slice-seat : goal.bounds-as_slice-seat
bounds-as_slice-seat c =
    let t = c.self.inside in
    let there : sits_at (seats_from t.keys t.columns t.dead.items) c.args.seat ≡ true = subst (λ x. sits_at x.seats c.args.seat ≡ true) (sym c.self.view_is) c.requires in
    omega (arith, sits_within (seats_from t.keys t.columns t.dead.items) c.args.seat there, length_seats t.keys t.columns t.dead.items, ap length c.as_slice.ensures)

pub invariant_of-self-in_err-remove : goal.invariant_of-self-in_err-remove
invariant_of-self-in_err-remove c =
    let t = c.self.inside in
    let there : sits_at (seats_from t.keys t.columns t.dead.items) c.args.seat ≡ true = subst (λ x. sits_at x.seats c.args.seat ≡ true) (sym c.self.view_is) c.requires in
    let within : c.args.seat < length t.keys = omega (arith, sits_within (seats_from t.keys t.columns t.dead.items) c.args.seat there, length_seats t.keys t.columns t.dead.items) in
    rw c.in_ok-make_flags.ensures.ok (unflagged_is_table t.keys t.columns t.dead.items t.index c.remove.new.self t.live c.args.seat within c.self.invariant c.in_err-remove.ensures.err)

pub returns-in_err-remove-clause-err : goal.returns-in_err-remove-clause-err
returns-in_err-remove-clause-err c =
    let t = c.self.inside in
    let p = err_from_is_err_and c.from_residual-in_err-remove.result c.from_residual-in_err-remove.ensures.1 in
    rw (p.1, c.in_ok-make_flags.ensures.ok)
    (ap {B = TableData} (λ s. record { kinds = kinds_of t.columns; seats = s }) (seats_unflagged t.keys t.columns t.dead.items c.args.seat) ∙ c.self.view_is)

pub overflow_sub-self : goal.overflow_sub-self
overflow_sub-self c =
    let t = c.self.inside in
    let there : sits_at (seats_from t.keys t.columns t.dead.items) c.args.seat ≡ true = subst (λ x. sits_at x.seats c.args.seat ≡ true) (sym c.self.view_is) c.requires in
    some_sit (seats_from t.keys t.columns t.dead.items) t.index t.live c.args.seat there c.self.invariant.told

pub invariant_of-self-2 : goal.invariant_of-self-2
invariant_of-self-2 c =
    let t = c.self.inside in
    let there : sits_at (seats_from t.keys t.columns t.dead.items) c.args.seat ≡ true = subst (λ x. sits_at x.seats c.args.seat ≡ true) (sym c.self.view_is) c.requires in
    let fits : FitsSigned w64 (get_or c.as_slice.result.now c.args.seat (pos 0)) = search rules in
    let updates = rw (to_z-of_z w64 (get_or c.as_slice.result.now c.args.seat (pos 0)) fits, c.as_slice.ensures) at c.in_ok-remove.ensures.ok in
    rw c.in_ok-make_flags.ensures.ok (vacate_is_table t.keys t.columns t.dead.items t.index c.remove.new.self t.live c.args.seat c.self.invariant there updates)

pub returns-clause-ok : goal.returns-clause-ok
returns-clause-ok c =
    let t = c.self.inside in
    let there : sits_at (seats_from t.keys t.columns t.dead.items) c.args.seat ≡ true = subst (λ x. sits_at x.seats c.args.seat ≡ true) (sym c.self.view_is) c.requires in
    let within : c.args.seat < length t.keys = omega (arith, sits_within (seats_from t.keys t.columns t.dead.items) c.args.seat there, length_seats t.keys t.columns t.dead.items) in
    rw c.in_ok-make_flags.ensures.ok
    (ap {B = TableData} (λ s. record { kinds = kinds_of t.columns; seats = s }) (seats_vacate t.keys t.columns t.dead.items c.args.seat within)
    ∙ ap {B = TableData} (λ x. record { kinds = x.kinds; seats = vacated x.seats c.args.seat }) c.self.view_is)
