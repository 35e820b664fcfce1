use Rattle.std.proofs.Common.{◌≡◌, ◌<◌, ◌∙◌, arith, sym, ap, subst, length, get_or, set}
use Rattle.std.specs.List.{refill}
use Rattle.std.proofs.lemmas.List.{length-set, length-map, get_or_default}
use Rattle.column_types.specs.Column.{ColumnData}
use Rattle.graph_model.specs.Seats.{TableData, IsTable, kinds_of, seats_from, reset}
use Rattle.graph_model.proofs.Rows.{refill_same}
use Rattle.graph_model.proofs.Memory.{reset_is_table, seats_reset, kinds_reset, length_seats}
use Rattle.graph_model.proofs.table.Table.set.Goals as goal

pub set-requires-clause-row : goal.set-requires-clause-row
set-requires-clause-row c =
    let t = c.self.inside in
    let within : c.args.seat < length t.keys = omega (arith, length_seats t.keys t.columns t.dead.items, ap (λ x. length x.seats) c.self.view_is, c.requires.seat) in
    let column : c.args.prop < length t.columns = omega (arith, length-map t.columns (λ (x : ColumnData). x.kind), ap (λ x. length x.kinds) c.self.view_is, c.requires.prop) in
    rw c.as_mut_slice.ensures.value (omega (arith, within, c.self.invariant.laid.long c.args.prop c.index-as_mut_slice-prop.result column))

pub invariant_of-self-2 : goal.invariant_of-self-2
invariant_of-self-2 c =
    let t = c.self.inside in
    let p = c.args.prop in
    let r = c.index-as_mut_slice-prop.result in
    let d = c.set.new.self in
    let within : c.args.seat < length t.keys = omega (arith, length_seats t.keys t.columns t.dead.items, ap (λ x. length x.seats) c.self.view_is, c.requires.seat) in
    let column : p < length t.columns = omega (arith, length-map t.columns (λ (x : ColumnData). x.kind), ap (λ x. length x.kinds) c.self.view_is, c.requires.prop) in
    let lent = c.as_mut_slice.ensures.value in
    let after = ap (λ l. refill (length t.columns) t.columns (set l p d)) lent ∙ refill_same t.columns (set t.columns p d) (length-set t.columns p d) in
    let here = ap (λ l. get_or l p r) lent in
    let values = c.in_ok-set.ensures.ok ∙ ap (λ (x : ColumnData). set x.values c.args.seat c.args.value) here in
    subst (λ l. IsTable t.keys l t.dead.items t.index t.live) (sym after)
    (reset_is_table t.keys t.columns t.dead.items t.index t.live c.args.seat p d c.args.value within column (values ∙ ap (λ (x : ColumnData). set x.values c.args.seat c.args.value) (get_or_default t.columns p r d column)) c.self.invariant)

pub returns-clause-ok : goal.returns-clause-ok
returns-clause-ok c =
    let t = c.self.inside in
    let p = c.args.prop in
    let r = c.index-as_mut_slice-prop.result in
    let d = c.set.new.self in
    let within : c.args.seat < length t.keys = omega (arith, length_seats t.keys t.columns t.dead.items, ap (λ x. length x.seats) c.self.view_is, c.requires.seat) in
    let column : p < length t.columns = omega (arith, length-map t.columns (λ (x : ColumnData). x.kind), ap (λ x. length x.kinds) c.self.view_is, c.requires.prop) in
    let lent = c.as_mut_slice.ensures.value in
    let after = ap (λ l. refill (length t.columns) t.columns (set l p d)) lent ∙ refill_same t.columns (set t.columns p d) (length-set t.columns p d) in
    let here = ap (λ l. get_or l p r) lent ∙ get_or_default t.columns p r d column in
    let values = c.in_ok-set.ensures.ok ∙ ap (λ (x : ColumnData). set x.values c.args.seat c.args.value) here in
    let kind = c.in_ok-set.ensures.kind ∙ ap (λ (x : ColumnData). x.kind) here in
    ap {B = TableData} (λ l. record { kinds = kinds_of l; seats = seats_from t.keys l t.dead.items }) after
    ∙ ap {B = TableData} (λ k. record { kinds = k; seats = seats_from t.keys (set t.columns p d) t.dead.items }) (kinds_reset t.columns p d column kind)
    ∙ ap {B = TableData} (λ s. record { kinds = kinds_of t.columns; seats = s }) (seats_reset t.keys t.columns t.dead.items c.args.seat p d c.args.value within column values c.self.invariant.laid.long)
    ∙ ap {B = TableData} (λ x. record { kinds = x.kinds; seats = reset x.seats c.args.seat p c.args.value }) c.self.view_is
