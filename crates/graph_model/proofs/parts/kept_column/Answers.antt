use Rattle.std.proofs.Common.{◌≡◌, ℕ, ◌+◌, ◌<◌, ◌++◌, ◌∷◌, [], ◌∙◌, arith, sym, ap, map, filter, get_or, length}
use Rattle.column_types.specs.declared.value.Value.{Value}
use Rattle.column_types.specs.declared.value.Value.TheVariants.{Null}
use Rattle.column_types.specs.Column.{ColumnData}
use Rattle.graph_model.specs.Parts.{is_kept, kept_places, values_of}
use Rattle.graph_model.proofs.TableParts.{places_more, few_places}
use Rattle.graph_model.proofs.parts.kept_column.Goals as goal

pub push_value-requires-clause-room : goal.push_value-requires-clause-room
push_value-requires-clause-room c =
    let l = c.loop-place in
    let f : ℕ → Value = λ i. get_or c.args.column.values i Null in
    omega (arith, ap (λ (x : ColumnData). length x.values) l.invariant, few_places f c.args.dead.now l.place, c.loop-place-test.true, c.ranges.count.fits)

pub loop-place-preserved : goal.loop-place-preserved
loop-place-preserved c =
    let l = c.loop-place in
    let dead = c.args.dead.now in
    let column = c.args.column in
    let f : ℕ → Value = λ i. get_or column.values i Null in
    let values =
    c.in_ok-push_value.ensures.ok
    ∙ ap (λ (x : ColumnData). x.values ++ map f (filter (is_kept dead) (l.place ∷ []))) l.invariant
    ∙ sym (places_more f dead l.place) in
    let kind = c.push_value.ensures.kind ∙ ap (λ (x : ColumnData). x.kind) l.invariant in
    ap {B = ColumnData} (λ k. record { kind = k; values = c.push_value.new.copy.values }) kind
    ∙ ap {B = ColumnData} (λ vs. record { kind = column.kind; values = vs }) values
