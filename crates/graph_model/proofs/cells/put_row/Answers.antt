use Rattle.std.proofs.Common.{◌≡◌, ◌+◌, ◌<◌, ◌++◌, ◌∷◌, [], ◌∙◌, arith, refl, sym, ap, subst, length, take, get_or}
use Rattle.std.specs.Prelude.{IsTrue}
use Rattle.std.proofs.lemmas.List.{length_push, nil_from_length, append-nil, take_all}
use Rattle.column_types.specs.Value.{fits_kind}
use Rattle.graph_model.specs.Seats.{HasRow, column_at}
use Rattle.graph_model.proofs.Zips.{AllZip-length}
use Rattle.graph_model.proofs.Memory.{all_keep, kept_at, kept_more, fit_at, fit_length, row_more, next_value}
use Rattle.graph_model.proofs.cells.put_row.Goals as goal

pub loop-value-init : goal.loop-value-init
loop-value-init c = record {
  whole = cc;
  at = refl;
  kept = all_keep c.args.place c.args.columns.now c.requires.long;
  put = tt;
}

pub put_at-requires-clause-column : goal.put_at-requires-clause-column
put_at-requires-clause-column c =
    let l = c.loop-value in
    let next = next_value l.yielded l.value-iterator.rest.items _ c.args.values c.in-Some.value l.invariant.whole c.in-Some.ensures.steps.0 in
    omega (arith, l.invariant.at, next.0, fit_length c.args.columns.now c.args.values c.requires.fit, AllZip-length _ c.args.columns.now l.columns l.invariant.kept)

pub put_at-requires-clause-kind : goal.put_at-requires-clause-kind
put_at-requires-clause-kind c =
    let l = c.loop-value in
    let next = next_value l.yielded l.value-iterator.rest.items _ c.args.values c.in-Some.value l.invariant.whole c.in-Some.ensures.steps.0 in
    let within : l.column < length c.args.values = omega (arith, l.invariant.at, next.0) in
    let kept = kept_at c.args.place c.args.columns.now l.columns l.column l.invariant.kept (omega (arith, within, fit_length c.args.columns.now c.args.values c.requires.fit)) in
    let fits = fit_at c.args.columns.now c.args.values l.column c.in-Some.value c.requires.fit within in
    let value = ap (λ n. get_or c.args.values n c.in-Some.value) l.invariant.at ∙ next.1 in
    subst (λ v. IsTrue (fits_kind (column_at l.columns l.column).kind v)) value (subst (λ k. IsTrue (fits_kind k (get_or c.args.values l.column c.in-Some.value))) (sym kept.kind) fits)

pub put_at-requires-clause-long : goal.put_at-requires-clause-long
put_at-requires-clause-long c =
    let l = c.loop-value in
    let next = next_value l.yielded l.value-iterator.rest.items _ c.args.values c.in-Some.value l.invariant.whole c.in-Some.ensures.steps.0 in
    (kept_at c.args.place c.args.columns.now l.columns l.column l.invariant.kept (omega (arith, l.invariant.at, next.0, fit_length c.args.columns.now c.args.values c.requires.fit))).long

pub returns-in_err-put_at-clause-kept : goal.returns-in_err-put_at-clause-kept
returns-in_err-put_at-clause-kept c =
    kept_more c.args.place c.args.columns.now c.loop-value.columns c.put_at.new.columns c.loop-value.column c.loop-value.invariant.kept c.put_at.ensures.kept

pub loop-value-preserved : goal.loop-value-preserved
loop-value-preserved c =
    let l = c.loop-value in
    let next = next_value l.yielded l.value-iterator.rest.items _ c.args.values c.in-Some.value l.invariant.whole c.in-Some.ensures.steps.0 in
    let more = length_push l.yielded c.in-Some.value in
    let within : l.column < length l.columns = omega (arith, l.invariant.at, next.0, fit_length c.args.columns.now c.args.values c.requires.fit, AllZip-length _ c.args.columns.now l.columns l.invariant.kept) in
    let put = subst (λ n. HasRow c.args.place (take n l.columns) l.yielded) (sym l.invariant.at) l.invariant.put in
    let at : l.column + 1 ≡ length (l.yielded ++ c.in-Some.value ∷ []) = omega (arith, l.invariant.at, more) in
    record {
      whole = next.2;
      at = at;
      kept = kept_more c.args.place c.args.columns.now l.columns c.put_at.new.columns l.column l.invariant.kept c.put_at.ensures.kept;
      put = subst (λ n. HasRow c.args.place (take n c.put_at.new.columns) (l.yielded ++ c.in-Some.value ∷ [])) at
          (row_more c.args.place l.columns c.put_at.new.columns l.yielded l.column c.in-Some.value within put c.put_at.ensures.kept c.in_ok-put_at.ensures.ok);
    }

pub returns-clause-ok : goal.returns-clause-ok
returns-clause-ok c =
    let l = c.loop-value in
    let none : l.value-iterator.rest.items ≡ [] = nil_from_length l.value-iterator.rest.items (omega (arith, l.value-iterator.rest.ok.0, c.in-None.ensures.steps.0)) in
    let all : l.yielded ≡ c.args.values = sym (append-nil l.yielded) ∙ ap (λ r. l.yielded ++ r) (sym none) ∙ l.invariant.whole in
    let long = AllZip-length _ c.args.columns.now l.columns l.invariant.kept in
    let full : take (length l.yielded) l.columns ≡ l.columns = take_all (length l.yielded) l.columns (omega (arith, long, ap length all, fit_length c.args.columns.now c.args.values c.requires.fit)) in
    subst (HasRow c.args.place l.columns) all (subst (λ cs. HasRow c.args.place cs l.yielded) full l.invariant.put)
