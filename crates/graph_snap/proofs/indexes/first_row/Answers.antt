use Rattle.std.proofs.Common.{◌≡◌, ℕ, ◌<◌, Some, slice_get, get_or, FitsSigned, w64, rules, subst, sym, ◌∙◌}
use Rattle.std.specs.Prelude.{position}
use Rattle.std.specs.Ordering.{int_eq}
use Rattle.std.proofs.lemmas.Int.{to_z-of_z}
use Rattle.graph_model.specs.Keys.{rows_at}
use Rattle.graph_snap.proofs.Found.{place_first, is_least, none_more}
use Rattle.graph_snap.proofs.indexes.first_row.Goals as goal

pub returns-in-Some-clause-found : goal.returns-in-Some-clause-found
returns-in-Some-clause-found c =
    let fits : FitsSigned w64 c.args.key = search rules in
    let read = subst (λ ks. ks ≡ get_or c.args.indexes.now c.loop-table.table ks) (sym c.get.ensures) c.index-indexes-table.is in
    let told = subst (λ k. c.find.result ≡ position (λ q. int_eq q k) c.get.result.now) (to_z-of_z w64 c.args.key fits) c.find.ensures in
    (place_first c.args.indexes.now c.args.key c.loop-table.table c.in-Some.place c.get.result.now c.loop-table-test.true read (sym told ∙ c.in-Some.is)).has

pub returns-in-Some-clause-least : goal.returns-in-Some-clause-least
returns-in-Some-clause-least c =
    let fits : FitsSigned w64 c.args.key = search rules in
    let read = subst (λ ks. ks ≡ get_or c.args.indexes.now c.loop-table.table ks) (sym c.get.ensures) c.index-indexes-table.is in
    let told = subst (λ k. c.find.result ≡ position (λ q. int_eq q k) c.get.result.now) (to_z-of_z w64 c.args.key fits) c.find.ensures in
    let here = place_first c.args.indexes.now c.args.key c.loop-table.table c.in-Some.place c.get.result.now c.loop-table-test.true read (sym told ∙ c.in-Some.is) in
    let none = subst (λ k. (t p : ℕ) → t < c.loop-table.table → slice_get (rows_at c.args.indexes.now t) p ≡ Some k → ⊥) (to_z-of_z w64 c.args.key fits) c.loop-table.invariant in
    is_least c.args.indexes.now c.args.key c.loop-table.table c.in-Some.place here none

pub loop-table-preserved : goal.loop-table-preserved
loop-table-preserved c =
    let read = subst (λ ks. ks ≡ get_or c.args.indexes.now c.loop-table.table ks) (sym c.get.ensures) c.index-indexes-table.is in
    none_more c.args.indexes.now _ c.loop-table.table c.get.result.now c.loop-table-test.true read (sym c.find.ensures ∙ c.in_default.is) c.loop-table.invariant
