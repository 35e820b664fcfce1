use Rattle.std.proofs.Common.{◌≡◌, ◌∙◌, map}
use Rattle.std.proofs.lemmas.Result.{IfOk-weaker}
use Rattle.graph_snap.specs.Seen.{graph_of}
use Rattle.graph_snap.specs.Sharing.{parts_of, kept_of}
use Rattle.delta_fold.specs.Folded.{folded, kept_slots}
use Rattle.delta_fold.proofs.FoldedSlots.{folded_known, folded_stands, folded_is, folded_kept}
use Rattle.delta_fold.proofs.Rows.{few_steps}
use Rattle.delta_fold.proofs.folding.fold.Goals as goal

pub derive-requires-clause-known : goal.derive-requires-clause-known
derive-requires-clause-known g c = folded_known c.args.base.now c.args.changes.now c.in_ok-derived.field-0.derived c.sound.ensures c.in_ok-derived.ensures.slots

pub derive-requires-clause-stands : goal.derive-requires-clause-stands
derive-requires-clause-stands g c =
    folded_stands c.args.base.now c.args.changes.now c.in_ok-clone.field-0 c.in_ok-derived.field-0.derived c.sound.ensures (c.in_ok-clone.ensures.cases ∙ c.schema.ensures) c.in_ok-derived.ensures.slots

pub returns-clause-shot : goal.returns-clause-shot
returns-clause-shot g c =
    let is = folded_is c.args.base.now c.args.changes.now c.in_ok-clone.field-0 c.in_ok-derived.field-0.derived c.sound.ensures (c.in_ok-clone.ensures.cases ∙ c.schema.ensures) c.in_ok-derived.ensures.slots in
    IfOk-weaker c.derive.result (λ built. built.shot ≡ graph_of c.in_ok-clone.field-0 (parts_of c.args.base.now c.in_ok-derived.field-0.derived)) (λ built. built.shot ≡ folded c.args.base.now c.args.changes.now) (λ built e. e ∙ is) c.derive.ensures.shot

pub returns-clause-kept : goal.returns-clause-kept
returns-clause-kept g c =
    let are = folded_kept c.args.base.now c.args.changes.now c.in_ok-derived.field-0.derived c.in_ok-derived.ensures.slots in
    IfOk-weaker c.derive.result (λ built. built.kept ≡ map kept_of c.in_ok-derived.field-0.derived) (λ built. built.kept ≡ kept_slots c.args.base.now c.args.changes.now) (λ built e. e ∙ are) c.derive.ensures.kept

pub returns-clause-most : goal.returns-clause-most
returns-clause-most g c = few_steps c.args.base.now c.args.changes.now

pub returns-in_err-derived-clause-most : goal.returns-in_err-derived-clause-most
returns-in_err-derived-clause-most g c = few_steps c.args.base.now c.args.changes.now

pub returns-in_err-clone-clause-most : goal.returns-in_err-clone-clause-most
returns-in_err-clone-clause-most g c = few_steps c.args.base.now c.args.changes.now
