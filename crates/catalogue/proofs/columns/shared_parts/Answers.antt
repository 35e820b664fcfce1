use Rattle.std.proofs.Common.{◌∙◌, ◌++◌, ◌∷◌, [], List, sym, ap, take}
use Rattle.std.proofs.lemmas.Option.{get_or_from_slice_get, slice_get_within}
use Rattle.std.proofs.lemmas.List.{take_more}
use Rattle.graph_slots.specs.declared.part.Part.{Part}
use Rattle.graph_snap.specs.Sharing.{graph_parts}
use Rattle.catalogue.proofs.columns.shared_parts.Goals as goal

pub loop-slot-preserved : goal.loop-slot-preserved
loop-slot-preserved c =
    let all = graph_parts c.args.shot.now in
    let i = c.loop-slot.slot in
    let x = c.part.result.now in
    let lt = slice_get_within all i x c.part.ensures in
    c.in_ok-push.ensures.ok ∙ ap (λ (p : Part). c.loop-slot.made ++ p ∷ []) c.in_ok-share.ensures ∙ ap (λ (l : List Part). l ++ x ∷ []) c.loop-slot.invariant
    ∙ ap (λ (p : Part). take i all ++ p ∷ []) (sym (get_or_from_slice_get all i x x c.part.ensures)) ∙ sym (take_more all i x lt)
