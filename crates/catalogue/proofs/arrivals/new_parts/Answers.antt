use Rattle.std.proofs.Common.{◌≡◌, ◌∙◌, ◌++◌, ◌∷◌, [], ◌+◌, ◌<◌, List, None, sym, ap, length, take, get_or, arith}
use Rattle.std.proofs.lemmas.Option.{get_or_from_slice_get, slice_get_within}
use Rattle.std.proofs.lemmas.List.{take_more, length-take-le, length-map}
use Rattle.graph_slots.specs.declared.part.Part.{Part}
use Rattle.graph_slots.specs.Slots.{slots}
use Rattle.graph_slots.specs.Meaning.{slot_value}
use Rattle.graph_snap.specs.Sharing.{graph_parts}
use Rattle.catalogue_state.specs.Derived.{new_parts}
use Rattle.catalogue.proofs.Numbering.{parts_append}
use Rattle.catalogue.proofs.arrivals.new_parts.Goals as goal

pub loop-slot-preserved : goal.loop-slot-preserved
loop-slot-preserved c =
    let all = graph_parts c.args.shot.now in
    let kept = c.args.kept.now in
    let i = c.loop-slot.slot in
    let p = c.part.result.now in
    let k = get_or kept i None in
    let lt = slice_get_within all i p c.part.ensures in
    let g = c.args.shot.now in
    let within : i < length kept = omega (arith, lt, c.requires, length-map (slots g.schema) (slot_value g)) in
    let parts = take_more all i p lt ∙ ap (λ (x : Part). take i all ++ x ∷ []) (get_or_from_slice_get all i p p c.part.ensures) in
    let slots = take_more kept i None within in
    let same : length (take i all) ≡ length (take i kept) = omega (arith, length-take-le i all (omega (arith, lt)), length-take-le i kept (omega (arith, within))) in
    c.in_ok-push_part.ensures ∙ ap (λ (l : List Part). l ++ new_parts (k ∷ []) (p ∷ [])) c.loop-slot.invariant
    ∙ sym (parts_append (take i kept) (k ∷ []) (take i all) (p ∷ []) same) ∙ ap (λ l. new_parts l (take i all ++ p ∷ [])) (sym slots) ∙ ap (new_parts (take (i + 1) kept)) (sym parts)
