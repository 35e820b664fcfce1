use Rattle.std.proofs.Common.{◌≡◌, ◌<◌, All, [], ◌∷◌, ◌++◌, Some, length, map, take, ap, sym, subst, ◌∙◌, arith}
use Rattle.std.proofs.lemmas.List.{length-map, map-append}
use Rattle.std.proofs.lemmas.List.Elements.{All-push}
use Rattle.std.proofs.lemmas.Option.{slice_get-get_or}
use Rattle.graph_slots.specs.declared.part.Part.TheVariants.{Rows}
use Rattle.graph_slots.specs.Slots.{slots}
use Rattle.graph_slots.specs.Meaning.{slot_value}
use Rattle.graph_snap.specs.declared.derived.Derived.TheVariants.{Kept}
use Rattle.graph_snap.specs.Sharing.{graph_parts, part_of, IsKnown}
use Rattle.graph_snap.proofs.Taken.{taken_more}
use Rattle.graph_tries.proofs.snapshot_asked.all_kept.Goals as goal

pub loop-slot-preserved : goal.loop-slot-preserved
loop-slot-preserved c =
    let g = c.args.on.now in
    let slot = c.loop-slot.slot in
    let within : slot < length (graph_parts g) = omega (arith, c.loop-slot-test.true, c.slot_count-slot-end.ensures.value, length-map (slots g.schema) (slot_value g)) in
    let here : IsKnown g (Kept slot) = omega (arith, c.loop-slot-test.true, c.slot_count-slot-end.ensures.value) in
    record {
      known = subst (All (IsKnown g)) (sym c.in_ok-push.ensures.ok) (All-push (IsKnown g) c.loop-slot.kept (Kept slot) c.loop-slot.invariant.known here);
      parts = taken_more (graph_parts g) slot (part_of g (Kept slot)) _ _ (slice_get-get_or (graph_parts g) slot (Rows []) within) c.loop-slot.invariant.parts
          (ap (map (part_of g)) c.in_ok-push.ensures.ok ∙ map-append (part_of g) c.loop-slot.kept (Kept slot ∷ []));
    }
