use Rattle.std.proofs.Common.{◌≡◌, ◌∙◌, ◌++◌, ◌∷◌, [], ◌+◌, sym, ap, length, take, map, ◌≤◌, subst, List}
use Rattle.std.proofs.lemmas.List.{take_more, map_push}
use Rattle.std.proofs.lemmas.List.Elements.{All-push}
use Rattle.graph_slots.specs.Slots.{slots}
use Rattle.catalogue_state.specs.declared.parts.SourceData.{SourceData}
use Rattle.catalogue_state.specs.declared.parts.Source.{Source}
use Rattle.catalogue_state.specs.Bound.{unfed}
use Rattle.catalogue.proofs.sources.unfed_sources.Goals as goal

pub loop-source-preserved : goal.loop-source-preserved
loop-source-preserved c =
    let all = c.args.sources.now in
    let i = c.loop-source.source-index in
    let x = c.source-item.result in
    let few : length (slots x.opening.schema) ≤ 2208 = subst (λ n. n ≤ 2208) (c.slot_count-slots.ensures.value ∙ ap (λ (d : SourceData). length (slots d.opening.schema)) c.get.ensures) c.slot_count-slots.ensures.few in
    let more : take (i + 1) all ≡ take i all ++ x ∷ [] = take_more all i x c.loop-source-test.true ∙ ap (λ y. take i all ++ y ∷ []) (sym c.source-item.is) in
    rw more record {
      made = c.in_ok-push.ensures.ok ∙ ap (λ (l : List Source). l ++ record { «data» = c.in_ok-share.field-0; visible = 0 } ∷ []) c.loop-source.invariant.made
          ∙ ap (λ (d : SourceData). map unfed (take i all) ++ unfed d ∷ []) c.in_ok-share.ensures ∙ sym (map_push unfed (take i all) x);
      small = All-push (λ (d : SourceData). length (slots d.opening.schema) ≤ 2208) (take i all) x c.loop-source.invariant.small few;
    }
