use Rattle.std.proofs.Common.{◌++◌, ◌∷◌, [], ◌∙◌, pos, sym, ap, map, filter, get_or}
use Rattle.graph_model.specs.Parts.{is_kept}
use Rattle.graph_model.proofs.TableParts.{places_more}
use Rattle.graph_model.proofs.parts.kept_keys.Goals as goal

pub loop-place-preserved : goal.loop-place-preserved
loop-place-preserved c =
    let keys = c.args.keys.now in
    let dead = c.args.dead.now in
    c.in_ok-push_key.ensures
    ∙ ap (λ l. l ++ map (λ i. get_or keys i (pos 0)) (filter (is_kept dead) (c.loop-place.place ∷ []))) c.loop-place.invariant
    ∙ sym (places_more (λ i. get_or keys i (pos 0)) dead c.loop-place.place)
