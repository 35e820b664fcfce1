use Rattle.std.proofs.Common.{◌++◌, ◌∷◌, [], pos, get_or, ap, ◌∙◌, w32, FitsSigned, rules}
use Rattle.std.proofs.lemmas.Int.{to_z-of_z}
use Rattle.std.proofs.lemmas.Option.{slice_get-get_or}
use Rattle.graph_mutate.proofs.Gathering.{taken_onto}
use Rattle.graph_mutate.proofs.edge_lists.push_ends.Goals as goal

pub loop-place-preserved : goal.loop-place-preserved
loop-place-preserved c =
    let items = c.args.items.now in
    let places = c.args.places.now in
    let i = c.loop-place.place-index in
    let x = get_or items (get_or places i 0) (pos 0) in
    let fits : FitsSigned w32 x = search rules in
    taken_onto items places i 0 x c.args.ends.now c.loop-place.ends c.push.new.self c.loop-place-test.true (slice_get-get_or items (get_or places i 0) (pos 0) (c.requires i 0 c.loop-place-test.true))
    c.loop-place.invariant (c.in_ok-push.ensures.ok ∙ ap (λ z. c.loop-place.ends ++ z ∷ []) (to_z-of_z w32 x fits))
