use Rattle.std.proofs.Common.{◌<◌, ◌++◌, ◌∷◌, [], pos, length, get_or, Some, sym, ap, ◌∙◌, arith, w64, FitsSigned, rules}
use Rattle.std.proofs.lemmas.Int.{to_z-of_z}
use Rattle.std.proofs.lemmas.List.{length-map}
use Rattle.std.proofs.lemmas.Option.{slice_get-get_or}
use Rattle.graph_model.specs.Keys.{rows_at}
use Rattle.graph_model.specs.Graph.{edge_key}
use Rattle.graph_columns.specs.Keys.{edge_keys_at}
use Rattle.graph_mutate.proofs.Gathering.{taken_more}
use Rattle.graph_mutate.proofs.simplify.keys_at.Goals as goal

pub loop-place-preserved : goal.loop-place-preserved
loop-place-preserved c =
    let base = c.args.base.now in
    let t = c.args.table in
    let all = c.edge_keys-all.result.now in
    let places = c.args.places.now in
    let i = c.loop-place.place-index in
    let p = get_or places i 0 in
    let x = get_or all p (pos 0) in
    let fits : FitsSigned w64 x = search rules in
    let small = c.requires.within i 0 c.loop-place-test.true in
    let within : p < length (edge_keys_at base t) = omega (arith, small, length-map (rows_at base.edges t) edge_key) in
    taken_more (edge_keys_at base t) places i 0 x c.loop-place.keys c.push.new.self c.loop-place-test.true
    (slice_get-get_or (edge_keys_at base t) p (pos 0) within ∙ ap (λ ks. Some (get_or ks p (pos 0))) (sym c.edge_keys-all.ensures))
    c.loop-place.invariant (c.in_ok-push.ensures.ok ∙ ap (λ z. c.loop-place.keys ++ z ∷ []) (to_z-of_z w64 x fits))
