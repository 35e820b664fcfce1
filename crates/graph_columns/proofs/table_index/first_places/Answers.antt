use Rattle.std.proofs.Common.{FitsSigned, w64, rules, pos, get_or}
use Rattle.std.proofs.lemmas.Int.{to_z-of_z}
use Rattle.std.proofs.lemmas.Option.{slice_get-get_or}
use Rattle.key_places.specs.Places.{place_of}
use Rattle.graph_columns.proofs.Places.{place_step}
use Rattle.graph_columns.proofs.table_index.first_places.Goals as goal

pub loop-place-preserved : goal.loop-place-preserved
loop-place-preserved c =
    let key = get_or c.args.keys.now c.loop-place.place (pos 0) in
    let fits : FitsSigned w64 (get_or c.args.keys.now c.loop-place.place (pos 0)) = search rules in
    let step = rw (to_z-of_z w64 key fits) at c.in_ok-insert_new.ensures.ok in
    place_step c.loop-place.place c.args.keys.now key (place_of c.loop-place.places) (place_of c.insert_new.new.self)
    (slice_get-get_or c.args.keys.now c.loop-place.place (pos 0) c.loop-place-test.true) c.loop-place.invariant step
