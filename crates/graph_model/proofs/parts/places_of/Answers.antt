use Rattle.std.proofs.Common.{pos, get_or, rules, FitsSigned, w64}
use Rattle.std.proofs.lemmas.Int.{to_z-of_z}
use Rattle.graph_model.proofs.TableParts.{index_more}
use Rattle.graph_model.proofs.parts.places_of.Goals as goal

pub loop-place-preserved : goal.loop-place-preserved
loop-place-preserved c =
    let l = c.loop-place in
    let keys = c.args.keys.now in
    let fits : FitsSigned w64 (get_or keys l.place (pos 0)) = search rules in
    let updates = rw (to_z-of_z w64 (get_or keys l.place (pos 0)) fits) at c.in_ok-insert.ensures.ok in
    index_more keys l.place (pos 0) l.places c.insert.new.self c.loop-place-test.true c.requires.once l.invariant updates
