use Rattle.std.proofs.Common.{◌∙◌, sym, FitsSigned, w64}
use Rattle.std.proofs.lemmas.Int.{to_z-of_z}
use Rattle.std.proofs.lemmas.Result.{on_ok_weaker}
use Rattle.key_places.specs.Places.{place_of}
use Rattle.key_places.proofs.NewKeys.{put_new}
use Rattle.key_places.proofs.index.KeyPlaces.insert_new.Goals as goal

pub returns-clause-ok : goal.returns-clause-ok
returns-clause-ok c =
    let fits : FitsSigned w64 c.args.key = c.ranges.key in
    let found = rw (to_z-of_z w64 c.args.key fits) at c.contains.ensures in
    let puts = rw (to_z-of_z w64 c.args.key fits) at c.insert.ensures.ok in
    on_ok_weaker c.insert.result
    (put_new (place_of c.args.self.now) (place_of c.insert.new.self) c.args.key c.args.place (sym found ∙ c.if-contains.false))
    puts
