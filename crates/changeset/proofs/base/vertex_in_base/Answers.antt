use Rattle.std.proofs.Common.{refl, ◌≡◌, false, sym, w64}
use Rattle.std.proofs.lemmas.Int.{to_z-of_z}
use Rattle.graph_model.specs.Keys.{rows_at}
use Rattle.graph_model.specs.Graph.{has_vertex_in}
use Rattle.changeset.proofs.Degree.{none_there}
use Rattle.changeset.proofs.Following.{same_state}
use Rattle.changeset.proofs.base.vertex_in_base.Goals as goal

pub returns-in-None : goal.returns-in-None
returns-in-None c =
    let g = c.args.base.now in
    let missing = rw (to_z-of_z w64 c.args.key c.ranges.key) at c.in-None.ensures.missing in
    let none : has_vertex_in c.args.key (rows_at g.vertices c.args.table) ≡ false = missing.0 refl in
    same_state _ _ (sym none) (sym (none_there g c.args.table c.args.key c.sound.ensures none))
