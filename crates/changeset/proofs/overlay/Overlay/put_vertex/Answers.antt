use Rattle.std.proofs.Common.{refl, w64}
use Rattle.std.proofs.lemmas.Int.{to_z-of_z}
use Rattle.changeset.specs.Facts.{vertex_fact}
use Rattle.changeset.proofs.Written.{same_facts, written_put}
use Rattle.changeset.proofs.overlay.Overlay.put_vertex.Goals as goal

pub returns : goal.returns
returns c = λ g.
    let updates = rw (to_z-of_z w64 c.args.key c.ranges.key) at c.in_ok-insert.ensures.updates in
    same_facts _ _ (written_put c.args.self.now.vertices c.insert.new.self (vertex_fact g) c.args.table c.args.key c.args.state (λ q. updates.0 q)) (λ t k. refl) refl refl refl
