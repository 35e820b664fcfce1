use Rattle.std.proofs.Common.{refl, w64}
use Rattle.std.proofs.lemmas.Int.{to_z-of_z}
use Rattle.changeset.specs.Facts.{edge_fact}
use Rattle.changeset.proofs.Written.{same_facts, written_put}
use Rattle.changeset.proofs.overlay.Overlay.put_edge.Goals as goal

pub returns : goal.returns
returns c = λ g.
    let updates = rw (to_z-of_z w64 c.args.key c.ranges.key) at c.in_ok-insert.ensures.updates in
    same_facts _ _ (λ t k. refl) (written_put c.args.self.now.edges c.insert.new.self (edge_fact g) c.args.table c.args.key c.args.state (λ q. updates.0 q)) refl refl refl
