use Rattle.std.proofs.Common.{sym, ◌∙◌, subst}
use Rattle.graph_snap.specs.Seen.{Stands, graph_of}
use Rattle.graph_snap.specs.Sharing.{parts_of}
use Rattle.graph_snap.proofs.GraphOf.{stands_of}
use Rattle.graph_tries.proofs.snapshot_asked.derived.Goals as goal

pub derive-requires-clause-stands : goal.derive-requires-clause-stands
derive-requires-clause-stands c =
    let parts = parts_of c.args.on.now c.in_ok-kept.kept in
    let same = c.in_ok-clone.ensures.cases ∙ c.schema.ensures in
    subst (λ s. Stands (graph_of s parts) parts) (sym same) (stands_of c.args.on.now parts (record { graph = c.sound.ensures; each = c.in_ok-kept.ensures.parts }))
