use Rattle.std.proofs.Common.{sym, ◌∙◌, subst}
use Rattle.graph_snap.specs.Seen.{Stands, graph_of}
use Rattle.graph_snap.proofs.GraphOf.{stands_of}
use Rattle.graph_tries.proofs.snapshot_asked.assembled.Goals as goal

pub assemble-requires : goal.assemble-requires
assemble-requires c =
    let parts = c.in_ok-parts.parts in
    let same = c.in_ok-clone.ensures.cases ∙ c.schema.ensures in
    subst (λ s. Stands (graph_of s parts) parts) (sym same) (stands_of c.args.on.now parts (record { graph = c.sound.ensures; each = c.in_ok-parts.ensures }))
