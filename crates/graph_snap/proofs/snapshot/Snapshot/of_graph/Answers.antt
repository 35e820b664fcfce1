use Rattle.std.proofs.Common.{◌≡◌, IfOk, ap, sym, ◌∙◌, subst}
use Rattle.graph_snap.specs.Seen.{IsSnapshot, graph_of}
use Rattle.graph_snap.proofs.GraphOf.{graph_of_is}
use Rattle.graph_snap.proofs.Snapshots.{is_snapshot}
use Rattle.graph_snap.proofs.snapshot.Snapshot.of_graph.Goals as goal

pub of_parts-requires : goal.of_parts-requires
of_parts-requires g c =
    let same : c.in_ok-layout.layout ≡ c.args.graph.schema = c.in_ok-layout.ensures ∙ c.in_ok-schema.ensures.schema in
    subst (λ s. IsSnapshot s c.in_ok-schema.field-0.parts c.in_ok-schema.field-0.vertices c.in_ok-schema.field-0.edges) (sym same)
    (is_snapshot c.args.graph c.in_ok-schema.field-0.parts c.in_ok-schema.field-0.vertices c.in_ok-schema.field-0.edges c.sound.ensures c.in_ok-schema.ensures.parts c.in_ok-schema.ensures.vertices c.in_ok-schema.ensures.edges)

pub returns-clause-ok : goal.returns-clause-ok
returns-clause-ok g c =
    let parts = c.in_ok-schema.field-0.parts in
    let same : c.in_ok-layout.layout ≡ c.args.graph.schema = c.in_ok-layout.ensures ∙ c.in_ok-schema.ensures.schema in
    let seen = ap (λ s. graph_of s parts) same ∙ graph_of_is c.args.graph parts (record { graph = c.sound.ensures; each = c.in_ok-schema.ensures.parts }) in
    subst (λ h. IfOk c.of_parts.result (λ s. s ≡ h)) seen c.of_parts.ensures
