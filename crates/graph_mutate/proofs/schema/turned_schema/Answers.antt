use Rattle.std.proofs.Common.{map, ap, sym, subst, ◌∙◌}
use Rattle.std.specs.Prelude.{IsTrue}
use Rattle.graph_schema.specs.Schema.{SchemaData, all_named, ends_exist}
use Rattle.graph_mutate.specs.Transposed.{turned_table}
use Rattle.graph_mutate.proofs.Turned.{schema_turned, never_refused}
use Rattle.graph_mutate.proofs.schema.turned_schema.Goals as goal

pub new-requires-clause-named : goal.new-requires-clause-named
new-requires-clause-named c =
    let s : SchemaData = record { keys = c.keys.inside.keys; vertices = c.keys.inside.vertices; edges = c.keys.inside.edges } in
    let edges = c.in_ok-edges.ensures ∙ ap (map turned_table) c.as_slice.ensures in
    subst (λ es. IsTrue (all_named c.keys.inside.vertices es)) (sym edges) (schema_turned s c.keys.invariant).named

pub new-requires-clause-ends : goal.new-requires-clause-ends
new-requires-clause-ends c =
    let s : SchemaData = record { keys = c.keys.inside.keys; vertices = c.keys.inside.vertices; edges = c.keys.inside.edges } in
    let edges = c.in_ok-edges.ensures ∙ ap (map turned_table) c.as_slice.ensures in
    subst (λ es. IsTrue (ends_exist c.keys.inside.vertices es)) (sym edges) (schema_turned s c.keys.invariant).ends

pub unreachable-requires : goal.unreachable-requires
unreachable-requires c =
    let s : SchemaData = record { keys = c.keys.inside.keys; vertices = c.keys.inside.vertices; edges = c.keys.inside.edges } in
    let edges = c.in_ok-edges.ensures ∙ ap (map turned_table) c.as_slice.ensures in
    let told = rw c.in-Err-At.field-0-is at c.in-Err-At.ensures in
    never_refused s c.in_ok-edges.edges _ _ c.keys.invariant edges told
