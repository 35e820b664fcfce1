use Rattle.std.proofs.Common.{◌++◌, map, ap, sym, ◌∙◌, arith}
use Rattle.std.specs.List.{flat_map}
use Rattle.std.proofs.lemmas.List.{map-append}
use Rattle.graph_model.specs.declared.columns.VertexColumns.{VertexColumns}
use Rattle.graph_model.specs.declared.columns.EdgeColumns.{EdgeColumns}
use Rattle.graph_slots.specs.Slots.{vertex_slots, edge_slots}
use Rattle.graph_slots.specs.Meaning.{slot_value}
use Rattle.graph_columns.specs.TableParts.{vertex_parts, edge_parts}
use Rattle.graph_columns.proofs.ColumnTables.{vertex_parts_are, edge_parts_are, vertex_keys_are, edge_keys_are, vertex_steps_are, edge_steps_are, vertex_tables_keep, edge_tables_keep}
use Rattle.graph_columns.proofs.graph_parts.all_parts.Goals as goal

pub push_vertex_tables-requires : goal.push_vertex_tables-requires
push_vertex_tables-requires g c = vertex_tables_keep c.args.graph c.in_ok-schema.field-0 c.sound.ensures c.in_ok-schema.ensures

pub push_edge_tables-requires : goal.push_edge_tables-requires
push_edge_tables-requires g c = edge_tables_keep c.args.graph c.in_ok-schema.field-0 c.sound.ensures c.in_ok-schema.ensures

pub returns-in_err-push_vertex_tables-clause-most : goal.returns-in_err-push_vertex_tables-clause-most
returns-in_err-push_vertex_tables-clause-most g c = omega (arith, vertex_steps_are c.args.graph c.in_ok-schema.field-0 c.sound.ensures c.in_ok-schema.ensures, c.push_vertex_tables.ensures.most)

pub returns-in_err-push_edge_tables-clause-most : goal.returns-in_err-push_edge_tables-clause-most
returns-in_err-push_edge_tables-clause-most g c =
    omega (arith, vertex_steps_are c.args.graph c.in_ok-schema.field-0 c.sound.ensures c.in_ok-schema.ensures, edge_steps_are c.args.graph c.in_ok-schema.field-0 c.sound.ensures c.in_ok-schema.ensures, c.in_ok-push_vertex_tables.ensures.counted, c.push_edge_tables.ensures.most)

pub returns-clause-parts : goal.returns-clause-parts
returns-clause-parts g c =
    let graph = c.args.graph in
    let columns = c.in_ok-schema.field-0 in
    let first = c.in_ok-push_vertex_tables.ensures.parts ∙ ap (λ ps. ps ++ flat_map vertex_parts columns.vertices) c.new-parts.ensures ∙ vertex_parts_are graph columns c.sound.ensures c.in_ok-schema.ensures in
    c.in_ok-push_edge_tables.ensures.parts ∙ ap (λ ps. ps ++ flat_map edge_parts columns.edges) first
    ∙ ap (λ ps. map (slot_value graph) (vertex_slots 0 graph.schema.vertices) ++ ps) (edge_parts_are graph columns c.sound.ensures c.in_ok-schema.ensures)
    ∙ sym (map-append (slot_value graph) (vertex_slots 0 graph.schema.vertices) (edge_slots 0 graph.schema.edges))

pub returns-clause-vertices : goal.returns-clause-vertices
returns-clause-vertices g c =
    c.in_ok-push_vertex_tables.ensures.indexes ∙ ap (λ ks. ks ++ map (λ (d : VertexColumns). d.keys) c.in_ok-schema.field-0.vertices) c.new-vertex_indexes.ensures
    ∙ vertex_keys_are c.args.graph c.in_ok-schema.field-0 c.in_ok-schema.ensures

pub returns-clause-edges : goal.returns-clause-edges
returns-clause-edges g c =
    c.in_ok-push_edge_tables.ensures.indexes ∙ ap (λ ks. ks ++ map (λ (d : EdgeColumns). d.keys) c.in_ok-schema.field-0.edges) c.new-edge_indexes.ensures
    ∙ edge_keys_are c.args.graph c.in_ok-schema.field-0 c.in_ok-schema.ensures

pub returns-clause-counted : goal.returns-clause-counted
returns-clause-counted g c =
    omega (arith, vertex_steps_are c.args.graph c.in_ok-schema.field-0 c.sound.ensures c.in_ok-schema.ensures, edge_steps_are c.args.graph c.in_ok-schema.field-0 c.sound.ensures c.in_ok-schema.ensures, c.in_ok-push_vertex_tables.ensures.counted, c.in_ok-push_edge_tables.ensures.counted)

pub returns-clause-most : goal.returns-clause-most
returns-clause-most g c =
    omega (arith, vertex_steps_are c.args.graph c.in_ok-schema.field-0 c.sound.ensures c.in_ok-schema.ensures, edge_steps_are c.args.graph c.in_ok-schema.field-0 c.sound.ensures c.in_ok-schema.ensures, c.in_ok-push_vertex_tables.ensures.counted, c.in_ok-push_edge_tables.ensures.counted)
