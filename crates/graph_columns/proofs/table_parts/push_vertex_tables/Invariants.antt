use Rattle.std.proofs.Common.{◌≡◌, ◌+◌, ◌++◌, map, sum_by}
use Rattle.std.specs.List.{flat_map}
use Rattle.graph_columns.specs.TableParts.{vertex_parts, vertex_steps}
use Rattle.graph_columns.proofs.table_parts.push_vertex_tables.Given as goal

abbrev pub invariant-loop-columns : goal.invariant-loop-columns
invariant-loop-columns g l = record {
  parts : l.parts ≡ l.fn.parts ++ flat_map vertex_parts l.yielded;
  indexes : l.indexes ≡ l.fn.indexes ++ map (λ c. c.keys) l.yielded;
  counted : l.steps ≡ l.fn.steps + sum_by vertex_steps l.yielded;
}
