use Rattle.std.proofs.Common.{◌≡◌, ◌+◌, ◌++◌, map, sum_by}
use Rattle.graph_slots.specs.declared.part.Part.TheVariants.{Cells}
use Rattle.graph_columns.specs.TableParts.{cells_of}
use Rattle.graph_columns.proofs.table_parts.push_props.Given as goal

abbrev pub invariant-loop-column : goal.invariant-loop-column
invariant-loop-column g l = record {
  parts : l.parts ≡ l.fn.parts ++ map Cells l.yielded;
  counted : l.steps ≡ l.fn.steps + sum_by cells_of l.yielded;
}
