use Rattle.std.proofs.Common.{◌≡◌, ◌++◌, map}
use Rattle.graph_model.specs.Parts.{column_of, kept_places}
use Rattle.graph_model.proofs.parts.kept_columns.Given as goal

abbrev pub invariant-loop-column : goal.invariant-loop-column
invariant-loop-column l = record {
  whole : l.yielded ++ l.column-iterator.rest.items ≡ l.fn.columns;
  done : l.copies ≡ map (column_of (kept_places l.dead l.count)) l.yielded;
}
