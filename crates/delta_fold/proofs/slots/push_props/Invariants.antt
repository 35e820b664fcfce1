use Rattle.std.proofs.Common.{◌≡◌, ◌++◌, length}
use Rattle.delta_fold.specs.Pieces.{prop_slot_of, prop_pieces}
use Rattle.delta_fold.proofs.PieceLists.{Appended}
use Rattle.delta_fold.proofs.slots.push_props.Given as goal

abbrev pub invariant-loop-column : goal.invariant-loop-column
invariant-loop-column g l = record {
  whole : l.yielded ++ l.column-iterator.rest.items ≡ l.fn.values;
  prop : l.prop ≡ length l.yielded;
  done : Appended l.base.schema l.marks (prop_pieces (prop_slot_of l.table) 0 l.yielded) l.fn.derived l.derived l.fn.steps l.steps;
}
