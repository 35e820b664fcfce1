use Rattle.std.proofs.Common.{◌≡◌, take}
use Rattle.graph_mutate.specs.Taken.{taken}
use Rattle.graph_mutate.proofs.edge_slots.taken_part.Given as goal

abbrev pub invariant-loop-place : goal.invariant-loop-place
invariant-loop-place g l = record {
  kind : l.values.kind ≡ l.column.kind;
  values : l.values.values ≡ taken l.column.values (take l.place-index l.places);
  counted : l.steps ≡ l.fn.steps;
}
