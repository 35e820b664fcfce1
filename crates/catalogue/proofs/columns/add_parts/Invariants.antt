use Rattle.std.proofs.Common.{◌≡◌, ◌+◌, ◌<◌, ◌++◌, length}
use Rattle.std.specs.Prelude.{All}
use Rattle.catalogue.specs.Registry.{new_rows}
use Rattle.catalogue.proofs.columns.add_parts.Given as goal

abbrev pub invariant-loop-part : goal.invariant-loop-part
invariant-loop-part l = record {
  id : l.id ≡ l.fn.first + length l.yielded;
  rows : l.registry.rows ≡ l.fn.registry.rows ++ new_rows l.fn.first l.yielded;
  spare : l.registry.spare + length l.yielded ≡ l.fn.registry.spare;
  greatest : All (λ r. r.id < l.id) l.registry.rows;
}
