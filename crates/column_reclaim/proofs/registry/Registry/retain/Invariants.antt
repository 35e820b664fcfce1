use Rattle.std.proofs.Common.{◌≡◌, ◌+◌, ◌≤◌, take, vec_len, vec_capacity}
use Rattle.column_reclaim.specs.Registry.{raised}
use Rattle.column_reclaim.proofs.registry.Registry.retain.Given as goal

abbrev pub invariant-loop-id : goal.invariant-loop-id
invariant-loop-id g l = record {
  rows : l.self-inside.rows.items ≡ raised (take l.id-index l.ids) l.initial.self-inside.rows.items;
  spare : l.self-inside.spare ≡ l.initial.self-inside.spare;
  room : vec_len l.self-inside.rows + l.self-inside.spare ≤ vec_capacity l.self-inside.rows;
}
