use Rattle.std.proofs.Common.{◌≡◌, ◌+◌, drop}
use Rattle.table_loader.specs.Inline.{put_vertices}
use Rattle.table_loader.proofs.inline.put_vertices.Given as goal

abbrev pub invariant-loop-place : goal.invariant-loop-place
invariant-loop-place l = put_vertices (l.place + 1) l.graph (drop l.place l.keys) ≡ put_vertices 1 l.fn.graph l.keys
