use Rattle.std.proofs.Common.{◌≡◌, ◌+◌, drop}
use Rattle.table_loader.specs.Inline.{put_edges}
use Rattle.table_loader.proofs.inline.put_edges.Given as goal

abbrev pub invariant-loop-place : goal.invariant-loop-place
invariant-loop-place l = put_edges (l.place + 1) l.graph (drop l.place l.edges) ≡ put_edges 1 l.fn.graph l.edges
