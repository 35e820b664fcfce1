use Rattle.std.proofs.Common.{◌≡◌, IfOk, sym, subst}
use Rattle.graph_snap.specs.Seen.{graph_of}
use Rattle.graph_snap.specs.Indexes.{AreIndexes}
use Rattle.graph_snap.proofs.Snapshots.{stands_at, indexed}
use Rattle.graph_snap.proofs.snapshot.Snapshot.over.Goals as goal

pub vertex_indexes-requires-clause-stands : goal.vertex_indexes-requires-clause-stands
vertex_indexes-requires-clause-stands c = stands_at c.args.schema c.in_ok-layout.layout c.args.parts c.as_slice.result.now c.in_ok-layout.ensures c.as_slice.ensures c.requires.stands

pub vertex_indexes-requires-clause-known : goal.vertex_indexes-requires-clause-known
vertex_indexes-requires-clause-known c = subst (λ ps. AreIndexes ps c.args.known.now) (sym c.as_slice.ensures) c.requires.known

pub edge_indexes-requires-clause-stands : goal.edge_indexes-requires-clause-stands
edge_indexes-requires-clause-stands c = stands_at c.args.schema c.in_ok-layout.layout c.args.parts c.as_slice-2.result.now c.in_ok-layout.ensures c.as_slice-2.ensures c.requires.stands

pub edge_indexes-requires-clause-known : goal.edge_indexes-requires-clause-known
edge_indexes-requires-clause-known c = subst (λ ps. AreIndexes ps c.args.known.now) (sym c.as_slice-2.ensures) c.requires.known

pub of_parts-requires : goal.of_parts-requires
of_parts-requires c = indexed c.args.schema c.in_ok-layout.layout c.args.parts c.as_slice.result.now c.as_slice-2.result.now c.in_ok-vertices.vertices c.in_ok-edges.edges c.in_ok-layout.ensures c.as_slice.ensures c.as_slice-2.ensures c.requires.stands c.in_ok-vertices.ensures c.in_ok-edges.ensures

pub returns : goal.returns
returns c = subst (λ s. IfOk c.of_parts.result (λ x. x ≡ graph_of s c.args.parts)) c.in_ok-layout.ensures c.of_parts.ensures
