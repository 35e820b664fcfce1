use Rattle.std.proofs.Common.{◌≡◌, drop}
use Rattle.graph_model.specs.Parts.{AreEach, HasEdgePartsAt}
use Rattle.graph_model.proofs.columns.edge_columns_of.Given as goal

abbrev pub invariant-loop-shape : goal.invariant-loop-shape
invariant-loop-shape l = record {
  tables : l.edges ≡ drop l.shape-index l.fn.edges;
  lists : l.ends ≡ drop l.shape-index l.fn.ends;
  done : AreEach (HasEdgePartsAt l.shapes l.fn.edges l.fn.ends l.ranks) l.shape-index l.columns;
}
