use Rattle.std.proofs.Common.{◌≡◌, ◌<◌, ◌∙◌, List, arith, sym, ap, subst, length, get_or, All}
use Rattle.graph_schema.specs.declared.schema.EdgeTable.{EdgeTable}
use Rattle.graph_schema.proofs.Sound.{ends_in_range}
use Rattle.graph_model.specs.Seats.{TableData}
use Rattle.graph_model.specs.Parts.{AreEach, AreRanksOf, HasEdgePartsAt}
use Rattle.graph_model.proofs.Zips.{AllZip-length}
use Rattle.graph_model.proofs.ColumnsOf.{few_ends, columns_are}
use Rattle.graph_model.proofs.columns.columns_of.Goals as goal

pub edge_columns_of-requires-clause-tables : goal.edge_columns_of-requires-clause-tables
edge_columns_of-requires-clause-tables c =
    let a = c.args in
    omega (arith, ap length c.edges-2.ensures, AllZip-length _ a.schema.edges a.edges c.requires.edge_kinds)

pub edge_columns_of-requires-clause-lists : goal.edge_columns_of-requires-clause-lists
edge_columns_of-requires-clause-lists c =
    let a = c.args in
    omega (arith, ap length c.edges-2.ensures, AllZip-length _ a.schema.edges a.edges c.requires.edge_kinds, c.requires.lists)

pub edge_columns_of-requires-clause-range : goal.edge_columns_of-requires-clause-range
edge_columns_of-requires-clause-range c =
    let a = c.args in
    let ranks = subst (λ ts. AreRanksOf ts c.in_ok-ranks.ranks) c.as_slice.ensures c.in_ok-ranks.ensures in
    rw c.edges-2.ensures (λ k d h.
    let e = ends_in_range a.schema c.requires.graph.schema k d h in
    let count : length c.as_slice-2.result.now ≡ length a.schema.vertices = omega (arith, ap length c.as_slice-2.ensures, ranks.count, AllZip-length _ a.schema.vertices a.vertices c.requires.vertex_kinds) in
    (omega (arith, e.0, count), omega (arith, e.1, count)))

pub edge_columns_of-requires-clause-few : goal.edge_columns_of-requires-clause-few
edge_columns_of-requires-clause-few c =
    let a = c.args in
    few_ends a.schema a.vertices a.edges a.ends c.requires c.in_ok-ranks.ranks (subst (λ ts. AreRanksOf ts c.in_ok-ranks.ranks) c.as_slice.ensures c.in_ok-ranks.ensures)

pub returns : goal.returns
returns c =
    let a = c.args in
    let ranks = subst (λ ts. AreRanksOf ts c.in_ok-ranks.ranks) c.as_slice.ensures c.in_ok-ranks.ensures in
    let edges =
    subst (λ rs. AreEach (HasEdgePartsAt a.schema.edges a.edges a.ends rs) (length a.edges) c.in_ok-edges.edges) c.as_slice-2.ensures
    (subst (λ (xs : List EdgeTable). AreEach (HasEdgePartsAt xs a.edges a.ends c.as_slice-2.result.now) (length a.edges) c.in_ok-edges.edges) c.edges-2.ensures c.in_ok-edges.ensures) in
    columns_are a.schema a.vertices a.edges a.ends c.requires c.in_ok-ranks.ranks ranks c.in_ok-vertices.vertices c.in_ok-edges.edges c.in_ok-vertices.ensures edges
