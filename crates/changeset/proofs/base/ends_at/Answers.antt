use Rattle.std.proofs.Common.{◌<◌, ◌≤◌, [], length, List, sum_by, ap, ◌∙◌, arith}
use Rattle.std.specs.List.{zip}
use Rattle.std.proofs.lemmas.List.{take_all}
use Rattle.graph_schema.specs.Schema.{SchemaData}
use Rattle.graph_model.specs.declared.row.EdgeRow.{EdgeRow}
use Rattle.graph_model.proofs.Zips.{AllZip-length}
use Rattle.graph_columns.proofs.SlotParts.{item_at}
use Rattle.graph_columns.proofs.Tables.{sum_more}
use Rattle.changeset.specs.Facts.{ends_there}
use Rattle.changeset.proofs.Degree.{both_counted, out_few, in_few, zip_at, zip_short}
use Rattle.changeset.proofs.base.ends_at.Goals as goal

pub loop-table-preserved : goal.loop-table-preserved
loop-table-preserved c =
    let g = c.args.base.now in
    let t = c.loop-table.table in
    let known : t < length g.schema.edges = omega (arith, c.loop-table-test.true, ap length c.edges.ensures, ap (λ (s : SchemaData). length s.edges) c.schema.ensures) in
    let within : t < length g.edges = omega (arith, known, AllZip-length _ _ _ c.sound.ensures.edges) in
    let x = item_at g.schema.edges t known in
    let here = zip_at g.schema.edges g.edges t x.item [] x.there within in
    let out = ap length c.out_row.ensures in
    let into = ap length c.in_row.ensures in
    record {
      ends = λ key there. omega (
        arith,
        c.loop-table.invariant.ends key there,
        sum_more (λ p. sum_by (ends_there c.args.at.table key p.0) p.1) (zip g.schema.edges g.edges) t (x.item, []) here.0,
        ap (λ p. sum_by (ends_there c.args.at.table key p.0) p.1) here.1,
        both_counted g c.args.at.table c.args.at.place t key x.item c.sound.ensures x.there there,
        out,
        into,
      );
      few = omega (
        arith,
        c.loop-table.invariant.few,
        sum_more (λ (rows : List EdgeRow). length rows) g.edges t [] within,
        out,
        into,
        out_few g c.args.at.table c.args.at.place t,
        in_few g c.args.at.table c.args.at.place t,
      );
    }

pub returns : goal.returns
returns c =
    let g = c.args.base.now in
    let same = AllZip-length _ _ _ c.sound.ensures.edges in
    let all : length (zip g.schema.edges g.edges) ≤ c.loop-table.table = omega (arith, c.loop-table-test.false, ap length c.edges.ensures, ap (λ (s : SchemaData). length s.edges) c.schema.ensures, same, zip_short g.schema.edges g.edges same) in
    λ key there. c.loop-table.invariant.ends key there ∙ ap (sum_by (λ p. sum_by (ends_there c.args.at.table key p.0) p.1)) (take_all c.loop-table.table (zip g.schema.edges g.edges) all)
