use Rattle.std.proofs.Common.{◌≡◌, ◌+◌, length, get_or, sum_by, ap, ◌∙◌, arith}
use Rattle.std.specs.List.{range_with_len}
use Rattle.graph_model.specs.Keys.{rows_at}
use Rattle.graph_mutate.specs.Sorted.{starts_in, ends_in}
use Rattle.graph_mutate.proofs.Degree.{blank, some_key, out_counted, in_counted, starts_few, ends_few, sum_range}
use Rattle.graph_mutate.proofs.degrees.degree_of.Goals as goal

pub loop-table-preserved : goal.loop-table-preserved
loop-table-preserved c =
    let base = c.args.base.now in
    let t = c.args.at.table in
    let place = c.args.at.place in
    let e = c.loop-table.table in
    let is = c.sound.ensures in
    let out = ap length c.out_row.ensures in
    let into = ap length c.in_row.ensures in
    let key = (get_or (rows_at base.vertices t) place blank).key in
    let there = some_key base t place c.requires in
    record {
      ends = λ k at. omega (arith, c.loop-table.invariant.ends k at, sum_range (λ e. starts_in base t k e + ends_in base t k e) e, out, into, out_counted base t place e k is at, in_counted base t place e k is at);
      few = omega (arith, c.loop-table.invariant.few, out, into, out_counted base t place e key is there, in_counted base t place e key is there, starts_few base t e key is, ends_few base t e key is);
    }

pub returns : goal.returns
returns c =
    let base = c.args.base.now in
    let t = c.args.at.table in
    let listed : length c.edges.result.now ≡ length base.schema.edges = ap length (c.edges.ensures ∙ ap (λ s. s.edges) c.schema-2.ensures) in
    let end : c.loop-table.table ≡ length base.schema.edges = omega (arith, listed, c.loop-table-test.false, c.loop-table.auto.table-end) in
    λ key there. c.loop-table.invariant.ends key there ∙ ap (λ n. sum_by (λ e. starts_in base t key e + ends_in base t key e) (range_with_len 0 n)) end
