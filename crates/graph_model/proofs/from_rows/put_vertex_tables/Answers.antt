use Rattle.std.proofs.Common.{arith, ap, length}
use Rattle.graph_model.specs.FromRows.{vertex_put}
use Rattle.graph_model.proofs.FromRows.{next_table}
use Rattle.graph_model.proofs.from_rows.put_vertex_tables.Goals as goal

pub put_vertex_rows-requires : goal.put_vertex_rows-requires
put_vertex_rows-requires c =
    let l = c.loop-rows in
    (next_table vertex_put l.table l.graph _ l.rows-iterator.rest.items _ c.in-Some.rows c.in-Some.ensures.steps.0 l.invariant.fit l.invariant.all).0

pub loop-rows-preserved : goal.loop-rows-preserved
loop-rows-preserved c =
    let l = c.loop-rows in
    let next = next_table vertex_put l.table l.graph _ l.rows-iterator.rest.items _ c.in-Some.rows c.in-Some.ensures.steps.0 l.invariant.fit l.invariant.all in
    record {
      few = omega (arith, l.invariant.few, ap length c.in-Some.ensures.steps.0);
      fit = rw c.in_ok-put_vertex_rows.ensures next.1;
      all = rw c.in_ok-put_vertex_rows.ensures next.2;
    }
