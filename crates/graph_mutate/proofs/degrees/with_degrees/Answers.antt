use Rattle.std.proofs.Common.{◌<◌, length, ap, arith}
use Rattle.graph_model.specs.Keys.{rows_at}
use Rattle.graph_mutate.specs.declared.degrees.Ranked.{Ranked}
use Rattle.graph_mutate.specs.Sorted.{row_degree}
use Rattle.graph_mutate.proofs.Degree.{some_key}
use Rattle.graph_mutate.proofs.Order.{ranks_more}
use Rattle.graph_mutate.proofs.degrees.with_degrees.Goals as goal

pub loop-place-preserved : goal.loop-place-preserved
loop-place-preserved c =
    let g = c.args.base.now in
    let rows = rows_at g.vertices c.args.table in
    let i = c.loop-place.place in
    let within : i < length rows = omega (arith, c.loop-place-test.true, c.vertex_count-place-end.ensures) in
    ranks_more (row_degree g c.args.table) rows i (record { degree = c.degree_of-degree.result; place = i }) c.loop-place.made.items c.push.new.self.items within
    (ap (λ d. let x : Ranked = record { degree = d; place = i } in x) (c.degree_of-degree.ensures _ (some_key g c.args.table i within))) c.loop-place.invariant c.in_ok-push.ensures.items
