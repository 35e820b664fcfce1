use Rattle.std.proofs.Common.{◌∙◌, ◌<◌, ◌≤◌, refl, ap, arith, length, map}
use Rattle.std.proofs.lemmas.List.{length_push, take_all}
use Rattle.std.proofs.lemmas.List.Sums.{sum_by_push}
use Rattle.graph_schema.specs.Schema.{SchemaData}
use Rattle.graph_model.specs.Keys.{rows_at}
use Rattle.graph_model.proofs.Zips.{AllZip-length}
use Rattle.graph_columns.proofs.Tables.{columns_more}
use Rattle.algo_digraph.proofs.Orders.{firsts_more}
use Rattle.algo_digraph.proofs.order.VertexOrder.new.Goals as goal

pub loop-table-preserved : goal.loop-table-preserved
loop-table-preserved c =
    let g = c.args.on.now in
    let t = c.loop-table.table in
    let inv = c.loop-table.invariant in
    let sizes = c.loop-table.sizes in
    let firsts = c.loop-table.firsts in
    let size = c.vertex_count-size.result in
    let within : t < length g.vertices = omega (arith, ap length c.vertices.ensures, ap (λ (s : SchemaData). length s.vertices) c.schema.ensures, AllZip-length _ _ _ c.sound.ensures.vertices) in
    record {
      sizes = columns_more length g.vertices t (rows_at g.vertices t) size _ _ within refl c.vertex_count-size.ensures inv.sizes c.in_ok-push.ensures.ok;
      count = ap length c.in_ok-push.ensures.ok ∙ omega (arith, length_push sizes size, inv.count);
      long = omega (arith, ap length c.in_ok-push.ensures.ok, ap length c.in_ok-push-2.ensures.ok, length_push sizes size, length_push firsts c.loop-table.total, inv.long);
      each = λ k lt. rw (c.in_ok-push.ensures.ok, c.in_ok-push-2.ensures.ok) (firsts_more sizes firsts size c.loop-table.total inv.long inv.total inv.each k (omega (arith, lt, ap length c.in_ok-push.ensures.ok, length_push sizes size)));
      total = rw c.in_ok-push.ensures.ok (omega (arith, sum_by_push (λ x. x) sizes size, inv.total));
    }

pub returns : goal.returns
returns c =
    let g = c.args.on.now in
    let all : length g.vertices ≤ c.loop-table.table = omega (arith, ap length c.vertices.ensures, ap (λ (s : SchemaData). length s.vertices) c.schema.ensures, AllZip-length _ _ _ c.sound.ensures.vertices, c.loop-table-test.false) in
    c.loop-table.invariant.sizes ∙ ap (map length) (take_all c.loop-table.table g.vertices all)
