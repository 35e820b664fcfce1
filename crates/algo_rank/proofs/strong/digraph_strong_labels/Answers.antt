use Rattle.std.proofs.Common.{sym, subst, arith}
use Rattle.algo_rank.specs.Classes.{IsStrongLabel}
use Rattle.algo_rank.proofs.Moves.{first_search, all_labelled}
use Rattle.algo_rank.proofs.strong.digraph_strong_labels.Goals as goal

pub loop-v-init : goal.loop-v-init
loop-v-init c =
    let made = c.in_ok-search.ensures in
    record {
      search = first_search c.args.digraph.now c.vertex_count-n.result c.in_ok-search.search c.vertex_count-n.ensures.count made.stages made.path made.heads made.tasks;
      tasks = made.tasks;
      met = λ u lt. absurd (omega (arith, lt));
    }

pub labels_in-requires : goal.labels_in-requires
labels_in-requires c =
    rw c.as_slice.ensures (λ v lt. all_labelled c.args.digraph.now c.loop-v.search v c.loop-v.invariant.search c.loop-v.invariant.tasks (c.loop-v.invariant.met v (omega (arith, lt, c.loop-v.invariant.search.vertices.long, c.vertex_count-n.ensures.count, c.loop-v-test.false))))

pub returns-clause-each : goal.returns-clause-each
returns-clause-each c = λ v lt.
    let inv = c.loop-v.invariant in
    let at = all_labelled c.args.digraph.now c.loop-v.search v inv.search inv.tasks (inv.met v (omega (arith, lt, c.vertex_count-n.ensures.count, c.loop-v-test.false))) in
    let each = rw c.as_slice.ensures at c.in_ok-labels.ensures.each in
    subst (IsStrongLabel c.args.digraph.now v) (sym (each v at.0 at.1)) (inv.search.vertices.labels v at.0 at.1)
