use Rattle.std.proofs.Common.{inl, inr, sym, subst, arith, below_more, ◌<◌}
use Rattle.std.proofs.lemmas.List.Sums.{sum_by_more}
use Rattle.algo_paths.specs.Queue.{entry_of}
use Rattle.algo_paths.proofs.round.queue_better.Goals as goal

pub loop-v-preserved : goal.loop-v-preserved
loop-v-preserved c =
    let old = c.args.old.now in
    let new = c.args.new.now in
    let i = c.loop-v.v in
    let inv = c.loop-v.invariant in
    let e = c.in_ok-queue_one.ensures in
    record {
      better = below_more _ _ (λ v lt less. e.stays (entry_of new v) (inv.better v lt less)) e.better;
      queued = λ x h.
          elim (e.queued x h) [
            | inl early ↦ inv.queued x early
            | inr at ↦ inr (subst (λ y. y < c.args.n) (sym at) c.loop-v-test.true)
          ];
      work = omega (arith, inv.work, e.work, sum_by_more (λ x. x) old i 0 (omega (arith, c.loop-v-test.true, c.requires.old)), sum_by_more (λ x. x) new i 0 (omega (arith, c.loop-v-test.true, c.requires.new)));
    }
