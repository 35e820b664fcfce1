use Rattle.std.proofs.Common.{◌≡◌, ◌∙◌, inl, inr, ap, arith, slice_index, below_more}
use Rattle.std.proofs.lemmas.Bool.{cases_lt}
use Rattle.std.proofs.lemmas.List.{get_or_default}
use Rattle.std.proofs.lemmas.List.Elements.{Contains-get_or}
use Rattle.algo_core.proofs.cores.fewest_ends.Goals as goal

pub bounds-ends-left : goal.bounds-ends-left
bounds-ends-left c = c.requires.within _ (Contains-get_or c.args.left.now 0 0 c.requires.some)

pub bounds-ends-v : goal.bounds-ends-v
bounds-ends-v c = c.requires.within _ (Contains-get_or c.args.left.now c.loop-v.v-index 0 c.loop-v-test.true)

pub loop-v-preserved : goal.loop-v-preserved
loop-v-preserved c =
    let ends = c.args.ends.now in
    let left = c.args.left.now in
    let i = c.loop-v.v-index in
    let inv = c.loop-v.invariant in
    let m = c.min-fewest.ensures in
    record {
      least = below_more _ _ (λ k lt. omega (arith, inv.least k lt, m)) (omega (arith, m));
      some =
          elim (cases_lt c.loop-v.fewest (slice_index ends (slice_index left i))) [
            | inl lt ↦ (inv.some.0, inv.some.1, omega (arith, inv.some.2, m, lt))
            | inr ge ↦ (slice_index left i, Contains-get_or left i 0 c.loop-v-test.true, omega (arith, m, ge))
          ];
    }

pub returns-clause-least : goal.returns-clause-least
returns-clause-least c = λ v h.
    let left = c.args.left.now in
    let at : slice_index left h.0 ≡ v = get_or_default left h.0 0 v h.1 ∙ h.2 in
    omega (arith, c.loop-v.invariant.least h.0 (omega (arith, h.1, c.loop-v-test.false)), ap (slice_index c.args.ends.now) at)
