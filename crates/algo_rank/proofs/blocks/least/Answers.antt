use Rattle.std.proofs.Common.{◌≡◌, inl, inr, slice_index, subst, arith, below_more}
use Rattle.std.specs.Prelude.{Contains}
use Rattle.std.proofs.lemmas.Bool.{cases_lt}
use Rattle.std.proofs.lemmas.List.{get_or_default}
use Rattle.std.proofs.lemmas.List.Elements.{Contains-get_or}
use Rattle.algo_rank.proofs.blocks.least.Goals as goal

pub loop-v-init : goal.loop-v-init
loop-v-init c = record { has = Contains-get_or c.args.block.now 0 0 c.requires; low = λ k lt. absurd (omega arith) }

pub loop-v-preserved : goal.loop-v-preserved
loop-v-preserved c =
    let block = c.args.block.now in
    let i = c.loop-v.v-index in
    let inv = c.loop-v.invariant in
    let m = c.min-least.ensures in
    record {
      has =
          elim (cases_lt c.loop-v.least (slice_index block i)) [
            | inl lt ↦ (let same : c.loop-v.least ≡ c.min-least.result = omega (arith, m, lt) in subst (Contains block) same inv.has)
            | inr ge ↦ (let same : slice_index block i ≡ c.min-least.result = omega (arith, m, ge) in subst (Contains block) same (Contains-get_or block i 0 c.loop-v-test.true))
          ];
      low = below_more _ _ (λ k lt. omega (arith, inv.low k lt, m)) (omega (arith, m));
    }

pub returns : goal.returns
returns c =
    let block = c.args.block.now in
    record {
      has = c.loop-v.invariant.has;
      least = λ v h. omega (arith, c.loop-v.invariant.low h.0 (omega (arith, h.1, c.loop-v-test.false)), get_or_default block h.0 0 v h.1, h.2);
    }
