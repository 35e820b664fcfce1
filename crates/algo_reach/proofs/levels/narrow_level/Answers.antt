use Rattle.std.proofs.Common.{◌≡◌, ℕ, ◌∙◌, inl, inr, sym, subst, arith, slice_index}
use Rattle.std.proofs.lemmas.Bool.{cases_lt}
use Rattle.std.proofs.lemmas.List.{get_or_default}
use Rattle.std.proofs.lemmas.List.Elements.{Contains-get_or}
use Rattle.algo_digraph.specs.Digraph.{Goes}
use Rattle.algo_reach.specs.Marks.{HasSource}
use Rattle.algo_reach.proofs.Marking.{marking_none, marking_then, still_marked}
use Rattle.algo_reach.proofs.levels.narrow_level.Goals as goal

pub loop-v-init : goal.loop-v-init
loop-v-init c = rw c.new-next.ensures (record { marking = marking_none _ _ _ _; sofar = λ k e w lt. absurd (omega arith) })

pub loop-v-preserved : goal.loop-v-preserved
loop-v-preserved c =
    let g = c.args.digraph.now in
    let front = c.args.frontier.now in
    let i = c.loop-v.v-index in
    let v = slice_index front i in
    let one = c.in_ok-mark_targets.ensures.marking in
    let at = c.requires.here v (Contains-get_or front i 0 c.loop-v-test.true) in
    record {
      marking = marking_then _ (λ w. (e : ℕ) × Goes g e v w) (HasSource g c.args.distances.now c.args.level) _ _ _ _ _ _ _ c.loop-v.invariant.marking one (λ x h. h) (λ x h. (h.0, v, h.1, at));
      sofar = λ k e w lt goes.
          elim (cases_lt k i) [
            | inl less ↦ still_marked _ _ _ _ _ _ _ one (c.loop-v.invariant.sofar k e w less goes)
            | inr ge ↦ (let same : k ≡ i = omega arith in c.in_ok-mark_targets.ensures.all e w (subst (λ j. Goes g e (slice_index front j) w) same goes))
          ];
    }

pub returns-clause-all : goal.returns-clause-all
returns-clause-all c = λ e u w found goes.
    let front = c.args.frontier.now in
    let at : slice_index front found.0 ≡ u = get_or_default front found.0 0 u found.1 ∙ found.2 in
    c.loop-v.invariant.sofar found.0 e w (omega (arith, found.1, c.loop-v-test.false)) (subst (λ x. Goes c.args.digraph.now e x w) (sym at) goes)
