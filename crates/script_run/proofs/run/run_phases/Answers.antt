use Rattle.std.proofs.Common.{◌≡◌, ◌∙◌, ◌∷◌, [], ◌++◌, ◌+◌, List, ℕ, length, take, drop, sym, ap, subst, arith}
use Rattle.std.specs.Prelude.{sum_by}
use Rattle.std.specs.List.{AllByRecursion}
use Rattle.std.proofs.lemmas.List.{take_more}
use Rattle.std.proofs.lemmas.List.Sums.{sum_by-cons}
use Rattle.script_read.specs.declared.script.Block.{Block}
use Rattle.script_read.specs.Phases.{IsActor, IsPhase, phase_commands}
use Rattle.script_run.specs.Leaves.{AllRan}
use Rattle.script_run.proofs.Blocks.{no_phases_ran, phases_on, still_at_rest, at_rest_less}
use Rattle.script_run.proofs.Running.{drop_here}
use Rattle.script_run.proofs.run.run_phases.Goals as goal

pub loop-blocks-init : goal.loop-blocks-init
loop-blocks-init g c = record {
  ran = no_phases_ran c.args.alone.now c.args.members.now;
  rest = c.requires.rest;
  phases = c.requires.phases;
}

pub run_blocks-requires-clause-known : goal.run_blocks-requires-clause-known
run_blocks-requires-clause-known g c κs within =
    let blocks = c.blocks-item.result in
    let here = drop_here c.args.phases.now c.loop-blocks.blocks-index blocks c.loop-blocks-test.true c.blocks-item.is in
    let all = subst (λ (l : List (List Block)). AllByRecursion (λ blocks. IsPhase (length c.args.members.now) blocks) l) here c.loop-blocks.invariant.phases in
    rw c.as_slice.ensures (subst (λ (n : ℕ). AllByRecursion (λ b. IsActor n b.actor) blocks) (sym c.loop-blocks.invariant.ran.many) all.0.known)

pub run_blocks-requires-clause-rest : goal.run_blocks-requires-clause-rest
run_blocks-requires-clause-rest g c κs within =
    let blocks = c.blocks-item.result in
    let i = c.loop-blocks.blocks-index in
    let here = drop_here c.args.phases.now i blocks c.loop-blocks-test.true c.blocks-item.is in
    let sum = ap (sum_by phase_commands) here ∙ sum_by-cons phase_commands blocks (drop (i + 1) c.args.phases.now) in
    rw c.as_slice.ensures (at_rest_less c.loop-blocks.alone c.loop-blocks.members (phase_commands blocks) _ (omega arith) c.loop-blocks.invariant.rest)

pub loop-blocks-preserved : goal.loop-blocks-preserved
loop-blocks-preserved g c =
    let blocks = c.blocks-item.result in
    let i = c.loop-blocks.blocks-index in
    let phases = c.args.phases.now in
    let here = drop_here phases i blocks c.loop-blocks-test.true c.blocks-item.is in
    let sum = ap (sum_by phase_commands) here ∙ sum_by-cons phase_commands blocks (drop (i + 1) phases) in
    let ran = rw c.as_slice.ensures at c.in_ok-run_blocks.ensures in
    let so_far = phases_on (take i phases) blocks c.args.alone.now c.args.members.now c.loop-blocks.alone c.loop-blocks.members c.run_blocks.new.alone c.run_blocks.new.members c.loop-blocks.invariant.ran ran in
    let more : take (i + 1) phases ≡ take i phases ++ blocks ∷ [] = take_more phases i blocks c.loop-blocks-test.true ∙ ap (λ x. take i phases ++ x ∷ []) (sym c.blocks-item.is) in
    let all = subst (λ (l : List (List Block)). AllByRecursion (λ blocks. IsPhase (length c.args.members.now) blocks) l) here c.loop-blocks.invariant.phases in
    record {
      ran = subst (λ (l : List (List Block)). AllRan l c.args.alone.now c.args.members.now c.run_blocks.new.alone c.run_blocks.new.members) (sym more) so_far;
      rest = still_at_rest blocks c.loop-blocks.alone c.loop-blocks.members c.run_blocks.new.alone c.run_blocks.new.members (sum_by phase_commands (drop i phases)) (sum_by phase_commands (drop (i + 1) phases))
          (omega arith) ran c.loop-blocks.invariant.rest;
      phases = all.1;
    }
