use Rattle.std.proofs.Common.{◌≡◌, ◌∙◌, ◌∷◌, [], ◌++◌, ◌+◌, List, ℕ, length, take, drop, sym, ap, subst, arith}
use Rattle.std.specs.List.{AllByRecursion}
use Rattle.std.proofs.lemmas.List.{take_more}
use Rattle.std.proofs.lemmas.List.Sums.{sum_by-cons}
use Rattle.script_read.specs.declared.script.Block.{Block}
use Rattle.script_read.specs.Phases.{IsActor, block_commands, phase_commands}
use Rattle.script_run.specs.Leaves.{BlocksRan}
use Rattle.script_run.proofs.Blocks.{no_blocks_ran, blocks_on, still_at_rest, at_rest_less}
use Rattle.script_run.proofs.Running.{drop_here}
use Rattle.script_run.proofs.run.run_blocks.Goals as goal

pub loop-block-init : goal.loop-block-init
loop-block-init g c = record {
  ran = no_blocks_ran c.args.alone.now c.args.members.now (phase_commands c.args.blocks.now) c.requires.rest;
  rest = c.requires.rest;
  known = c.requires.known;
}

pub run_block-requires-clause-known : goal.run_block-requires-clause-known
run_block-requires-clause-known g c κs within =
    let b = c.block-item.result in
    let here = drop_here c.args.blocks.now c.loop-block.block-index b c.loop-block-test.true c.block-item.is in
    let all = subst (λ (l : List Block). AllByRecursion (λ b. IsActor (length c.args.members.now) b.actor) l) here c.loop-block.invariant.known in
    subst (λ (n : ℕ). IsActor n b.actor) (sym c.loop-block.invariant.ran.many) all.0

pub run_block-requires-clause-rest : goal.run_block-requires-clause-rest
run_block-requires-clause-rest g c κs within =
    let b = c.block-item.result in
    let i = c.loop-block.block-index in
    let here = drop_here c.args.blocks.now i b c.loop-block-test.true c.block-item.is in
    let sum = ap phase_commands here ∙ sum_by-cons block_commands b (drop (i + 1) c.args.blocks.now) in
    at_rest_less c.loop-block.alone c.loop-block.members (block_commands b) _ (omega arith) c.loop-block.invariant.rest

pub loop-block-preserved : goal.loop-block-preserved
loop-block-preserved g c =
    let b = c.block-item.result in
    let i = c.loop-block.block-index in
    let blocks = c.args.blocks.now in
    let here = drop_here blocks i b c.loop-block-test.true c.block-item.is in
    let sum = ap phase_commands here ∙ sum_by-cons block_commands b (drop (i + 1) blocks) in
    let one = sum_by-cons block_commands b [] in
    let ran = c.in_ok-run_block.ensures in
    let so_far = blocks_on (take i blocks) (b ∷ []) c.args.alone.now c.args.members.now c.loop-block.alone c.loop-block.members c.run_block.new.alone c.run_block.new.members c.loop-block.invariant.ran ran in
    let more : take (i + 1) blocks ≡ take i blocks ++ b ∷ [] = take_more blocks i b c.loop-block-test.true ∙ ap (λ x. take i blocks ++ x ∷ []) (sym c.block-item.is) in
    let all = subst (λ (l : List Block). AllByRecursion (λ b. IsActor (length c.args.members.now) b.actor) l) here c.loop-block.invariant.known in
    record {
      ran = subst (λ (l : List Block). BlocksRan l c.args.alone.now c.args.members.now c.run_block.new.alone c.run_block.new.members) (sym more) so_far;
      rest = still_at_rest (b ∷ []) c.loop-block.alone c.loop-block.members c.run_block.new.alone c.run_block.new.members (phase_commands (drop i blocks)) (phase_commands (drop (i + 1) blocks))
          (omega arith) ran c.loop-block.invariant.rest;
      known = all.1;
    }
