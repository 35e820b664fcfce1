use Rattle.std.proofs.Common.{◌≡◌, ◌≢◌, ◌<◌, ◌∙◌, Some, None, length, sym, subst, arith}
use Rattle.std.specs.Prelude.{slice_index}
use Rattle.std.proofs.lemmas.List.{get_or_default}
use Rattle.std.proofs.lemmas.List.Elements.{Contains-get_or}
use Rattle.algo_core.specs.Peeling.{core_of}
use Rattle.algo_core.proofs.Peels.{not_left, numbered_more, numbering_more, numbering_none, numbering_one}
use Rattle.algo_core.proofs.wave.number_in_turn.Goals as goal

pub is_free-requires : goal.is_free-requires
is_free-requires c = omega (arith, c.requires.within _ (Contains-get_or c.args.queue.now c.loop-v.v-index 0 c.loop-v-test.true), c.loop-v.invariant.numbering.long)

pub loop-v-preserved-then-not-is_free : goal.loop-v-preserved-then-not-is_free
loop-v-preserved-then-not-is_free c =
    let cores = c.loop-v.cores in
    let v = slice_index c.args.queue.now c.loop-v.v-index in
    let had = not_left (core_of cores v) (sym (c.is_free.ensures.value (Some 0)) ∙ c.if-not-is_free.true) in
    record {
      turns = c.loop-v.invariant.turns;
      numbering = numbering_more c.args.level c.args.queue.now c.loop-v.v-index _ cores cores c.loop-v-test.true c.loop-v.invariant.numbering
          (numbering_none (λ w. w ≡ v) c.args.level cores (λ w e. subst (λ x. core_of cores x ≢ None) (sym e) had));
    }

pub loop-v-preserved : goal.loop-v-preserved
loop-v-preserved c =
    let cores = c.loop-v.cores in
    let v = slice_index c.args.queue.now c.loop-v.v-index in
    let lt : v < length cores
    = omega (arith, c.requires.within _ (Contains-get_or c.args.queue.now c.loop-v.v-index 0 c.loop-v-test.true), c.loop-v.invariant.numbering.long) in
    let free = get_or_default cores v (Some 0) None lt ∙ c.is_free.ensures.free.0 c.if-not-is_free.false in
    rw (c.set.ensures, c.in_ok-push.ensures.ok) (record {
      turns = numbered_more c.args.level c.loop-v.wave _ cores v c.loop-v.invariant.turns lt free;
      numbering = numbering_more c.args.level c.args.queue.now c.loop-v.v-index _ cores _ c.loop-v-test.true c.loop-v.invariant.numbering (numbering_one c.args.level v cores lt free);
    })
