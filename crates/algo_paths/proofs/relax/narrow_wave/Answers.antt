use Rattle.std.proofs.Common.{◌∙◌, ◌+◌, sym, subst, drop, arith, slice_index}
use Rattle.std.proofs.lemmas.List.{drop_all}
use Rattle.std.proofs.lemmas.List.Elements.{Contains-get_or}
use Rattle.algo_paths.specs.Search.{IsProgress}
use Rattle.algo_paths.proofs.Relaxing.{progress_none, progress_one, progress_then, drop_more}
use Rattle.algo_paths.proofs.relax.narrow_wave.Goals as goal

pub loop-v-init : goal.loop-v-init
loop-v-init c = progress_none c.args.digraph.now c.args.weights.now c.args.wave.now c.args.best.now c.args.queue.now

pub relax_vertex-requires-clause-long : goal.relax_vertex-requires-clause-long
relax_vertex-requires-clause-long c = c.loop-v.invariant.long ∙ c.requires.long

pub relax_vertex-requires-clause-low : goal.relax_vertex-requires-clause-low
relax_vertex-requires-clause-low c = λ v. omega (arith, c.loop-v.invariant.lower v, c.requires.low v)

pub relax_vertex-requires-clause-vertex : goal.relax_vertex-requires-clause-vertex
relax_vertex-requires-clause-vertex c = c.requires.wave _ (Contains-get_or c.args.wave.now c.loop-v.v-index 0 c.loop-v-test.true)

pub loop-v-preserved : goal.loop-v-preserved
loop-v-preserved c =
    let g = c.args.digraph.now in
    let weights = c.args.weights.now in
    let wave = c.args.wave.now in
    let i = c.loop-v.v-index in
    let closed = c.sound.ensures in
    let e = c.in_ok-relax_vertex.ensures in
    let one = progress_one g closed weights (slice_index wave i) (drop (i + 1) wave) c.loop-v.best c.relax_vertex.new.best c.loop-v.queue c.relax_vertex.new.queue e.relaxing e.relaxed in
    progress_then g closed weights wave (drop i wave) (drop (i + 1) wave) _ _ _ _ _ _ c.loop-v.invariant
    (subst (λ w. IsProgress g weights w (drop (i + 1) wave) c.loop-v.best c.relax_vertex.new.best c.loop-v.queue c.relax_vertex.new.queue) (sym (drop_more wave i c.loop-v-test.true)) one)

pub returns : goal.returns
returns c =
    subst (λ left. IsProgress c.args.digraph.now c.args.weights.now c.args.wave.now left c.args.best.now c.loop-v.best c.args.queue.now c.loop-v.queue)
    (drop_all c.loop-v.v-index c.args.wave.now c.loop-v-test.false) c.loop-v.invariant
