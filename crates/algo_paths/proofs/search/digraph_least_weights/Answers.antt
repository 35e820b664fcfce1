use Rattle.std.proofs.Common.{◌≡◌, ◌∙◌, ap, subst, [], set, replicate, arith}
use Rattle.algo_paths.specs.Search.{IsSearch}
use Rattle.algo_paths.proofs.Relaxing.{starts_in}
use Rattle.algo_paths.proofs.Searching.{first_search, search_on, least_told}
use Rattle.algo_paths.proofs.search.digraph_least_weights.Goals as goal

pub waves-init : goal.waves-init
waves-init g c =
    let digraph = c.args.digraph.now in
    let best : c.set.new.self ≡ set (replicate digraph.vertices 9223372036854775808) c.args.from 0 = c.set.ensures ∙ ap (λ l. set l c.args.from 0) (c.in_ok-best.ensures ∙ ap (λ k. replicate k 9223372036854775808) c.vertex_count.ensures.count) in
    let put = rw c.in_ok-queue.ensures at c.in_ok-push.ensures in
    first_search digraph c.args.weights.now c.args.from c.requires.from c.set.new.self c.push.new.self best put

pub next_wave-requires : goal.next_wave-requires
next_wave-requires g c = rw c.as_slice.ensures (λ x h. omega (arith, c.waves.invariant.queued x h, c.waves.invariant.long))

pub relax_wave-requires-clause-wave : goal.relax_wave-requires-clause-wave
relax_wave-requires-clause-wave g c κs within =
    let some = rw c.in-Some.is at c.in_ok-wave.ensures.some in
    let taken = rw c.as_slice.ensures at some.taken in
    rw c.as_slice-in-Some.ensures.value (λ v h. omega (arith, taken v h, c.waves.invariant.long))

pub waves-preserved : goal.waves-preserved
waves-preserved g c =
    let digraph = c.args.digraph.now in
    let some = rw c.in-Some.is at c.in_ok-wave.ensures.some in
    let taken = rw c.as_slice.ensures at some in
    let progress = rw c.as_slice-in-Some.ensures.value at c.in_ok-relax_wave.ensures in
    search_on digraph c.args.weights.now c.args.from c.waves.best c.relax_wave.new.best c.in-Some.wave.items c.waves.queue c.next_wave.new.self c.relax_wave.new.queue
    c.waves.invariant c.requires.from taken progress (λ u w es lt h. starts_in digraph c.vertex_count.ensures.closed u w es lt h)

pub returns-clause-each : goal.returns-clause-each
returns-clause-each g c = λ v lt.
    let digraph = c.args.digraph.now in
    let empty : c.waves.queue ≡ [] = rw c.in_default.is at c.in_ok-wave.ensures.none in
    let search = subst (IsSearch digraph c.args.weights.now c.args.from c.waves.best) empty c.waves.invariant in
    let each = rw c.as_slice-2.ensures at c.in_ok-found.ensures.each in
    least_told digraph c.vertex_count.ensures.closed c.args.weights.now c.args.from c.waves.best search c.requires.from v _ lt (each v (omega (arith, lt, c.waves.invariant.long)))
