use Rattle.std.proofs.Common.{◌≡◌, ℕ, ◌<◌, ◌≤◌, ◌∙◌, ap, true, None, Some, [], length, replicate, slice_index, arith}
use Rattle.std.proofs.lemmas.List.{get_or-replicate, get_or_default}
use Rattle.algo_digraph.specs.Cores.{ends_inside}
use Rattle.algo_core.specs.Peeling.{core_of, is_left}
use Rattle.algo_core.proofs.Peels.{first_peeling, raised, left_within, left_none, none_left, some_gone, free_before}
use Rattle.algo_core.proofs.Counts.{all_inside, ends_few}
use Rattle.algo_core.proofs.Levels.{all_in, all_there, passed, passes, shorter}
use Rattle.algo_core.proofs.cores.digraph_core_numbers.Goals as goal

pub levels-init : goal.levels-init
levels-init g c =
    let digraph = c.args.digraph.now in
    let n = c.vertex_count-n.ensures.count in
    let cores : c.in_ok-cores.cores ≡ replicate digraph.vertices None = c.in_ok-cores.ensures ∙ ap (λ k. replicate k None) n in
    let none : (u : ℕ) → u < digraph.vertices → is_left (replicate digraph.vertices None) u ≡ true = λ u lt. none_left _ (get_or-replicate digraph.vertices u None (Some 0) lt) in
    let each : (v : ℕ) → v < digraph.vertices → is_left (replicate digraph.vertices None) v ≡ true
    → slice_index c.in_ok-ends.ends v ≡ ends_inside digraph (is_left (replicate digraph.vertices None)) v
    = λ v lt left. c.in_ok-ends.ensures.each v lt ∙ all_inside digraph (is_left (replicate digraph.vertices None)) v c.vertex_count-n.ensures.closed none lt in
    rw (cores, c.in_ok-left.ensures, n) (record {
      peeling = first_peeling digraph c.in_ok-ends.ends c.in_ok-ends.ensures.len each;
      small = omega arith;
      listed = λ v h. let lt = all_in digraph.vertices v h in (lt, get_or-replicate digraph.vertices v None (Some 0) lt);
      has = λ v lt free. all_there digraph.vertices v lt;
    })

pub fewest_ends-requires-clause-within : goal.fewest_ends-requires-clause-within
fewest_ends-requires-clause-within g c =
    rw (c.as_slice-in-levels.ensures, c.as_slice.ensures) (λ v h. omega (arith, (c.levels.invariant.listed v h).0, c.levels.invariant.peeling.counts))

pub peel_level-requires-clause-peeling : goal.peel_level-requires-clause-peeling
peel_level-requires-clause-peeling g c κs within =
    let inv = c.levels.invariant in
    let least = rw (c.as_slice-in-levels.ensures, c.as_slice.ensures) at c.fewest_ends.ensures.least in
    rw c.max-level.ensures (raised c.args.digraph.now c.levels.level c.levels.cores c.levels.ends inv.peeling c.fewest_ends.result
    (λ u h. least u (inv.has u (omega (arith, left_within c.levels.cores u h, inv.peeling.long)) (left_none (core_of c.levels.cores u) h))))

-- the level is the count of some vertex that is left, or what it was
pub peel_level-requires-clause-level : goal.peel_level-requires-clause-level
peel_level-requires-clause-level g c κs within =
    let digraph = c.args.digraph.now in
    let inv = c.levels.invariant in
    let some = rw (c.as_slice-in-levels.ensures, c.as_slice.ensures) at c.fewest_ends.ensures.some in
    let left = none_left (core_of c.levels.cores some.0) (inv.listed some.0 some.1).1 in
    omega (arith, c.max-level.ensures, inv.small, some.2, inv.peeling.counted some.0 left, ends_few digraph (is_left c.levels.cores) some.0, c.vertex_count-n.ensures.few_edges)

pub peel_level-requires-clause-left : goal.peel_level-requires-clause-left
peel_level-requires-clause-left g c κs within = rw c.as_slice-in-levels-2.ensures (λ v h. (c.levels.invariant.listed v h).0)

pub peel_level-requires-clause-has : goal.peel_level-requires-clause-has
peel_level-requires-clause-has g c κs within =
    let inv = c.levels.invariant in
    rw c.as_slice-in-levels-2.ensures (λ v h. inv.has v (omega (arith, left_within c.levels.cores v h, inv.peeling.long)) (left_none (core_of c.levels.cores v) h))

pub still_left-requires : goal.still_left-requires
still_left-requires g c =
    rw c.as_slice-in-levels-3.ensures (λ v h. omega (arith, (c.levels.invariant.listed v h).0, c.in_ok-peel_level.ensures.peeling.long))

pub levels-smaller : goal.levels-smaller
levels-smaller g c =
    let some = rw (c.as_slice-in-levels.ensures, c.as_slice.ensures) at c.fewest_ends.ensures.some in
    let gone = rw c.as_slice-in-levels-2.ensures at c.in_ok-peel_level.ensures.gone in
    let low : slice_index c.levels.ends some.0 ≤ c.max-level.result = omega (arith, some.2, c.max-level.ensures) in
    let here = gone some.0 some.1 low in
    let left = rw c.as_slice-in-levels-3.ensures at c.in_ok-left-2.ensures in
    rw left (shorter (is_left c.peel_level.new.cores) c.levels.left some.0 some.1 (some_gone (core_of c.peel_level.new.cores some.0) here))

pub levels-preserved : goal.levels-preserved
levels-preserved g c =
    let inv = c.levels.invariant in
    let e = c.in_ok-peel_level.ensures in
    let cores = c.peel_level.new.cores in
    let some = rw (c.as_slice-in-levels.ensures, c.as_slice.ensures) at c.fewest_ends.ensures.some in
    let was = none_left (core_of c.levels.cores some.0) (inv.listed some.0 some.1).1 in
    let left = rw c.as_slice-in-levels-3.ensures at c.in_ok-left-2.ensures in
    rw left (record {
      peeling = e.peeling;
      small = omega (arith, c.max-level.ensures, inv.small, some.2, inv.peeling.counted some.0 was, ends_few c.args.digraph.now (is_left c.levels.cores) some.0, c.vertex_count-n.ensures.few_edges);
      listed = λ v h. let p = passed (is_left cores) c.levels.left v h in ((inv.listed v p.0).0, left_none (core_of cores v) p.1);
      has = λ v lt free. passes (is_left cores) c.levels.left v (inv.has v lt (free_before (core_of c.levels.cores v) (core_of cores v) (e.kept v) free)) (none_left (core_of cores v) free);
    })

-- where nothing is left each vertex has its number
pub to_numbers-requires : goal.to_numbers-requires
to_numbers-requires g c = λ v lt none.
    let inv = c.levels.invariant in
    let empty : c.levels.left ≡ [] = c.is_empty.ensures.0 c.levels-test.false in
    let waits = inv.has v (omega (arith, lt, inv.peeling.long)) (get_or_default c.levels.cores v (Some 0) None lt ∙ none) in
    omega (arith, waits.1, ap length empty)

pub returns-clause-each : goal.returns-clause-each
returns-clause-each g c = λ v lt.
    let inv = c.levels.invariant in
    let within : v < length c.levels.cores = omega (arith, lt, inv.peeling.long) in
    inv.peeling.right v _ lt (get_or_default c.levels.cores v (Some 0) None within ∙ c.in_ok-all.ensures.each v within)
