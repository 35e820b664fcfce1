use Rattle.std.proofs.Common.{ℕ, ◌≤◌, slice_index, arith}
use Rattle.std.specs.Prelude.{Contains}
use Rattle.algo_core.specs.Peeling.{core_of}
use Rattle.algo_core.proofs.Peels.{peeled, left_before, left_none}
use Rattle.algo_core.proofs.cores.peel_rest.Goals as goal

pub number_all-requires-clause-within : goal.number_all-requires-clause-within
number_all-requires-clause-within c = λ v h. omega (arith, (c.requires.queued v h).0, c.requires.peeling.long)

pub returns-clause-peeling : goal.returns-clause-peeling
returns-clause-peeling c =
    let digraph = c.args.digraph.now in
    let cores = c.args.cores.now in
    let new = c.number_all.new.cores in
    let ends = c.args.ends.now in
    let numbering = c.number_all.ensures in
    let low : (v : ℕ) → Contains c.args.queue.now v → slice_index c.args.ends.now v ≤ c.args.level = λ v h. (c.requires.queued v h).1 in
    peeled digraph c.args.level cores new ends ends (Contains c.args.queue.now) c.requires.peeling numbering low c.requires.peeling.counts
    (λ v h. absurd (numbering.all v (c.requires.all v (left_before digraph c.args.level cores new ends ends (Contains c.args.queue.now) c.requires.peeling numbering low v h)) (left_none (core_of new v) h)))
