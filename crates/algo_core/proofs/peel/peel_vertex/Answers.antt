use Rattle.std.proofs.Common.{◌≡◌, ◌∙◌, ◌∷◌, [], Some, None, ◌<◌, length, refl, sym, subst, arith, ap}
use Rattle.std.specs.Prelude.{slice_index}
use Rattle.std.proofs.lemmas.List.{append-nil, get_or_default}
use Rattle.algo_core.specs.Peeling.{neighbors, IsLowering}
use Rattle.algo_core.proofs.Peels.{lowering_then, numbering_one, wave_peeled}
use Rattle.algo_core.proofs.peel.peel_vertex.Goals as goal

pub returns-clause-peeling : goal.returns-clause-peeling
returns-clause-peeling c =
    let digraph = c.args.digraph.now in
    let cores = c.args.cores.now in
    let v = c.args.v in
    let lt : v < length cores = omega (arith, c.requires.vertex, c.requires.peeling.long) in
    let free = get_or_default cores v (Some 0) None lt ∙ c.is_free.ensures.free.0 c.if-not-is_free.false in
    let both = lowering_then _ _ _ _ _ _ _ _ _ c.in_ok-lower_targets.ensures c.in_ok-lower_sources.ensures in
    let all = subst (λ xs. IsLowering c.args.level xs c.args.ends.now c.lower_sources.new.ends c.args.queue.now.items c.lower_sources.new.queue.items) (sym (append-nil (neighbors digraph v))) both in
    rw c.set.ensures (wave_peeled digraph c.args.level (v ∷ []) cores _ c.args.ends.now c.lower_sources.new.ends _ _ (λ w. w ≡ v) c.requires.peeling (lt, free, refl) (numbering_one c.args.level v cores lt free)
    (λ w e. omega (arith, ap (slice_index c.args.ends.now) e, c.requires.low)) all)
