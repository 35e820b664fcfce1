use Rattle.std.proofs.Common.{◌≡◌, All, inl, inr, ap, subst, ◌∙◌, length, arith}
use Rattle.std.specs.Prelude.{flat_map, Contains, IsOk}
use Rattle.algo_core.specs.Peeling.{falling, found_in, neighbors, IsLowering}
use Rattle.algo_core.proofs.Peels.{lowering_above, wave_peeled}
use Rattle.algo_core.proofs.wave.peel_wave.Goals as goal

pub number_in_turn-requires-clause-within : goal.number_in_turn-requires-clause-within
number_in_turn-requires-clause-within g c = λ v h. omega (arith, (c.requires.queued v h).0, c.requires.peeling.long)

pub returns-clause-peeling : goal.returns-clause-peeling
returns-clause-peeling g c =
    let digraph = c.args.digraph.now in
    let ends = c.args.ends.now in
    let e = c.in_ok-lower_found.ensures in
    let found = rw (c.as_slice.ensures, c.as_slice-2.ensures) at c.in_ok-found.ensures.falling in
    let value = c.as_slice-3.ensures.value in
    let same : flat_map found_in c.as_slice-3.result.now ≡ falling digraph ends c.args.level c.in_ok-wave.wave
    = ap (flat_map found_in) value ∙ found (subst (All IsOk) value e.found) in
    let lowering = subst (λ xs. IsLowering c.args.level xs ends c.lower_found.new.ends c.new-next.result.items c.lower_found.new.queue.items) same e.lowering in
    wave_peeled digraph c.args.level c.in_ok-wave.wave c.args.cores.now c.number_in_turn.new.cores ends c.lower_found.new.ends _ _ (Contains c.args.queue.now) c.requires.peeling
    c.in_ok-wave.ensures.turns c.in_ok-wave.ensures.numbering (λ v h. (c.requires.queued v h).1)
    (lowering_above c.args.level (flat_map (neighbors digraph) c.in_ok-wave.wave) ends c.lower_found.new.ends _ _ lowering)

pub returns-clause-next : goal.returns-clause-next
returns-clause-next g c = λ w h.
    elim (c.in_ok-lower_found.ensures.lowering.queued w h) [
      | inl early ↦ absurd (omega (arith, early.1, ap length c.new-next.ensures.items))
      | inr got ↦ (omega (arith, got.0, c.requires.peeling.counts), got.1)
    ]
