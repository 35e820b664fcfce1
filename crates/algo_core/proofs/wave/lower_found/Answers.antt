use Rattle.std.proofs.Common.{◌≡◌, ◌+◌, ◌<◌, ◌++◌, [], All, get_or, length, take, refl, sym, subst, ap, ◌∙◌}
use Rattle.std.specs.Prelude.{flat_map, IsOk}
use Rattle.std.proofs.lemmas.List.{flat_map_more, take_more}
use Rattle.std.proofs.lemmas.List.Elements.{All-get_or, All-more}
use Rattle.algo_core.specs.Peeling.{found_in}
use Rattle.algo_core.proofs.Peels.{lowering_then}
use Rattle.algo_core.proofs.wave.lower_found.Goals as goal

pub lower_each-requires : goal.lower_each-requires
lower_each-requires c =
    let one = c.one-item.result in
    let here = All-get_or (λ r. All (λ w. w < length c.args.ends.now) (found_in r)) c.args.found.now c.loop-one.one-index one c.loop-one-test.true c.requires in
    let same = ap found_in (sym c.one-item.is ∙ c.in-Ok.is) in
    rw (c.as_slice.ensures, c.loop-one.invariant.lowering.long) (subst (All (λ w. w < length c.args.ends.now)) same here)

pub loop-one-preserved : goal.loop-one-preserved
loop-one-preserved c =
    let one = c.one-item.result in
    let i = c.loop-one.one-index in
    let is = sym c.one-item.is ∙ c.in-Ok.is in
    let more : flat_map found_in (take (i + 1) c.args.found.now) ≡ flat_map found_in (take i c.args.found.now) ++ c.as_slice.result.now
    = ap (flat_map found_in) (take_more c.args.found.now i one c.loop-one-test.true)
    ∙ sym (flat_map_more found_in [] (take i c.args.found.now) (get_or c.args.found.now i one))
    ∙ ap (λ r. flat_map found_in (take i c.args.found.now) ++ found_in r) is
    ∙ ap (λ ys. flat_map found_in (take i c.args.found.now) ++ ys) (sym c.as_slice.ensures) in
    record {
      found = All-more IsOk c.args.found.now i one c.loop-one-test.true c.loop-one.invariant.found (subst IsOk (sym is) refl);
      lowering = rw more (lowering_then c.args.level _ _ _ _ _ _ _ _ c.loop-one.invariant.lowering c.in_ok-lower_each-in-Ok.ensures);
    }
