use Rattle.std.proofs.Common.{◌≡◌, ◌∙◌, ◌+◌, ◌++◌, ◌∷◌, List, sym, ap, subst, drop, get_or}
use Rattle.catalogue_state.specs.declared.parts.Snap.{Snap}
use Rattle.catalogue.specs.Registry.{IsRegistry}
use Rattle.catalogue_state.proofs.Latest.{next_of, none_left}
use Rattle.catalogue.proofs.columns.release_snaps.Goals as goal

pub release_snap-requires : goal.release_snap-requires
release_snap-requires c =
    let snaps = c.args.snaps.now in
    let k = c.loop-snap.snap-index in
    let x = c.snap-item.result in
    let s = c.get.result.now in
    let is : get_or snaps k x ≡ s = sym c.snap-item.is ∙ sym c.get.ensures in
    let next : drop k snaps ≡ s ∷ drop (k + 1) snaps = next_of snaps k x c.loop-snap-test.true ∙ ap (λ (b : Snap). b ∷ drop (k + 1) snaps) is in (
      drop (k + 1) snaps ++ c.requires.0,
      subst (λ (l : List Snap). IsRegistry c.loop-snap.registry.rows (l ++ c.requires.0)) next (c.loop-snap.invariant c.requires.0 c.requires.1),
    )

pub loop-snap-preserved : goal.loop-snap-preserved
loop-snap-preserved c =
    let snaps = c.args.snaps.now in
    let k = c.loop-snap.snap-index in
    let x = c.snap-item.result in
    let s = c.get.result.now in
    let is : get_or snaps k x ≡ s = sym c.snap-item.is ∙ sym c.get.ensures in
    let next : drop k snaps ≡ s ∷ drop (k + 1) snaps = next_of snaps k x c.loop-snap-test.true ∙ ap (λ (b : Snap). b ∷ drop (k + 1) snaps) is in
    λ rest f. c.release_snap.ensures (drop (k + 1) snaps ++ rest) (subst (λ (l : List Snap). IsRegistry c.loop-snap.registry.rows (l ++ rest)) next (c.loop-snap.invariant rest f))

pub returns : goal.returns
returns c = λ rest f.
    subst (λ (l : List Snap). IsRegistry c.loop-snap.registry.rows (l ++ rest)) (none_left c.args.snaps.now c.loop-snap.snap-index c.loop-snap-test.false) (c.loop-snap.invariant rest f)
