use Rattle.std.proofs.Common.{◌≡◌, ◌∙◌, ◌+◌, ◌++◌, ◌∷◌, List, sym, ap, subst, drop, get_or}
use Rattle.catalogue_state.specs.declared.parts.Snap.{Snap}
use Rattle.catalogue_state.specs.declared.parts.Held.{Held}
use Rattle.catalogue_state.specs.State.{snaps_of}
use Rattle.catalogue.specs.Registry.{IsRegistry}
use Rattle.catalogue.proofs.Apart.{next_snap, all_gone}
use Rattle.catalogue.proofs.columns.release_graphs.Goals as goal

pub release_snap-requires : goal.release_snap-requires
release_snap-requires c =
    let held = c.args.held.now in
    let k = c.loop-graph.graph-index in
    let x = c.graph-item.result in
    let s = c.get.result.now in
    let is : (get_or held k x).snap ≡ s = ap (λ (h : Held). h.snap) (sym c.graph-item.is) ∙ sym c.get.ensures in
    let next : snaps_of (drop k held) ≡ s ∷ snaps_of (drop (k + 1) held) = next_snap held k x c.loop-graph-test.true ∙ ap (λ (b : Snap). b ∷ snaps_of (drop (k + 1) held)) is in (
      snaps_of (drop (k + 1) held) ++ c.requires.0,
      subst (λ (l : List Snap). IsRegistry c.loop-graph.registry.rows (l ++ c.requires.0)) next (c.loop-graph.invariant c.requires.0 c.requires.1),
    )

pub loop-graph-preserved : goal.loop-graph-preserved
loop-graph-preserved c =
    let held = c.args.held.now in
    let k = c.loop-graph.graph-index in
    let x = c.graph-item.result in
    let s = c.get.result.now in
    let is : (get_or held k x).snap ≡ s = ap (λ (h : Held). h.snap) (sym c.graph-item.is) ∙ sym c.get.ensures in
    let next : snaps_of (drop k held) ≡ s ∷ snaps_of (drop (k + 1) held) = next_snap held k x c.loop-graph-test.true ∙ ap (λ (b : Snap). b ∷ snaps_of (drop (k + 1) held)) is in
    λ rest f. c.release_snap.ensures (snaps_of (drop (k + 1) held) ++ rest) (subst (λ (l : List Snap). IsRegistry c.loop-graph.registry.rows (l ++ rest)) next (c.loop-graph.invariant rest f))

pub returns : goal.returns
returns c = λ rest f.
    subst (λ (l : List Snap). IsRegistry c.loop-graph.registry.rows (l ++ rest)) (all_gone c.args.held.now c.loop-graph.graph-index c.loop-graph-test.false) (c.loop-graph.invariant rest f)
