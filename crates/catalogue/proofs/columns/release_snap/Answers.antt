use Rattle.std.proofs.Common.{◌∷◌}
use Rattle.catalogue_state.proofs.Lists.{here}
use Rattle.catalogue.proofs.Uses.{all_listed, all_used, registry_drop}
use Rattle.catalogue.proofs.columns.release_snap.Goals as goal

pub release-requires-clause-listed : goal.release-requires-clause-listed
release-requires-clause-listed c =
    let s = c.args.snap.now in
    rw c.as_slice.ensures (all_listed c.args.registry.now.rows (s ∷ c.requires.0) c.requires.1 s (here s c.requires.0))

pub release-requires-clause-used : goal.release-requires-clause-used
release-requires-clause-used c =
    let s = c.args.snap.now in
    rw c.as_slice.ensures (all_used c.args.registry.now.rows (s ∷ c.requires.0) c.requires.1 s (here s c.requires.0))

pub returns : goal.returns
returns c = λ rest f. rw (c.release.ensures.rows, c.as_slice.ensures) (registry_drop c.args.registry.now.rows c.args.snap.now rest f)
