use Rattle.std.proofs.Common.{◌≡◌}
use Rattle.graph_model.specs.Change.{after}
use Rattle.changeset.specs.Facts.{facts}
use Rattle.changeset.specs.Overlay.{told}
use Rattle.changeset.proofs.First.{Left}
use Rattle.changeset.proofs.list.ChangeList.fits.Given as goal

abbrev pub invariant-loop-change : goal.invariant-loop-change
invariant-loop-change l = record {
  left : Left l.on l.self l.change-index (after l.on l.self l.change-index);
  told : told l.on l.overlay ≡ facts (after l.on l.self l.change-index);
  place : l.place ≡ l.change-index;
}
