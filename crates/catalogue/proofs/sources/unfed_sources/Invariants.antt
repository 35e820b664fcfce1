use Rattle.std.proofs.Common.{◌≡◌, ◌≤◌, take, map, length}
use Rattle.std.specs.List.{All}
use Rattle.graph_slots.specs.Slots.{slots}
use Rattle.catalogue_state.specs.declared.parts.SourceData.{SourceData}
use Rattle.catalogue_state.specs.Bound.{unfed}
use Rattle.catalogue.proofs.sources.unfed_sources.Given as goal

abbrev pub invariant-loop-source : goal.invariant-loop-source
invariant-loop-source l = record {
  made : l.made ≡ map unfed (take l.source-index l.sources);
  small : All (λ (d : SourceData). length (slots d.opening.schema) ≤ 2208) (take l.source-index l.sources);
}
