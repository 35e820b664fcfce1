use Rattle.std.proofs.Common.{◌≡◌, ◌≤◌, List, IfSome, drop}
use Rattle.catalogue_state.specs.declared.parts.SourceData.{SourceData}
use Rattle.pgx_io.specs.Files.{KeepsFiles}
use Rattle.source_open.specs.Opening.{opened, opened_after}
use Rattle.source_open.proofs.open.check_sources.Given as goal

abbrev pub invariant-loop-source : goal.invariant-loop-source
invariant-loop-source g l = record {
  due : IfSome (g.L.Library.seen l.fn.lib).files (λ files. (done : List SourceData) × (opened files l.sources ≡ opened_after files done (drop l.source-index l.sources)));
  same : KeepsFiles (g.L.Library.seen l.fn.lib).files (g.L.Library.seen l.lib).files;
  later : (g.L.Library.seen l.fn.lib).faults ≤ (g.L.Library.seen l.lib).faults;
}
