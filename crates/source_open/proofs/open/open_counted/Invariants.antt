use Rattle.std.proofs.Common.{◌≡◌, ◌≤◌, IfSome, drop, take}
use Rattle.pgx_io.specs.Files.{KeepsFiles}
use Rattle.source_open.specs.Opening.{opened, opened_after, opened_names, names_of, AreInlineOf}
use Rattle.source_open.proofs.open.open_counted.Given as goal

abbrev pub invariant-loop-source : goal.invariant-loop-source
invariant-loop-source g l = record {
  due : IfSome (g.L.Library.seen l.fn.lib).files (λ files. opened files l.sources ≡ opened_after files l.openings (drop l.source-index l.sources));
  names : opened_names l.openings ≡ names_of (take l.source-index l.sources);
  inline : AreInlineOf (take l.source-index l.sources) l.openings;
  same : KeepsFiles (g.L.Library.seen l.fn.lib).files (g.L.Library.seen l.lib).files;
  later : (g.L.Library.seen l.fn.lib).faults ≤ (g.L.Library.seen l.lib).faults;
}
