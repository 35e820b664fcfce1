use Rattle.std.proofs.Common.{◌≡◌, ◌≤◌, IfSome, drop, length}
use Rattle.pgx_io.specs.Files.{KeepsFiles}
use Rattle.source_open.specs.Opening.{files_got, got_after}
use Rattle.source_open.proofs.files.get_files.Given as goal

abbrev pub invariant-loop-name : goal.invariant-loop-name
invariant-loop-name g l = record {
  due : IfSome (g.L.Library.seen l.fn.lib).files (λ files. files_got files l.names ≡ got_after files l.tables (drop l.name-index l.names));
  count : length l.tables ≡ l.name-index;
  same : KeepsFiles (g.L.Library.seen l.fn.lib).files (g.L.Library.seen l.lib).files;
  later : (g.L.Library.seen l.fn.lib).faults ≤ (g.L.Library.seen l.lib).faults;
}
