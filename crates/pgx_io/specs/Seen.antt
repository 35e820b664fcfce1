-- What the objects of the outside are seen as: what each holds, where it tells that, and how often it has failed.
use Rattle.std.specs.Prelude.{ℕ, List, Option}
use Rattle.pgx_io.specs.Causes.{FaultCountRose}
use Rattle.pgx_io.specs.Files.{Files}

-- a source: the bytes that are left to read
pub record SourceSeen : Type 0 where
  pub rest : Option (List ℕ)
  pub faults : ℕ

-- a library: the bytes of each name that has a file
pub record LibrarySeen : Type 0 where
  pub files : Option Files
  pub faults : ℕ

-- a sink: the bytes that it has taken
pub record SinkSeen : Type 0 where
  pub taken : Option (List ℕ)
  pub faults : ℕ

-- the object failed: its count of faults is greater after than before
abbrev pub SourceFailed : SourceSeen → SourceSeen → Type 0
SourceFailed before after = FaultCountRose before.faults after.faults

abbrev pub LibraryFailed : LibrarySeen → LibrarySeen → Type 0
LibraryFailed before after = FaultCountRose before.faults after.faults

abbrev pub SinkFailed : SinkSeen → SinkSeen → Type 0
SinkFailed before after = FaultCountRose before.faults after.faults
