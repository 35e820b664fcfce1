-- What a call of the program works on, as its clauses see it.
use Rattle.std.specs.Prelude.{◌⊎◌}
use Rattle.pgx_io.specs.Seen.{SourceSeen, LibrarySeen, SinkSeen, SourceFailed, LibraryFailed, SinkFailed}

-- the source, the library and the sink, as they are seen before a call or after it
pub record Outside : Type 0 where
  pub source : SourceSeen
  pub library : LibrarySeen
  pub sink : SinkSeen

abbrev pub outside_of : SourceSeen → LibrarySeen → SinkSeen → Outside
outside_of source library sink = record { source = source; library = library; sink = sink }

-- the source or the library failed between the two
abbrev pub ReadFailed : Outside → Outside → Type 0
ReadFailed before after = SourceFailed before.source after.source ⊎ LibraryFailed before.library after.library

-- the sink failed between the two
abbrev pub WriteFailed : Outside → Outside → Type 0
WriteFailed before after = SinkFailed before.sink after.sink
