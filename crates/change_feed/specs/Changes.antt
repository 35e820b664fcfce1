-- The changes that the bytes of a file stand for.
use Rattle.std.specs.Prelude.{ℕ, ◌+◌, List, [], ◌∷◌, ◌++◌, Result, Ok}
use Rattle.graph_schema.specs.Schema.{SchemaData}
use Rattle.graph_model.specs.declared.change.Change.{Change}
use Rattle.change_feed.specs.declared.fault.FeedFault.{FeedFault}
use Rattle.change_feed.specs.declared.fault.RowCause.{RowCause}
use Rattle.change_feed.specs.Fault.{◌>>=◌, at_row}
use Rattle.csv_records.specs.Reading.{records_of}
use Rattle.change_feed.specs.Row.{change_of}

-- the changes of rows, of which the first has this number, or the first fault
unfoldable pub changes_from : ℕ → SchemaData → List (List (List ℕ)) → Result (List Change) FeedFault
changes_from row s [] = Ok []
changes_from row s (fields ∷ rest) = do
  change ← at_row row (change_of s fields)
  changes ← changes_from (row + 1) s rest
  Ok (change ∷ changes)

-- the changes of a file, whose rows count from 1
abbrev pub changes_of : SchemaData → List ℕ → Result (List Change) FeedFault
changes_of s bytes = changes_from 1 s (records_of bytes)

-- changes with one more behind them, that of a row
abbrev pub with_row : List Change → Result Change RowCause → Result (List Change) RowCause
with_row done row = row >>= (λ change. Ok (done ++ change ∷ []))
