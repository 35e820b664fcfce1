-- What a row does to the open changes.
use Rattle.std.proofs.Common.{◌≡◌, ◌≢◌, ℕ, ◌+◌, List, [], ◌∷◌, ◌++◌, length, length-append, refl, arith}
use Rattle.std.specs.Prelude.{Some, Result, Ok, Err, slice_get}
use Rattle.graph_schema.specs.Schema.{SchemaData}
use Rattle.graph_model.specs.declared.change.Change.{Change}
use Rattle.change_feed.specs.declared.fault.RowCause.{RowCause}
use Rattle.change_feed.specs.declared.fault.RowCause.TheVariants as cause
use Rattle.change_feed.specs.declared.fault.FeedFault.{FeedFault}
use Rattle.change_feed.specs.declared.fault.FeedFault.TheVariants.{BadRow, NoMemory}
use Rattle.change_feed.specs.Fault.{◌>>=◌, at_row}
use Rattle.change_feed.specs.Row.{change_of}
use Rattle.csv_records.specs.Reading.{records_of}
use Rattle.change_feed.specs.Changes.{changes_from, changes_of}
use Rattle.catalogue_state.specs.declared.reply.Refusal.{Refusal}
use Rattle.catalogue_state.specs.declared.reply.Refusal.TheVariants.{BadRow as BadRowRefusal}
use Rattle.session_run.specs.declared.record.LocalReply.TheVariants.{Count, Refused}
use Rattle.session_run.specs.Own.{OwnPart, row_refusal, added_row}
use Rattle.session_run.specs.Law.{AddsOne}

-- one row and others, where to read the others takes no memory
more_rows : (row : ℕ) (one : Result Change RowCause) (others : Result (List Change) FeedFault) → (others ≡ Err NoMemory → ⊥)
    → (at_row row one >>= (λ change. others >>= (λ changes. Ok (change ∷ changes)))) ≡ Err NoMemory → ⊥
more_rows row (Ok change) (Ok changes) sure h = cc
more_rows row (Ok change) (Err fault) sure h = sure h
more_rows row (Err why) others sure h = cc

-- to read rows, as it is defined, takes no memory
takes_none : (row : ℕ) (s : SchemaData) (records : List (List (List ℕ))) → changes_from row s records ≡ Err NoMemory → ⊥
unfolding changes_from
takes_none row s [] h = cc
takes_none row s (fields ∷ rest) h = more_rows row (change_of s fields) (changes_from (row + 1) s rest) (takes_none (row + 1) s rest) h

counted_read : (own : OwnPart) (read : Result (List Change) FeedFault) (n : ℕ) → (read ≡ Err NoMemory → ⊥) → (added_row own read).0 ≡ Count n
    → AddsOne own read n (added_row own read).1
counted_read own (Ok []) n sure h = absurd cc
counted_read own (Ok (change ∷ [])) n sure h =
    let told : Count (length (own.open ++ change ∷ [])) ≡ Count n = h in
    let long = length-append own.open (change ∷ []) in
    record { change = change; row = refl; behind = refl; count = cc }
counted_read own (Ok (change ∷ second ∷ changes)) n sure h = absurd cc
counted_read own (Err (BadRow row why)) n sure h = absurd cc
counted_read own (Err NoMemory) n sure h = absurd (sure refl)

pub counted_row : (own : OwnPart) (s : SchemaData) (row : List ℕ) (n : ℕ) → (added_row own (changes_of s row)).0 ≡ Count n
    → AddsOne own (changes_of s row) n (added_row own (changes_of s row)).1
counted_row own s row n h = counted_read own (changes_of s row) n (takes_none 1 s (records_of row)) h

refused_read : (own : OwnPart) (read : Result (List Change) FeedFault) (r : Refusal) → (added_row own read).0 ≡ Refused r → (added_row own read).1 ≡ own
refused_read own (Ok []) r h = refl
refused_read own (Ok (change ∷ [])) r h = absurd cc
refused_read own (Ok (change ∷ second ∷ changes)) r h = refl
refused_read own (Err (BadRow row why)) r h = refl
refused_read own (Err NoMemory) r h = absurd cc

pub refused_row : (own : OwnPart) (s : SchemaData) (row : List ℕ) (r : Refusal) → (added_row own (changes_of s row)).0 ≡ Refused r
    → (added_row own (changes_of s row)).1 ≡ own
refused_row own s row r h = refused_read own (changes_of s row) r h

-- a list of one change
pub one_alone : (changes : List Change) (change : Change) → length changes ≡ 1 → slice_get changes 0 ≡ Some change → changes ≡ change ∷ []
one_alone [] change n h = absurd cc
one_alone (first ∷ []) change n h = cc
one_alone (first ∷ second ∷ changes) change n h = absurd (omega arith)

-- a list of none or of several
pub none_or_several : (changes : List Change) → length changes ≢ 1 → row_refusal (Ok changes) ≡ Some (BadRowRefusal 1 cause.Count)
none_or_several [] n = refl
none_or_several (first ∷ []) n = absurd (n (omega arith))
none_or_several (first ∷ second ∷ changes) n = refl

-- what comes of a row that is one change
pub added_one : (own : OwnPart) (read : Result (List Change) FeedFault) (change : Change) → read ≡ Ok (change ∷ [])
    → (Count (length (own.open ++ change ∷ [])), record own { «open» = own.open ++ change ∷ [] }) ≡ added_row own read
added_one own read change is = rw is refl

-- and of one that is refused
pub added_none : (own : OwnPart) (read : Result (List Change) FeedFault) (r : Refusal) → row_refusal read ≡ Some r → (Refused r, own) ≡ added_row own read
added_none own (Ok []) r is = cc
added_none own (Ok (change ∷ [])) r is = absurd cc
added_none own (Ok (change ∷ second ∷ changes)) r is = cc
added_none own (Err (BadRow row why)) r is = cc
added_none own (Err NoMemory) r is = absurd cc
