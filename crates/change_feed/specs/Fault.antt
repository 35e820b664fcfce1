-- Answers that are a value or the first fault.
use Rattle.std.specs.Prelude.{◌≡◌, ℕ, Result, Ok, Err, ⊤}
use Rattle.change_feed.specs.declared.fault.RowCause.{RowCause}
use Rattle.change_feed.specs.declared.fault.FeedFault.{FeedFault}
use Rattle.change_feed.specs.declared.fault.FeedFault.TheVariants as feed
use Rattle.change_feed.specs.declared.fault.RowFault.{RowFault}
use Rattle.change_feed.specs.declared.fault.RowFault.TheVariants as one

-- one step after another; the first fault decides
infixl 10 ◌>>=◌
abbrev pub ◌>>=◌ : {A B E : Type 0} → Result A E → (A → Result B E) → Result B E
(Ok x) >>= f = f x
(Err e) >>= f = Err e

-- the fault that is answered is the one that is due; memory may run out anywhere
abbrev pub FeedCause : {A : Type 0} → Result A FeedFault → FeedFault → Type 0
FeedCause due (feed.BadRow row cause) = due ≡ Err (feed.BadRow row cause)
FeedCause due feed.NoMemory = ⊤

-- ---- one row

-- the same of a row, which has a cause
abbrev pub IsCause : {A : Type 0} → Result A RowCause → RowFault → Type 0
IsCause due (one.Bad cause) = due ≡ Err cause
IsCause due one.NoMemory = ⊤

-- the answer is what is due
abbrev pub Reads : {A : Type 0} → Result A RowFault → Result A RowCause → Type 0
Reads (Ok x) due = due ≡ Ok x
Reads (Err e) due = IsCause due e

-- the fault of the row of this number
abbrev pub at_row : {A : Type 0} → ℕ → Result A RowCause → Result A FeedFault
at_row row (Ok x) = Ok x
at_row row (Err cause) = Err (feed.BadRow row cause)

abbrev pub place_fault : ℕ → RowFault → FeedFault
place_fault row (one.Bad cause) = feed.BadRow row cause
place_fault row one.NoMemory = feed.NoMemory
