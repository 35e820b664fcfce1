-- Answers that are a value or the first fault.
use Rattle.std.specs.Prelude.{◌≡◌, ℕ, Result, Ok, Err, ⊤}
use Rattle.table_loader.specs.declared.fault.LoadFault.{LoadFault}
use Rattle.table_loader.specs.declared.fault.LoadFault.TheVariants as load
use Rattle.table_loader.specs.declared.fault.RecordFault.{RecordFault}
use Rattle.table_loader.specs.declared.fault.RecordFault.TheVariants as one

-- one step after another; the first fault decides
infixl 10 ◌>>=◌
abbrev pub ◌>>=◌ : {A B E : Type 0} → Result A E → (A → Result B E) → Result B E
(Ok x) >>= f = f x
(Err e) >>= f = Err e

-- the fault that is answered is the one that is due; memory may run out anywhere
abbrev pub LoadCause : {A : Type 0} → Result A LoadFault → LoadFault → Type 0
LoadCause due (load.Bad file row number) = due ≡ Err (load.Bad file row number)
LoadCause due load.NoMemory = ⊤

-- ---- one record

-- the same of a record, whose fault is a number
abbrev pub RecordCause : {A : Type 0} → Result A ℕ → RecordFault → Type 0
RecordCause due (one.Bad number) = due ≡ Err number
RecordCause due one.NoMemory = ⊤

-- the answer is what is due
abbrev pub Reads : {A : Type 0} → Result A RecordFault → Result A ℕ → Type 0
Reads (Ok x) due = due ≡ Ok x
Reads (Err e) due = RecordCause due e

-- the fault of the record of this number in this file
abbrev pub at_record : {A : Type 0} → ℕ → ℕ → Result A ℕ → Result A LoadFault
at_record file row (Ok x) = Ok x
at_record file row (Err number) = Err (load.Bad file row number)

abbrev pub place_fault : ℕ → ℕ → RecordFault → LoadFault
place_fault file row (one.Bad number) = load.Bad file row number
place_fault file row one.NoMemory = load.NoMemory
