-- Steps that may find a fault, and what the code answers beside them.
use Rattle.std.specs.Prelude.{◌≡◌, Option, Some, None, Result, Ok, Err, ⊤}
use Rattle.script_read.specs.declared.fault.LineFault.{LineFault}
use Rattle.script_read.specs.declared.fault.LineFault.TheVariants as fault
use Rattle.script_read.specs.declared.fault.LineWhy.{LineWhy}

-- the second step takes what the first gives; the first fault stays
infixl 10 ◌>>=◌
abbrev pub ◌>>=◌ : {A B : Type 0} → Result A LineWhy → (A → Result B LineWhy) → Result B LineWhy
(Ok x) >>= f = f x
(Err why) >>= f = Err why

-- nothing, where there is no fault
abbrev pub unless : Option LineWhy → Result (Unit {0}) LineWhy
unless None = Ok tt
unless (Some why) = Err why

-- the answer is what the definition gives; memory may run out anywhere
abbrev pub Gives : {A : Type 0} → Result A LineFault → Result A LineWhy → Type 0
Gives (Ok x) read = read ≡ Ok x
Gives (Err (fault.Bad why)) read = read ≡ Err why
Gives (Err fault.NoMemory) read = ⊤

-- the same of a step that takes no memory
abbrev pub GivesSurely : {A : Type 0} → Result A LineFault → Result A LineWhy → Type 0
GivesSurely (Ok x) read = read ≡ Ok x
GivesSurely (Err (fault.Bad why)) read = read ≡ Err why
GivesSurely (Err fault.NoMemory) read = ⊥

-- the same of a call that writes what the definition gives
abbrev pub Writes : {A B : Type 0} → Result B LineFault → A → Result A LineWhy → Type 0
Writes (Ok done) new read = read ≡ Ok new
Writes (Err (fault.Bad why)) new read = read ≡ Err why
Writes (Err fault.NoMemory) new read = ⊤

-- the same of a call that takes no memory
abbrev pub WritesSurely : {A B : Type 0} → Result B LineFault → A → Result A LineWhy → Type 0
WritesSurely (Ok done) new read = read ≡ Ok new
WritesSurely (Err (fault.Bad why)) new read = read ≡ Err why
WritesSurely (Err fault.NoMemory) new read = ⊥
