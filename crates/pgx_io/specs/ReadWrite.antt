-- What it means to read or to write a whole text.
use Rattle.std.specs.Prelude.{◌≡◌, ◌<◌, ◌≤◌, ℕ, List, length, take, Option, Some, None, Result, Ok, Err, ⊤}
use Rattle.std.specs.Io.KnownBytes.{Consumes, Appends}
use Rattle.pgx_io.specs.declared.source.TheConstants.{LIMIT}
use Rattle.pgx_io.specs.declared.source.ReadAllFault.{ReadAllFault}
use Rattle.pgx_io.specs.declared.source.ReadAllFault.TheVariants.{TooLong, Failed, NoMemory}

-- where a source told its bytes, all of them were read and are not too many, or they are
abbrev pub ReadsWhole : Option (List ℕ) → Result (List ℕ) ReadAllFault → Type 0
ReadsWhole None result = ⊤
ReadsWhole (Some bytes) (Ok read) = (read ≡ bytes) × (length bytes ≤ LIMIT)
ReadsWhole (Some bytes) (Err TooLong) = LIMIT < length bytes
ReadsWhole (Some bytes) (Err Failed) = ⊤
ReadsWhole (Some bytes) (Err NoMemory) = ⊤

-- told bytes lost some at their front
abbrev pub TakesFront : Option (List ℕ) → Option (List ℕ) → Type 0
TakesFront old new = (front : List ℕ) × Consumes old new front

-- told bytes grew by a prefix of a text
abbrev pub AppendsFront : Option (List ℕ) → Option (List ℕ) → List ℕ → Type 0
AppendsFront old new text = (n : ℕ) × (n ≤ length text) × Appends old new (take n text)
