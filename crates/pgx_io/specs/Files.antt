-- What a library holds, and what a look-up answers.
use Rattle.std.specs.Prelude.{◌≡◌, ◌≤◌, ℕ, List, [], ◌∷◌, Option, Some, None, Result, IfSome, IfOk, IsErrOf, ⊤, if◌then◌else◌}
use Rattle.std.specs.Str.{bytes_eq}
use Rattle.pgx_io.specs.Causes.{FaultCountRose}
use Rattle.pgx_io.specs.declared.library.GetFault.{GetFault}
use Rattle.pgx_io.specs.declared.library.GetFault.TheVariants.{Failed}

-- the bytes of each name that has a file
abbrev pub Files : Type 0
Files = List ℕ → Option (List ℕ)

-- the first of the listed files that has the name
abbrev pub file_of : List (List ℕ × List ℕ) → Files
file_of [] name = None
file_of (file ∷ files) name = if bytes_eq file.0 name then Some file.1 else file_of files name

-- a map that is told stays told, and stays as it was
abbrev pub KeepsFiles : Option Files → Option Files → Type 0
KeepsFiles None new = ⊤
KeepsFiles (Some files) None = ⊥
KeepsFiles (Some files) (Some others) = others ≡ files

-- where the files are known, the answer is what they have under the name
abbrev pub Finds : {E : Type 0} → Option Files → List ℕ → Result (Option (List ℕ)) E → Type 0
Finds known_files name result = IfSome known_files (λ files. IfOk result (λ found. found ≡ files name))

-- the count did not fall, and `Failed` came only where it rose; out of memory has no cause
pub record GetsWithCause {T : Type 0} (before now : ℕ) (result : Result T GetFault) : Type 0 where
  pub later : before ≤ now
  pub failed : IsErrOf result Failed → FaultCountRose before now
