-- Words on histories that were seen, and on lists of numbers.
use Rattle.std.specs.Prelude.{◌≡◌, ℕ, Bool, true, false, List, [], ◌∷◌, ◌++◌, length, if◌then◌else◌, eqb, ltb}
use Rattle.turn_hall.specs.declared.entry.Entry.{Entry}
use Rattle.turn_hall.specs.Replay.{entries_of}

-- whether a number is in a list
abbrev pub has : ℕ → List ℕ → Bool
has k [] = false
has k (x ∷ xs) = if eqb x k then true else has k xs

-- a list without a number
abbrev pub without : ℕ → List ℕ → List ℕ
without k [] = []
without k (x ∷ xs) = if eqb x k then without k xs else (x ∷ without k xs)

-- All entries of these numbers are in what a handle has seen: a handle knows those of its own number, and the root those of
-- each number of which no handle is out
abbrev pub IsKnown : Bool → List ℕ → ℕ → ℕ → Type 0
IsKnown root out number k = (root ≡ true → has k out ≡ false) × (root ≡ false → k ≡ number)

module _ {N R : Type 0} where
  -- the second history where it has more entries, else the first
  abbrev pub longer : List (Entry N R) → List (Entry N R) → List (Entry N R)
  longer xs ys = if ltb (length xs) (length ys) then ys else xs

  -- the second history is the front of the first
  abbrev pub StartsWith : List (Entry N R) → List (Entry N R) → Type 0
  StartsWith log seen = (rest : List (Entry N R)) × (log ≡ seen ++ rest)

  -- an entry with the own entries behind it, unless there are none from here on
  abbrev pub keep_if : List (Entry N R) → Entry N R → List (Entry N R) → List (Entry N R)
  keep_if [] e own = []
  keep_if (x ∷ xs) e own = e ∷ own

  -- a history up to the last entry of a number
  abbrev pub own_part : ℕ → List (Entry N R) → List (Entry N R)
  own_part who [] = []
  own_part who (e ∷ es) = keep_if (entries_of who (e ∷ es)) e (own_part who es)

  -- all that had been seen, then entries of no number that is known, and then this one
  abbrev pub Extends : (ℕ → Type 0) → List (Entry N R) → List (Entry N R) → Entry N R → Type 0
  Extends Known before after e = (between : List (Entry N R)) × (after ≡ (before ++ between) ++ e ∷ [])
      × ((k : ℕ) → Known k → entries_of k between ≡ [])
