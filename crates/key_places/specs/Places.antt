-- An index as a function: for each key the place where it stands, or none.
use Rattle.std.specs.Prelude.{◌≡◌, ℕ, ◌<◌, ℤ, pos, negsuc, ◌+ℤ◌, ◌-ℤ◌, Option, Some, None, nat_lt, if◌then◌else◌}
use Rattle.std.specs.Option.{unwrap_or}
use Rattle.std.specs.HashMap.{get}
use Rattle.std.specs.Ordering.{int_eq}
use Rattle.key_places.specs.declared.index.KeyPlaces.{KeyPlaces}

-- ---- runs: so many keys one after another, at the places 0, 1, 2 and so on

-- the place at a distance from the first key
abbrev pub place_at : ℕ → ℤ → Option ℕ
place_at length (pos distance) = if nat_lt distance length then Some distance else None
place_at length (negsuc distance) = None

abbrev pub place_in_run : ℤ → ℕ → ℤ → Option ℕ
place_in_run first length key = place_at length (key -ℤ first)

-- ---- indexes

-- where a key stands: where the exceptions say, or else where the run has it
abbrev pub place_of : KeyPlaces → ℤ → Option ℕ
place_of places key = unwrap_or (get int_eq places.exceptions key) (place_in_run places.first places.run key)

-- one key stands at a place, or nowhere, and each other one where it stood
abbrev pub Puts : KeyPlaces → KeyPlaces → ℤ → Option ℕ → Type 0
Puts old new key place = (k : ℤ) → place_of new k ≡ (if int_eq key k then place else place_of old k)

-- the run goes on with a key: it is to stand at the next place, it comes right behind the run or is the first key of all, and it
-- is no exception
pub record GoesOn (places : KeyPlaces) (key : ℤ) (place : ℕ) : Type 0 where
  pub at : place ≡ places.run
  pub few : place < 4294967295
  pub behind : 0 < place → key ≡ places.first +ℤ pos places.run
  pub free : get int_eq places.exceptions key ≡ None

-- no key becomes an exception, and none ceases to be one
abbrev pub ExceptionsStay : KeyPlaces → KeyPlaces → Type 0
ExceptionsStay old new = new.exceptions ≡ old.exceptions

-- the run does not have a key
abbrev pub IsOffRun : KeyPlaces → ℤ → Type 0
IsOffRun places key = place_in_run places.first places.run key ≡ None
