-- What is kept beside the places.
use Rattle.std.specs.Prelude.{◌≡◌, ℕ, ◌*◌, ◌<◌, ◌≤◌, List, [], ◌∷◌, length, Option, Some, None, is_some, count_by, slice_index_or}
use Rattle.scatter_buf.specs.Marks.{is_marked}

module _ {X : Type 0} where
  -- the values that are there, in the order of their places
  abbrev pub values_of : List (Option X) → List X
  values_of [] = []
  values_of (None ∷ places) = values_of places
  values_of (Some value ∷ places) = value ∷ values_of places

  -- there are count places, of which filled have a value, and exactly these are marked
  pub record IsKept (places : List (Option X)) (words : List ℕ) (count filled : ℕ) : Type 0 where
    pub size : length places ≡ count
    pub values : count_by is_some places ≡ filled
    pub covered : count ≤ 64 * length words
    pub marks : (i : ℕ) → i < count → is_marked words i ≡ is_some (slice_index_or places i None)
