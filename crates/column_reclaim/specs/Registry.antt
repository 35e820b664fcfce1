-- Rows under ids, and what becomes of their counts.
use Rattle.std.specs.Prelude.{ℕ, ◌+◌, ◌-◌, ◌<◌, ◌==◌, nat_lt, Bool, List, map, filter, find, count_by, AllPairs, Option, Some, None, IsSome, option_map}
use Rattle.column_reclaim.specs.declared.row.RegistryRow.{RegistryRow}

-- the rows, and how many may be added without memory
pub record Listing (T : Type 0) : Type 0 where
  pub rows : List (RegistryRow T)
  pub spare : ℕ

-- how often an id comes in a list of ids
abbrev pub times : ℕ → List ℕ → ℕ
times id ids = count_by (λ k. k == id) ids

module _ {T : Type 0} where
  abbrev pub ids_of : List (RegistryRow T) → List ℕ
  ids_of rows = map (λ r. r.id) rows

  -- each id is below all later ones
  abbrev pub Rises : List (RegistryRow T) → Type 0
  Rises rows = AllPairs (λ r s. r.id < s.id) rows

  -- ---- look-ups

  -- the row of an id
  abbrev pub has_id : ℕ → RegistryRow T → Bool
  has_id id r = r.id == id

  abbrev pub row_of : List (RegistryRow T) → ℕ → Option (RegistryRow T)
  row_of rows id = find (has_id id) rows

  abbrev pub IsListed : List (RegistryRow T) → ℕ → Type 0
  IsListed rows id = IsSome (row_of rows id)

  -- the count of an id, 0 where it is not listed
  abbrev pub count_in : Option (RegistryRow T) → ℕ
  count_in None = 0
  count_in (Some r) = r.count

  abbrev pub count_of : List (RegistryRow T) → ℕ → ℕ
  count_of rows id = count_in (row_of rows id)

  -- the item of an id
  abbrev pub item_of : List (RegistryRow T) → ℕ → Option T
  item_of rows id = option_map (λ r. r.item) (row_of rows id)

  -- ---- changes of counts

  -- each count raised by how often its id comes
  abbrev pub raise_by : List ℕ → RegistryRow T → RegistryRow T
  raise_by ids r = record r { count = r.count + times r.id ids }

  abbrev pub raised : List ℕ → List (RegistryRow T) → List (RegistryRow T)
  raised ids rows = map (raise_by ids) rows

  -- each count lowered by how often its id comes; none goes below 0
  abbrev pub lower_by : List ℕ → RegistryRow T → RegistryRow T
  lower_by ids r = record r { count = r.count - times r.id ids }

  abbrev pub lowered_all : List ℕ → List (RegistryRow T) → List (RegistryRow T)
  lowered_all ids rows = map (lower_by ids) rows

  -- the same without the rows whose count is then 0
  abbrev pub is_counted : RegistryRow T → Bool
  is_counted r = nat_lt 0 r.count

  abbrev pub lowered : List ℕ → List (RegistryRow T) → List (RegistryRow T)
  lowered ids rows = filter is_counted (lowered_all ids rows)
