-- The registry of the columns in use: its numbers, their counts and what they stand for.
use Rattle.std.specs.Prelude.{◌≡◌, ℕ, ◌+◌, ◌<◌, ◌≤◌, ◌⊎◌, ◌++◌, List, [], ◌∷◌, All, length, count_by, slice_get, Contains, Option, Some}
use Rattle.std.specs.List.{range_with_len}
use Rattle.column_reclaim.specs.declared.row.RegistryRow.{RegistryRow}
use Rattle.column_reclaim.specs.Registry.{Rises, times, count_of, item_of}
use Rattle.graph_model.specs.Graph.{GraphData}
use Rattle.graph_slots.specs.declared.part.Part.{Part}
use Rattle.graph_snap.specs.Sharing.{graph_parts}
use Rattle.catalogue_state.specs.declared.parts.Snap.{Snap}
use Rattle.catalogue_state.specs.State.{has_column}

-- a part under each number
abbrev pub Rows : Type 0
Rows = List (RegistryRow Part)

-- what a graph has in a slot; nothing past the last
unfoldable pub part_in : GraphData → ℕ → Option Part
part_in g k = slice_get (graph_parts g) k

-- how many of these snapshots have the column
abbrev pub uses : ℕ → List Snap → ℕ
uses c rs = count_by (has_column c) rs

-- each number of a snapshot is listed with what the snapshot has in that slot
abbrev pub HasParts : Rows → Snap → Type 0
HasParts rows s = (k c : ℕ) → slice_get s.columns k ≡ Some c → item_of rows c ≡ part_in s.shot k

-- the rows of these snapshots: each number that one of them has, with how many have it, and with what they have under it
pub record IsRegistry (rows : Rows) (rs : List Snap) : Type 0 where
  pub rises : Rises rows
  pub counted : All (λ r. 0 < r.count) rows
  pub counts : (c : ℕ) → count_of rows c ≡ uses c rs
  pub differ : (s : Snap) → Contains rs s → (c : ℕ) → times c s.columns ≤ 1
  pub parts : (s : Snap) → Contains rs s → HasParts rows s

-- ---- snapshots that go

-- they are counted, beside others
abbrev pub AreCounted : Rows → List Snap → Type 0
AreCounted rows gone = (rest : List Snap) × IsRegistry rows (gone ++ rest)

-- whatever others there are, theirs are the rows that are left
abbrev pub AreReleased : Rows → List Snap → Rows → Type 0
AreReleased old gone new = (rest : List Snap) → IsRegistry old (gone ++ rest) → IsRegistry new rest

-- ---- a snapshot that comes

-- the rows of new parts, each used once, under the numbers from the first on
abbrev pub new_rows : ℕ → List Part → Rows
new_rows first [] = []
new_rows first (p ∷ ps) = record { id = first; count = 1; item = p } ∷ new_rows (first + 1) ps

-- a number that a snapshot in use has, with this part
abbrev pub IsKeptPart : List Snap → Option Part → ℕ → Type 0
IsKeptPart rs part c = (b : Snap) × (j : ℕ) × Contains rs b × (slice_get b.columns j ≡ Some c) × (part_in b.shot j ≡ part)

-- a new number, with this part
abbrev pub IsNewPart : ℕ → List Part → Option Part → ℕ → Type 0
IsNewPart first new part c = (j : ℕ) × (p : Part) × (first + j ≡ c) × (slice_get new j ≡ Some p) × (part ≡ Some p)

-- its numbers are those that it keeps and the new ones, each with its part
pub record Comes (rs : List Snap) (first : ℕ) (s : Snap) (kept : List ℕ) (new : List Part) : Type 0 where
  pub numbers : (c : ℕ) → times c s.columns ≡ times c kept + times c (range_with_len first (length new))
  pub used : (c : ℕ) → Contains kept c → 0 < uses c rs
  pub parts : (k c : ℕ) → slice_get s.columns k ≡ Some c → IsKeptPart rs (part_in s.shot k) c ⊎ IsNewPart first new (part_in s.shot k) c
