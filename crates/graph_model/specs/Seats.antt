-- How a table is stored: in seats. A seat is where a row was put. It never moves, and it stays when its row is taken out.
use Rattle.std.specs.Prelude.{◌≡◌, ℕ, ◌+◌, ◌-◌, ◌<◌, ◌≤◌, ℤ, pos, Bool, true, false, ◌&&◌, not, filter, map, List, [], ◌∷◌, ◌++◌, length, slice_index_or, slice_set, slice_get, count_by, position, replicate, All, Some, IsTrue}
use Rattle.std.specs.List.{AllZip, range_with_len}
use Rattle.std.specs.Ordering.{int_eq}
use Rattle.column_types.specs.declared.kind.Kind.{Kind}
use Rattle.column_types.specs.declared.kind.Kind.TheVariants as kind
use Rattle.column_types.specs.declared.value.Value.{Value}
use Rattle.column_types.specs.declared.value.Value.TheVariants.{Null}
use Rattle.column_types.specs.Value.{fits_kind}
use Rattle.column_types.specs.Column.{ColumnData}
use Rattle.key_places.specs.declared.index.KeyPlaces.{KeyPlaces}
use Rattle.key_places.specs.Places.{place_of}

-- the key and values of the row that was put in a seat, and whether it is still there
pub record Seat : Type 0 where
  pub key : ℤ
  pub values : List Value
  pub live : Bool

-- the kinds of a table's properties, and its seats in the order in which rows came
pub record TableData : Type 0 where
  pub kinds : List Kind
  pub seats : List Seat

-- no row
abbrev pub no_seat : Seat
no_seat = record { key = pos 0; values = []; live = false }

abbrev pub seat_key : Seat → ℤ
seat_key s = s.key

abbrev pub is_live : Seat → Bool
is_live s = s.live

-- the row of the key sits there
abbrev pub sits : ℤ → Seat → Bool
sits k s = s.live && int_eq s.key k

-- the seats whose rows are still there
abbrev pub live_seats : List Seat → List Seat
live_seats seats = filter is_live seats

-- whether a row sits at a place
abbrev pub sits_at : List Seat → ℕ → Bool
sits_at seats i = (slice_index_or seats i no_seat).live

-- the key of the row that was put at a place
abbrev pub key_at : List Seat → ℕ → ℤ
key_at seats i = (slice_index_or seats i no_seat).key

-- ---- what changes make of seats

-- a row more
abbrev pub seated : List Seat → ℤ → List Value → List Seat
seated seats k vs = seats ++ record { key = k; values = vs; live = true } ∷ []

-- the row at place i taken out
abbrev pub left : Seat → Seat
left s = record { key = s.key; values = s.values; live = false }

abbrev pub vacated : List Seat → ℕ → List Seat
vacated seats i = slice_set seats i (left (slice_index_or seats i no_seat))

-- value p of the row at place i set
abbrev pub with_value : ℕ → Value → Seat → Seat
with_value p v s = record { key = s.key; values = slice_set s.values p v; live = s.live }

abbrev pub reset : List Seat → ℕ → ℕ → Value → List Seat
reset seats i p v = slice_set seats i (with_value p v (slice_index_or seats i no_seat))

-- values are NULL or of these kinds
abbrev pub Fit : List Kind → List Value → Type 0
Fit kinds values = AllZip (λ k v. IsTrue (fits_kind k v)) kinds values

-- ---- how seats lie in memory: a list of keys, a column for each property, and a flag for each row that was taken out

-- the values of a row; a column may have a value more than there are rows, which the next row writes over
abbrev pub row_of : List ColumnData → ℕ → List Value
row_of columns i = map (λ c. slice_index_or c.values i Null) columns

-- there are flags up to the last row that was taken out, and none where none was
abbrev pub flag_at : List Bool → ℕ → Bool
flag_at dead i = slice_index_or dead i false

abbrev pub seat_from : List ℤ → List ColumnData → List Bool → ℕ → Seat
seat_from keys columns dead i = record { key = slice_index_or keys i (pos 0); values = row_of columns i; live = not (flag_at dead i) }

abbrev pub seats_from : List ℤ → List ColumnData → List Bool → List Seat
seats_from keys columns dead = map (seat_from keys columns dead) (range_with_len 0 (length keys))

abbrev pub kinds_of : List ColumnData → List Kind
kinds_of columns = map (λ c. c.kind) columns

-- what keys, columns and flags keep
pub record AreColumns (keys : List ℤ) (columns : List ColumnData) (dead : List Bool) : Type 0 where
  pub few : length keys < 2147483648
  pub long : All (λ c. length keys ≤ length c.values) columns
  pub flags : length dead ≤ length keys

-- what an index of the rows and a number tell of seats: no key sits twice, the index tells of each key where it sits, and the
-- number how many rows there are
pub record AreTold (seats : List Seat) (index : KeyPlaces) (live : ℕ) : Type 0 where
  pub once : (k : ℤ) → count_by (sits k) seats ≤ 1
  pub indexed : (k : ℤ) → place_of index k ≡ position (sits k) seats
  pub count : live ≡ length (live_seats seats)

-- what a stored table keeps
pub record IsTable (keys : List ℤ) (columns : List ColumnData) (dead : List Bool) (index : KeyPlaces) (live : ℕ) : Type 0 where
  pub laid : AreColumns keys columns dead
  pub told : AreTold (seats_from keys columns dead) index live

-- flags up to that of a place; those that are made are not set
abbrev pub with_flag : List Bool → ℕ → List Bool
with_flag dead i = dead ++ replicate (i + 1 - length dead) false

-- the flags after that of a place is set
abbrev pub flagged : List Bool → ℕ → List Bool
flagged dead i = slice_set (with_flag dead i) i true

-- a column after a value was put at a place, or was not: below it everything stays
pub record KeepsBelow (place : ℕ) (c d : ColumnData) : Type 0 where
  pub kind : d.kind ≡ c.kind
  pub long : place ≤ length d.values
  pub below : (i : ℕ) → i < place → slice_index_or d.values i Null ≡ slice_index_or c.values i Null

-- a column, and no column
abbrev pub no_column : ColumnData
no_column = record { kind = kind.Long; values = [] }

abbrev pub column_at : List ColumnData → ℕ → ColumnData
column_at columns p = slice_index_or columns p no_column

-- columns after a value was put into one of them, or was not: the others stay
pub record PutsAt (p place : ℕ) (columns after : List ColumnData) : Type 0 where
  pub others : after ≡ slice_set columns p (column_at after p)
  pub kept : KeepsBelow place (column_at columns p) (column_at after p)

-- columns have a row's values at a place
abbrev pub HasRow : ℕ → List ColumnData → List Value → Type 0
HasRow place columns values = AllZip (λ c v. slice_get c.values place ≡ Some v) columns values
