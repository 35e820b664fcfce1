-- Passes and books as contracts see them, and what a call, a split and a join make of a pass.
use Rattle.std.specs.Prelude.{◌≡◌, ℕ, ◌+◌, ◌-◌, Bool, true, false, List, [], ◌∷◌, Option, Some}
use Rattle.atomic_table.specs.Seated.{TableId}
use Rattle.atomic_table.specs.Table.{Me}
use Rattle.turn_hall.specs.declared.entry.Entry.{Entry}
use Rattle.turn_hall.specs.declared.view.View.{View}
use Rattle.turn_hall.specs.Replay.{replay, IsLegal}
use Rattle.turn_hall.specs.Queue.{not_waiting}
use Rattle.turn_hall.specs.Rule.{not_holding}
use Rattle.turn_hall.specs.Steps.{ComesFrom}
use Rattle.turn_hall.specs.Seen.{without, longer, IsKnown}

-- A pass: the hall that it is of, the desk as it was at first, its number, and whether it is the root. Of the root, how many passes
-- were made and which numbers are out. The history that it has seen, and how many calls it has left
pub record Handle (D N R : Type 0) : Type 0 where
  pub hall : TableId
  pub opening : Option D
  pub number : ℕ
  pub root : Bool
  pub made : ℕ
  pub out : List ℕ
  pub seen : List (Entry N R)
  pub left : ℕ

-- a desk with the history of its calls
pub record DeskHistory (D N R : Type 0) : Type 0 where
  pub desk : D
  pub book : List (Entry N R)

module _ {D N R : Type 0} where
  -- the root of a new hall: number 0, alone, and nothing seen
  abbrev pub first_handle : TableId → D → ℕ → Handle D N R
  first_handle hall desk calls = record {
    hall = hall;
    opening = Some desk;
    number = 0;
    root = true;
    made = 1;
    out = [];
    seen = [];
    left = calls;
  }

  -- a pass after a call: it has seen more, and has one call less
  abbrev pub called : List (Entry N R) → Handle D N R → Handle D N R
  called seen h = record h { seen = seen; left = h.left - 1 }

  -- the root after it made a pass of this number with so many calls
  abbrev pub split_root : ℕ → ℕ → Handle D N R → Handle D N R
  split_root who calls h = record h { made = h.made + 1; out = who ∷ h.out; left = h.left - calls }

  -- the pass that the root made: it has seen what the root has seen
  abbrev pub split_pass : ℕ → ℕ → Handle D N R → Handle D N R
  split_pass who calls h = record h { number = who; root = false; made = 0; out = []; left = calls }

  -- the root after it took in a pass: it has seen the longer history, has the calls of both, and the number is not out
  abbrev pub joined_root : Handle D N R → Handle D N R → Handle D N R
  joined_root h p = record h { out = without p.number h.out; seen = longer h.seen p.seen; left = h.left + p.left }

  -- of these numbers a pass knows all entries
  abbrev pub KnownTo : Handle D N R → ℕ → Type 0
  KnownTo h k = IsKnown h.root h.out h.number k

  -- a seat of a hall as a pass
  abbrev pub handle_of : TableId → View D N R → Handle D N R
  handle_of hall v = record {
    hall = hall;
    opening = v.opening;
    number = v.identity.number;
    root = v.identity.root;
    made = v.identity.made;
    out = v.identity.out;
    seen = v.seen;
    left = v.left;
  }

module _ {S N R : Type 0} where
  -- replaying the history from the opening state gives its replies, and the state
  abbrev pub IsHistoryOf : (S → ℕ → N → R × S) → (S → S) → S → List (Entry N R) → Type 0
  IsHistoryOf step opening state book = IsLegal step (opening state) book × (replay step (opening state) book ≡ state)

module _ {D S N R : Type 0} where
  -- a desk with its history comes from the desk as it was at first
  abbrev pub FitsDesk : (D → S) → (S → ℕ → N → R × S) → (S → S) → D → DeskHistory D N R → Type 0
  FitsDesk state step opening start b = ComesFrom step opening (state start) (state b.desk) b.book

module _ {D N R : Type 0} where
  abbrev pub book_of : DeskHistory D N R → List (Entry N R)
  book_of b = b.book

module _ {D N R B : Type 0} where
  -- without a ticket, outside of the critical section
  abbrev pub IsIdle : Me B (View D N R) → Type 0
  IsIdle m = (m.1 ≡ []) × (m.0.waiter ≡ not_waiting) × (m.0.holder ≡ not_holding) × (m.0.identity.live ≡ true)

  -- What each pass keeps while no call is under way: its number, which is 0 for the root, and the opening state, from which what it has
  -- seen is legal
  abbrev pub IsPass : (D → List (Entry N R) → Type 0) → Me B (View D N R) → ℕ → Type 0
  IsPass legal m who = IsIdle m
      × (m.0.identity.number ≡ who)
      × (m.0.identity.root ≡ true → m.0.identity.number ≡ 0)
      × ((start : D) × (m.0.opening ≡ Some start) × legal start m.0.seen)
