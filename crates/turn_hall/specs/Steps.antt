-- What each step tells, and the views that a split and a join make.
use Rattle.std.specs.Prelude.{◌≡◌, ◌≢◌, ℕ, ◌+◌, ◌-◌, ◌<◌, true, false, List, [], ◌∷◌, length, Option, Some, None}
use Rattle.atomic_table.specs.Table.{Me, Step, rest}
use Rattle.turn_hall.specs.declared.entry.Entry.{Entry}
use Rattle.turn_hall.specs.Replay.{replay, IsLegal}
use Rattle.turn_hall.specs.Queue.{not_waiting, waiting}
use Rattle.turn_hall.specs.declared.view.Identity.{Identity}
use Rattle.turn_hall.specs.declared.view.LastJoin.{LastJoin}
use Rattle.turn_hall.specs.declared.view.View.{View}
use Rattle.turn_hall.specs.Seen.{without, longer}
use Rattle.turn_hall.specs.Rule.{holding, not_holding, Begins, Knows, Joined}

-- a desk in this state, with this history, comes from the opening state `start`
abbrev pub ComesFrom : {S N R : Type 0} → (S → ℕ → N → R × S) → (S → S) → S → S → List (Entry N R) → Type 0
ComesFrom step opening start state book = (opening start ≡ start) × (opening state ≡ start) × IsLegal step start book × (replay step start book ≡ state)

abbrev pub pass_identity : ℕ → Identity
pass_identity k = record { live = true; root = false; number = k; made = 0; out = [] }

abbrev pub root_identity : ℕ → List ℕ → Identity
root_identity made out = record { live = true; root = true; number = 0; made = made; out = out }

-- of a handle that was joined
abbrev pub spent_identity : Identity
spent_identity = record { live = false; root = false; number = 0; made = 0; out = [] }

module _ {S N R : Type 0} where
  abbrev pub no_join : LastJoin S N R
  no_join = record { number = 0; out = []; opening = None; its_opening = None; mine = []; its = [] }

  -- a view without a ticket, outside of the critical section
  abbrev pub idle : Option S → Identity → List (Entry N R) → ℕ → LastJoin S N R → View S N R
  idle opening identity seen left last_join = record {
    opening = opening;
    waiter = not_waiting;
    holder = not_holding;
    identity = identity;
    seen = seen;
    left = left;
    last_join = last_join;
  }

  abbrev pub first_view : S → ℕ → View S N R
  first_view start calls = idle (Some start) (root_identity 1 []) [] calls no_join

  abbrev pub with_ticket : View S N R → ℕ → View S N R
  with_ticket v t = record v { waiter = waiting t }

  abbrev pub with_desk : View S N R → List (Entry N R) → View S N R
  with_desk v log = record v { holder = holding log }

  abbrev pub after_release : View S N R → View S N R
  after_release v = record v { waiter = not_waiting; holder = not_holding }

  abbrev pub after_call : View S N R → List (Entry N R) → View S N R
  after_call v log = record v { waiter = not_waiting; holder = not_holding; seen = log; left = v.left - 1 }

  -- the root, after it made the handle of number k with n calls, and that handle
  abbrev pub after_split : ℕ → ℕ → View S N R → View S N R
  after_split k n v = record v { identity = root_identity (v.identity.made + 1) (k ∷ v.identity.out); left = v.left - n }

  abbrev pub made_pass : ℕ → ℕ → View S N R → View S N R
  made_pass k n v = idle v.opening (pass_identity k) v.seen n no_join

  -- the root, after a handle was joined to it, and what is left of that
  abbrev pub after_join : View S N R → View S N R → View S N R
  after_join v w = record v {
    identity = root_identity v.identity.made (without w.identity.number v.identity.out);
    seen = longer v.seen w.seen;
    left = v.left + w.left;
    last_join = record { number = w.identity.number; out = v.identity.out; opening = v.opening; its_opening = w.opening; mine = v.seen; its = w.seen };
  }

  abbrev pub spent_view : View S N R
  spent_view = idle None spent_identity [] 0 no_join

module _ {S N R B : Type 0} (fits : S → B → Type 0) (book : B → List (Entry N R)) where
  -- a view with the slots that its seat has taken
  abbrev pub SeatState : Type 0
  SeatState = Me (Option B) (View S N R)

  abbrev pub book_in : Option B → List (Entry N R)
  book_in (Some b) = book b
  book_in None = []

  -- the history of the desk that a seat took last
  abbrev pub book_out : List (ℕ × Option B) → List (Entry N R)
  book_out [] = []
  book_out (x ∷ xs) = book_in x.1

  -- the number drawn is the seat's ticket
  abbrev pub drawn : Step (Option B) → SeatState → ℕ → SeatState → Type 0
  drawn st m n m' = m' ≡ (with_ticket m.0 n, m.1)

  -- The seat has taken the desk. Its history begins with what was seen, goes on with no entry of a number that the seat knows, its
  -- own among them, and has room for a call that is left
  abbrev pub Acquired : SeatState → SeatState → Type 0
  Acquired m m' = (b : B) × (m' ≡ (with_desk m.0 (book b), (0, Some b) ∷ m.1))
      × ((start : S) × (m.0.opening ≡ Some start) × fits start b)
      × Begins (book b) m.0.identity m.0.seen
      × Knows m.0.identity m.0.identity.number
      × (0 < m.0.left → length (book b) < 33554432)

  -- where its ticket is served, the seat has taken the desk; else nothing changed
  abbrev pub looked : Step (Option B) → SeatState → ℕ → SeatState → Type 0
  looked st m n m' = (n ≡ m.0.waiter.ticket → Acquired m m') × (n ≢ m.0.waiter.ticket → m' ≡ m)

  -- the desk goes back as it came
  abbrev pub released : Step (Option B) → SeatState → ℕ → SeatState → Type 0
  released st m n m' = m' ≡ (after_release m.0, rest m.1)

  -- the desk goes back with one more entry, and the seat has seen its history
  abbrev pub committed : Step (Option B) → SeatState → ℕ → SeatState → Type 0
  committed st m n m' = m' ≡ (after_call m.0 (book_out m.1), rest m.1)

  -- a look that tells of the last join
  abbrev pub told : Step (Option B) → SeatState → ℕ → SeatState → Type 0
  told st m n m' = (m' ≡ m) × Joined m.0.last_join
