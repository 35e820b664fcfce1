-- The two words of a ticket lock, and who waits.
use Rattle.std.specs.Prelude.{◌≡◌, ℕ, ◌+◌, ◌%◌, ◌^◌, ◌<◌, Bool, true, false, List, [], ◌∷◌, length}
use mathlib.Core.Option.{some}
use lib.ListN.{get_elem?}
use Rattle.turn_hall.specs.declared.view.Waiter.{Waiter}

-- one with a ticket
abbrev pub waiting : ℕ → Waiter
waiting ticket = record { waits = true; ticket = ticket }

-- one without
abbrev pub not_waiting : Waiter
not_waiting = record { waits = false; ticket = 0 }

abbrev pub one_if : Bool → ℕ
one_if true = 1
one_if false = 0

-- how many have a ticket
abbrev pub count_waiting : List Waiter → ℕ
count_waiting [] = 0
count_waiting (l ∷ ls) = one_if l.waits + count_waiting ls

-- `queue` lists the seats that have a ticket, in the order of their tickets, which are the numbers from `serving` on, modulo 2^64
pub record TicketQueue (ticket serving : ℕ) (queue : List ℕ) (waiters : List Waiter) : Type 0 where
  -- the next ticket is the one behind the last that was drawn
  pub drawn : ticket ≡ (serving + length queue) % 2 ^ 64
  -- who is in the queue waits, with the ticket of its position
  pub queued : (i id : ℕ) → get_elem? queue i ≡ some id → get_elem? waiters id ≡ some (waiting ((serving + i) % 2 ^ 64))
  -- who waits is in the queue
  pub listed : (id : ℕ) (l : Waiter) → get_elem? waiters id ≡ some l → l.waits ≡ true → (i : ℕ) × (get_elem? queue i ≡ some id)
  -- each once
  pub counted : count_waiting waiters ≡ length queue
  pub few : length waiters < 2 ^ 32
