-- The rule of the lock, which holds between any two steps.
-- Word 0 is the ticket that is drawn next, word 1 the ticket that is served, and the one slot has the desk with its history.
use Rattle.std.specs.Prelude.{◌≡◌, ℕ, ◌+◌, ◌≤◌, ◌⊎◌, true, false, List, [], ◌∷◌, ◌++◌, map, length, slice_index, Option, Some}
use mathlib.Core.Option.{some, none, Option as Maybe}
use lib.ListN.{get_elem?}
use Rattle.atomic_table.specs.Table.{State}
use Rattle.turn_hall.specs.declared.entry.Entry.{Entry}
use Rattle.turn_hall.specs.Replay.{entries_of}
use Rattle.turn_hall.specs.declared.view.Waiter.{Waiter}
use Rattle.turn_hall.specs.Queue.{TicketQueue}
use Rattle.turn_hall.specs.declared.view.Holder.{Holder}
use Rattle.turn_hall.specs.declared.view.Identity.{Identity}
use Rattle.turn_hall.specs.declared.view.LastJoin.{LastJoin}
use Rattle.turn_hall.specs.declared.view.View.{View}
use Rattle.turn_hall.specs.Seen.{has, longer, StartsWith, IsKnown}

-- of these numbers a handle knows all entries
abbrev pub Knows : Identity → ℕ → Type 0
Knows m k = IsKnown m.root m.out m.number k

-- The handles of a lock. One that was joined is not live
pub record Numbered (identities : List Identity) : Type 0 where
  -- numbers of live handles differ
  pub differ : (i j : ℕ) (m n : Identity) → get_elem? identities i ≡ some m → get_elem? identities j ≡ some n → m.live ≡ true → n.live ≡ true → m.number ≡ n.number → i ≡ j
  -- the root is the first, has number 0, and counts all handles that were made
  pub root_is : (i : ℕ) (m : Identity) → get_elem? identities i ≡ some m → m.root ≡ true → (i ≡ 0) × (m.live ≡ true) × (m.number ≡ 0) × (m.made ≡ length identities) × (has 0 m.out ≡ false)
  -- it lists the numbers of the other live ones
  pub listed : (i : ℕ) (m r : Identity) → get_elem? identities 0 ≡ some r → get_elem? identities i ≡ some m → m.live ≡ true → m.root ≡ false → has m.number r.out ≡ true
  pub root_there : (r : Identity) × (get_elem? identities 0 ≡ some r) × (r.root ≡ true)

-- all numbers of a list together
abbrev pub total : List ℕ → ℕ
total [] = 0
total (x ∷ xs) = x + total xs

module _ {N R : Type 0} where
  -- in the critical section, where this history was found
  abbrev pub holding : List (Entry N R) → Holder N R
  holding log = record { holds = true; book = log }

  abbrev pub not_holding : Holder N R
  not_holding = record { holds = false; book = [] }

  -- Where the desk is. Either it is in the slot with the history, and nobody is in the critical section. Or the slot is empty, and the
  -- first in the queue, and nobody else, is in the critical section and knows the history
  abbrev pub InSlot : {B : Type 0} → (B → Type 0) → (B → List (Entry N R)) → List ℕ → List (Entry N R) → List (Maybe (Option B)) → List (Holder N R) → Type 0
  InSlot {B} fits book queue log homes holders =
      ((b : B) × (homes ≡ some (Some b) ∷ []) × fits b × (log ≡ book b) × ((i : ℕ) (t : Holder N R) → get_elem? holders i ≡ some t → t.holds ≡ false))
      ⊎ ((id : ℕ) × (get_elem? queue 0 ≡ some id) × (homes ≡ none ∷ []) × (get_elem? holders id ≡ some (holding log))
      × ((i : ℕ) (t : Holder N R) → get_elem? holders i ≡ some t → t.holds ≡ true → i ≡ id))

  -- the history begins with what was seen, and goes on with no entry of a number that is known
  abbrev pub Begins : List (Entry N R) → Identity → List (Entry N R) → Type 0
  Begins log m seen = (rest : List (Entry N R)) × (log ≡ seen ++ rest) × ((k : ℕ) → Knows m k → entries_of k rest ≡ [])

module _ {S N R : Type 0} where
  -- what the last join of the root was
  pub record Joined (l : LastJoin S N R) : Type 0 where
    -- the two came from one opening state
    pub same : l.opening ≡ l.its_opening
    -- one of the two histories begins the other
    pub begins : StartsWith l.mine l.its ⊎ StartsWith l.its l.mine
    -- all entries of the numbers that each knew are its own
    pub its : entries_of l.number (longer l.mine l.its) ≡ entries_of l.number l.its
    pub mine : (k : ℕ) → has k l.out ≡ false → entries_of k (longer l.mine l.its) ≡ entries_of k l.mine

module _ {N R S : Type 0} where
  abbrev pub waiter_of : View S N R → Waiter
  waiter_of v = v.waiter

  abbrev pub holder_of : View S N R → Holder N R
  holder_of v = v.holder

  abbrev pub identity_of : View S N R → Identity
  identity_of v = v.identity

  abbrev pub left_of : View S N R → ℕ
  left_of v = v.left

  -- what is kept of each handle by itself
  pub record ViewRule (start : S) (log : List (Entry N R)) (v : View S N R) : Type 0 where
    pub opening : v.identity.live ≡ true → v.opening ≡ Some start
    pub begins : v.identity.live ≡ true → Begins log v.identity v.seen
    pub spent : v.identity.live ≡ false → v.holder.holds ≡ false
    pub joined : Joined v.last_join

  abbrev pub Each : (View S N R → Type 0) → List (View S N R) → Type 0
  Each P views = (i : ℕ) (v : View S N R) → get_elem? views i ≡ some v → P v

  -- The rule of the lock: the queue of those that wait, the place of the desk, the handles, the calls left over all handles with the
  -- length of the history, and what each handle keeps
  pub record Rule {B : Type 0} (fits : S → B → Type 0) (book : B → List (Entry N R)) (start : S) (calls : ℕ) (s : State (Option B) (View S N R)) : Type 0 where
    pub queue : List ℕ
    pub log : List (Entry N R)
    pub words : length s.words ≡ 2
    pub tickets : TicketQueue (slice_index s.words 0) (slice_index s.words 1) queue (map waiter_of s.views)
    pub slot : InSlot (fits start) book queue log s.homes (map holder_of s.views)
    pub numbers : Numbered (map identity_of s.views)
    pub counted : total (map left_of s.views) + length log ≡ calls
    pub bounded : calls ≤ 33554432
    pub each : Each (ViewRule start log) s.views
