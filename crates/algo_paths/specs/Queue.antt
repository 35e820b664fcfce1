-- The queue of a search. No public contract names these words.
use Rattle.std.specs.Prelude.{◌≡◌, ◌⊎◌, ℕ, ◌+◌, ◌<◌, ◌≤◌, List, Contains, length, slice_index}
use Rattle.std.specs.List.{flat_map}

-- the entries of all buckets
abbrev pub entries : List (List (ℕ × ℕ)) → List (ℕ × ℕ)
entries buckets = flat_map (λ bucket. bucket) buckets

-- the queue's entry for a vertex
abbrev pub entry_of : List ℕ → ℕ → ℕ × ℕ
entry_of best v = (slice_index best v, v)

-- an entry was put into a queue
pub record IsPut (x : ℕ × ℕ) (before after : List (ℕ × ℕ)) : Type 0 where
  pub put : Contains after x
  pub stays : (y : ℕ × ℕ) → Contains before y → Contains after y
  pub queued : (y : ℕ × ℕ) → Contains after y → Contains before y ⊎ (y ≡ x)
  pub long : length after ≡ length before + 1

-- some entries were taken out of a queue
pub record IsTaken (taken before after : List (ℕ × ℕ)) : Type 0 where
  pub filled : 0 < length taken
  pub kept : (y : ℕ × ℕ) → Contains before y → Contains taken y ⊎ Contains after y
  pub from : (y : ℕ × ℕ) → Contains taken y ⊎ Contains after y → Contains before y
  pub long : length before ≡ length taken + length after

-- an entry that was taken out, if it still holds, is put into the queue again or its vertex into a wave; into the wave, if it
-- has the nearest weight
pub record IsPlaced (best : List ℕ) (nearest : ℕ) (x : ℕ × ℕ) (before after : List (ℕ × ℕ)) (old new : List ℕ) : Type 0 where
  pub kept : x ≡ entry_of best x.1 → Contains after x ⊎ Contains new x.1
  pub stays : (y : ℕ × ℕ) → Contains before y → Contains after y
  pub queued : (y : ℕ × ℕ) → Contains after y → Contains before y ⊎ (y ≡ x)
  pub listed : (v : ℕ) → Contains old v → Contains new v
  pub taken : (v : ℕ) → Contains new v → Contains old v ⊎ (v ≡ x.1)
  pub more : length after ≤ length before + 1
  pub fewer : x.0 ≡ nearest → length after ≤ length before

-- the same of several entries, and a wave of their vertices
pub record IsSpread (best : List ℕ) (nearest : ℕ) (seen before after : List (ℕ × ℕ)) (wave : List ℕ) : Type 0 where
  pub kept : (x : ℕ × ℕ) → Contains seen x → x ≡ entry_of best x.1 → Contains after x ⊎ Contains wave x.1
  pub stays : (x : ℕ × ℕ) → Contains before x → Contains after x
  pub queued : (x : ℕ × ℕ) → Contains after x → Contains before x ⊎ Contains seen x
  pub taken : (v : ℕ) → Contains wave v → v < length best
  pub more : length after ≤ length before + length seen
  pub fewer : (x : ℕ × ℕ) → Contains seen x → x.0 ≡ nearest → length after < length before + length seen

-- a wave was taken out of a queue: each entry that holds is still there, or its vertex is in the wave
pub record IsWave (best : List ℕ) (before after : List (ℕ × ℕ)) (wave : List ℕ) : Type 0 where
  pub kept : (x : ℕ × ℕ) → Contains before x → x ≡ entry_of best x.1 → Contains after x ⊎ Contains wave x.1
  pub taken : (v : ℕ) → Contains wave v → v < length best
  pub left : (x : ℕ × ℕ) → Contains after x → Contains before x
  pub fewer : length after < length before
