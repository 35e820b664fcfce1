-- Where records stand in a journal.
use Rattle.std.specs.Prelude.{◌≡◌, ℕ, ◌+◌, ◌<◌, ◌⊎◌, ⊤, List, [], ◌∷◌, Option, Some, None, unwrap_or}
use Rattle.actor_records.specs.declared.record.Record.{Record}
use Rattle.actor_records.specs.Records.{place}

abbrev pub next_index : Option ℕ → ℕ → ℕ
next_index None index = index + 1
next_index (Some n) index = 0

module _ {N R C A T : Type 0} where
  -- by the core number at which they stand; at the same one by actors; and then by index, which is 0 for the core record
  abbrev pub Before : Record N R C A T → Record N R C A T → Type 0
  Before r q = (place r < place q) ⊎ ((place r ≡ place q) × ((r.who < q.who) ⊎ ((r.who ≡ q.who) × (r.index < q.index))))

  -- the place that is due: a core record tells 0 and 0, another the last core record, and counts on
  abbrev pub IsPlaced : Option ℕ → ℕ → ℕ → Record N R C A T → Type 0
  IsPlaced None after index r = (r.after ≡ after) × (r.index ≡ index + 1)
  IsPlaced (Some n) after index r = (r.after ≡ 0) × (r.index ≡ 0)

  -- the records of one actor tell their places, the last core record having the number `after` and `index` records behind it
  abbrev pub Placed : ℕ → ℕ → List (Record N R C A T) → Type 0
  Placed after index [] = ⊤
  Placed after index (r ∷ rs) = IsPlaced r.number after index r × Placed (unwrap_or r.number after) (next_index r.number index) rs
