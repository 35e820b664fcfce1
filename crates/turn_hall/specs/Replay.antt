-- Histories: entries of a book, replayed from a state.
use Rattle.std.specs.Prelude.{◌≡◌, ℕ, List, [], ◌∷◌, if◌then◌else◌, eqb, ⊤}
use Rattle.turn_hall.specs.declared.entry.Entry.{Entry}

-- what `step` answers, and the state after it
module _ {S N R : Type 0} (step : S → ℕ → N → R × S) where
  -- the state after all entries
  abbrev pub replay : S → List (Entry N R) → S
  replay s [] = s
  replay s (e ∷ es) = replay (step s e.who e.note).1 es

  -- each entry has the reply that the step gives there
  abbrev pub IsLegal : S → List (Entry N R) → Type 0
  IsLegal s [] = ⊤
  IsLegal s (e ∷ es) = ((step s e.who e.note).0 ≡ e.reply) × IsLegal (step s e.who e.note).1 es

module _ {N R : Type 0} where
  abbrev pub entry : ℕ → N → R → Entry N R
  entry who note reply = record { who = who; note = note; reply = reply }

  -- the entries of one number
  abbrev pub entries_of : ℕ → List (Entry N R) → List (Entry N R)
  entries_of who [] = []
  entries_of who (e ∷ es) = if eqb e.who who then (e ∷ entries_of who es) else entries_of who es

  -- empty, or ends with an entry of this number
  abbrev pub EndsWith : ℕ → List (Entry N R) → Type 0
  EndsWith who [] = ⊤
  EndsWith who (e ∷ []) = e.who ≡ who
  EndsWith who (e ∷ f ∷ es) = EndsWith who (f ∷ es)
