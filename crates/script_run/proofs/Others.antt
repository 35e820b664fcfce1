-- Calls of others.
use Rattle.std.proofs.Common.{◌≡◌, ◌≢◌, ◌∙◌, ℕ, List, [], ◌∷◌, ◌++◌, length, length-append, refl, sym, ap, map, arith}
use Rattle.std.specs.List.{AllByRecursion}
use native.Mathlib.Decide.{ℕ_discrete}
use mathlib.Core.Logic.{dite}
use Rattle.turn_hall.specs.declared.entry.Entry.{Entry}
use Rattle.turn_hall.specs.Replay.{replay, entries_of}
use Rattle.turn_hall.specs.Seen.{StartsWith}
use Rattle.turn_hall.proofs.Histories.{replay-append}
use Rattle.turn_hall.proofs.Numbers.{entries-append}
use Rattle.turn_hall.proofs.Merging.{entries-here, later_none}
use Rattle.catalogue_state.specs.Step.{step}
use Rattle.catalogue_state.specs.State.{State, holds}
use Rattle.catalogue_state.specs.declared.ask.Ask.{Ask}
use Rattle.catalogue_state.specs.declared.reply.Reply.{Reply}
use Rattle.catalogue_state.proofs.Own.{held_stays_along}
use Rattle.catalogue_hall.specs.History.{named_of}

module _ {N R : Type 0} where
  empty : (xs : List (Entry N R)) → length xs ≡ 0 → xs ≡ []
  empty [] p = refl
  empty (x ∷ xs) p = absurd (omega arith)

  -- where a longer history has the same entries of a number, what was added has none
  pub none_added : (k : ℕ) (xs ys : List (Entry N R)) → entries_of k (xs ++ ys) ≡ entries_of k xs → entries_of k ys ≡ []
  none_added k xs ys same =
      let whole = ap length (sym (entries-append k xs ys) ∙ same) in
      let parts = length-append (entries_of k xs) (entries_of k ys) in
      empty (entries_of k ys) (omega arith)

-- what a number holds after a history stays where the history goes on without an entry of that number
holds_on : (start : State) (book more : List (Entry Ask Reply)) (who : ℕ) → entries_of who more ≡ []
    → map named_of (holds (replay step start (book ++ more)) who) ≡ map named_of (holds (replay step start book) who)
holds_on start book more who none =
    ap (λ s. map named_of (holds s who)) (replay-append step start book more)
    ∙ ap (map named_of) (held_stays_along (replay step start book) who more none)

-- a number holds the same after a longer history with the same entries of it
pub holds_longer : (start : State) (book all : List (Entry Ask Reply)) (who : ℕ) → StartsWith all book → entries_of who all ≡ entries_of who book
    → map named_of (holds (replay step start all) who) ≡ map named_of (holds (replay step start book) who)
holds_longer start book all who begins same =
    ap (λ l. map named_of (holds (replay step start l) who)) begins.1
    ∙ holds_on start book begins.0 who (none_added who book begins.0 (ap (entries_of who) (sym begins.1) ∙ same))

-- where entries are of no other number, they are of this one
pub all_own : (who : ℕ) (es : List (Entry Ask Reply)) → ((other : ℕ) → other ≢ who → entries_of other es ≡ []) → AllByRecursion (λ e. e.who ≡ who) es
all_own who [] none = tt
all_own who (e ∷ es) none = (
  dite (ℕ_discrete e.who who) (λ p. p) (λ p. absurd (let clash : ◌≡◌ {A = List (Entry Ask Reply)} (e ∷ entries_of e.who es) [] = sym (entries-here e es) ∙ none e.who p in cc)),
  all_own who es (λ other differ. later_none other (e ∷ []) es (none other differ)),
)

-- the same of what was added to a history
pub added_own : (who : ℕ) (book more all : List (Entry Ask Reply)) → all ≡ book ++ more → ((other : ℕ) → other ≢ who → entries_of other all ≡ entries_of other book)
    → AllByRecursion (λ e. e.who ≡ who) more
added_own who book more all is same = all_own who more (λ other differ. none_added other book more (ap (entries_of other) (sym is) ∙ same other differ))
