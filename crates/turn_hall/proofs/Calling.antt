-- What a call knows once it has the desk.
use Rattle.std.proofs.Common.{◌≡◌, ℕ, ◌<◌, List, [], ◌∷◌, ◌++◌, length, sym, ap, ◌∙◌, subst, Option, Some, None, append_assoc, append-nil, IfSome}
use Rattle.turn_hall.specs.declared.entry.Entry.{Entry}
use Rattle.turn_hall.specs.Replay.{replay, IsLegal, entries_of, EndsWith}
use Rattle.turn_hall.specs.declared.view.Identity.{Identity}
use Rattle.turn_hall.specs.declared.view.View.{View}
use Rattle.turn_hall.specs.Rule.{Begins, Knows}
use Rattle.turn_hall.specs.Steps.{SeatState, Acquired, with_ticket, with_desk}
use Rattle.turn_hall.specs.Steps.{ComesFrom}
use Rattle.turn_hall.specs.Seen.{own_part, Extends}
use Rattle.turn_hall.proofs.Numbers.{entries-append, entries-one}
use Rattle.turn_hall.proofs.Owns.{own_cut, own_ends}

module _ {S N R B : Type 0} (fits : S → B → Type 0) (book : B → List (Entry N R)) where
  abbrev held : List (ℕ × Option B) → Option B
  held [] = None
  held (x ∷ xs) = x.1

  some_same : (x y : B) → Some x ≡ Some y → x ≡ y
  some_same x y e = cc

  abbrev pub HasDesk : View S N R → ℕ → SeatState fits book → B → Type 0
  HasDesk v t m' b = (m'.0 ≡ with_desk (with_ticket v t) (book b)) × ((start : S) × (v.opening ≡ Some start) × fits start b) × Begins (book b) v.identity v.seen × Knows v.identity v.identity.number × (0 < v.left → length (book b) < 33554432)

  pub has_desk : (v : View S N R) (t : ℕ) (m m' : SeatState fits book) (b : B) → m ≡ (with_ticket v t, []) → Acquired fits book m m' → m'.1 ≡ (0, Some b) ∷ [] → HasDesk v t m' b
  has_desk v t m m' b drawn turn took =
      let s = subst (λ (x : SeatState fits book). Acquired fits book x m') drawn turn in
      let same : s.0 ≡ b = some_same s.0 b (ap held (sym (ap (λ (x : SeatState fits book). x.1) s.1) ∙ took)) in
      subst (HasDesk v t m') same (ap (λ (x : SeatState fits book). x.0) s.1, s.2, s.3, s.4, s.5)

module _ {S N R C : Type 0} (step : S → ℕ → N → R × S) (opening : S → S) where
  pub ready_turn : (may_ask : S → List (Entry N R) → C → Type 0) (ready : S → ℕ → C → Type 0)
      → ((s : S) (own more : List (Entry N R)) (who : ℕ) (call : C) → opening s ≡ s → IsLegal step s (own ++ more) → length (own ++ more) < 33554432 → EndsWith who own → entries_of who more ≡ [] → may_ask s own call → ready (replay step s (own ++ more)) who call)
      → (start state : S) (es seen : List (Entry N R)) (m : Identity) (who : ℕ) (call : C)
      → ComesFrom step opening start state es → Begins es m seen → Knows m m.number → m.number ≡ who → length es < 33554432 → may_ask start (own_part who seen) call → ready state who call
  ready_turn may_ask ready law start state es seen m who call stands begins knows whose short may =
      let own = own_part who seen in let cut = own_cut who seen in let more = cut.0 ++ begins.0 in
      let is : es ≡ own ++ more = begins.1 ∙ (ap (λ (l : List (Entry N R)). l ++ begins.0) cut.1 ∙ append_assoc own cut.0 begins.0) in
      let later : entries_of who begins.0 ≡ [] = ap (λ (k : ℕ). entries_of k begins.0) (sym whose) ∙ begins.2 m.number knows in
      let none : entries_of who more ≡ [] = entries-append who cut.0 begins.0 ∙ (ap (λ (l : List (Entry N R)). l ++ entries_of who begins.0) cut.2 ∙ later) in
      subst (λ (s : S). ready s who call) (ap (replay step start) (sym is) ∙ stands.3)
      (law start own more who call stands.0 (subst (IsLegal step start) is stands.2) (subst (λ (l : List (Entry N R)). length l < 33554432) is short) (own_ends who seen) none may)

module _ {N R : Type 0} where
  pub extends_turn : (m : Identity) (seen after es : List (Entry N R)) (e : Entry N R) → Begins es m seen → after ≡ es ++ e ∷ [] → Extends (Knows m) seen after e
  extends_turn m seen after es e begins grown = (begins.0, grown ∙ ap (λ (l : List (Entry N R)). l ++ e ∷ []) begins.1, begins.2)

  -- of the caller's number there is one more entry, where it knows all of its number
  pub own_turn : (Known : ℕ → Type 0) (seen after : List (Entry N R)) (e : Entry N R) (who : ℕ) → Known who → e.who ≡ who → Extends Known seen after e → entries_of who after ≡ entries_of who seen ++ e ∷ []
  own_turn Known seen after e who knows whose x = let none : entries_of who x.0 ≡ [] = x.2 who knows in
      ap (entries_of who) x.1 ∙ (entries-append who (seen ++ x.0) (e ∷ []) ∙ (ap (λ (l : List (Entry N R)). entries_of who (seen ++ x.0) ++ l) (entries-one who e whose)
      ∙ ap (λ (l : List (Entry N R)). l ++ e ∷ []) (entries-append who seen x.0 ∙ (ap (λ (l : List (Entry N R)). entries_of who seen ++ l) none ∙ append-nil (entries_of who seen)))))

pub if_some : {S : Type 0} (P : S → Type 0) (o : Option S) (start : S) → o ≡ Some start → P start → IfSome o P
if_some P o start is p = subst (λ z. IfSome z P) (sym is) p

pub of_some : {S : Type 0} (P : S → Type 0) (o : Option S) (start : S) → o ≡ Some start → IfSome o P → P start
of_some P o start is p = subst (λ z. IfSome z P) is p
