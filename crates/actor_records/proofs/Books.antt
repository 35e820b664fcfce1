-- The entries that records stand for.
use Rattle.std.proofs.Common.{◌≡◌, ℕ, ◌+◌, Bool, true, false, List, [], ◌∷◌, ◌++◌, if◌then◌else◌, eqb, sym, refl, ap, ◌∙◌, append-nil}
use Rattle.std.specs.Bool.{MatchBool}
use Rattle.std.proofs.lemmas.List.Elements.{filter_map-append}
use Rattle.turn_hall.specs.declared.entry.Entry.{Entry}
use Rattle.turn_hall.specs.Replay.{entries_of}
use Rattle.actor_records.specs.declared.record.Record.{Record}
use Rattle.actor_records.specs.Records.{core_record, book_of, entry_of}
use Rattle.actor_records.specs.Rules.{Rules}
use Rattle.actor_records.specs.Agreement.{Stand, IsLocal, Reaches, Agrees, after_local, after_core}
use Rattle.actor_records.proofs.Agreement.{Behind}
use Rattle.actor_records.proofs.Owners.{locals_book}

module _ {N R C A T : Type 0} where
  pub book_of-append : (xs ys : List (Record N R C A T)) → book_of (xs ++ ys) ≡ book_of xs ++ book_of ys
  book_of-append xs ys = filter_map-append (λ r. entry_of r.who r.did) xs ys

  -- records made one after another stand for the calls made: one more core call
  pub made_core : (made : List (Record N R C A T)) (es : List (Entry N R)) (n : ℕ) (e : Entry N R) → book_of made ≡ es → book_of (made ++ core_record n e ∷ []) ≡ es ++ e ∷ []
  made_core made es n e same = book_of-append made (core_record n e ∷ []) ∙ ap (λ l. l ++ e ∷ []) same

  own_entries : (b : Bool) (e : Entry N R) (rs : List (Record N R C A T)) (es : List (Entry N R)) (P Q : Type 0) → (P → book_of rs ≡ e ∷ es) → (Q → book_of rs ≡ es)
      → MatchBool b P Q → book_of rs ≡ (if b then (e ∷ es) else es)
  own_entries true e rs es P Q f g x = f x
  own_entries false e rs es P Q f g x = g x

module _ {S N R C A T M H : Type 0} (u : Rules S N R C A T M H) where
  -- and one more that is no core call
  pub made_local : (made : List (Record N R C A T)) (es : List (Entry N R)) (w : ℕ) (at : Stand M H) (r : Record N R C A T) → IsLocal u w at r → book_of made ≡ es
      → book_of (made ++ r ∷ []) ≡ es
  made_local made es w at r h same =
      book_of-append made (r ∷ []) ∙ ap (λ l. book_of made ++ l) (locals_book u w at (after_local u at r.did) (r ∷ []) [] (h, refl)).0 ∙ append-nil (book_of made) ∙ same

  -- the core records of an actor are exactly its entries, in their order
  pub agrees_book : (w n : ℕ) (s : S) (at to : Stand M H) (es : List (Entry N R)) (rs : List (Record N R C A T)) → Agrees u w n s at es rs to → book_of rs ≡ entries_of w es
  agrees_book w n s at to [] rs a = ap book_of (sym (append-nil rs)) ∙ (locals_book u w at to rs [] a).0
  agrees_book w n s at to (e ∷ es) rs a =
      let t = (u.step s e.who e.note).1 in
      own_entries (eqb e.who w) e rs (entries_of w es) (Reaches u w (n + 1) at e rs (Behind u w (n + 1) t e es to)) (Agrees u w (n + 1) t at es rs to)
      (λ o. ap book_of o.parts ∙ (locals_book u w at o.here o.locals (core_record (n + 1) e ∷ o.more) o.before).0
      ∙ ap (λ l. e ∷ l) (agrees_book w (n + 1) t (after_core u w (n + 1) t o.here e) to es o.more o.behind))
      (λ o. agrees_book w (n + 1) t at to es rs o)
      a
