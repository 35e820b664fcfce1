-- The walk over records that agree with one legal history is a journal.
use Rattle.std.proofs.Common.{◌≡◌, ℕ, zero, suc, ◌<◌, ◌⊎◌, inl, inr, Bool, true, false, List, [], ◌∷◌, ◌++◌, length, if◌then◌else◌, eqb, sym, refl, ap, ◌∙◌, subst, arith}
use Rattle.std.specs.List.{AllByRecursion, range_with_len}
use Rattle.std.proofs.lemmas.List.{get_or_past}
use Rattle.std.proofs.lemmas.List.Elements.{All-from_recursion}
use Rattle.turn_hall.specs.declared.entry.Entry.{Entry}
use Rattle.actor_records.specs.declared.record.Record.{Record}
use Rattle.actor_records.specs.Records.{of_who, parts_of}
use Rattle.actor_records.specs.Rules.{Rules}
use Rattle.actor_records.specs.Agreement.{fresh}
use Rattle.actor_records.specs.Order.{Placed}
use Rattle.actor_records.specs.Walk.{behind, walk_from, walk}
use Rattle.actor_records.specs.Journal.{IsActor, IsJournal, AreRecords, WalksToJournal}
use Rattle.actor_records.proofs.Firsts.{firsts, firsts_all, rises_range, none_else}
use Rattle.actor_records.proofs.Whole.{whole_runs}
use Rattle.actor_records.proofs.Owners.{of_who-same, whole_owners, whole_book}
use Rattle.actor_records.proofs.Order.{whole_order, whole_marked, agrees_placed}

actor_or_not : (n w : ℕ) → IsActor n w ⊎ ((w ≡ 0) ⊎ (n < w))
actor_or_not n zero = inr (inl refl)
actor_or_not zero (suc w) = inr (inr (omega arith))
actor_or_not (suc n) (suc w) = elim (actor_or_not n w) [
  | inl h ↦ let a = h.first in let b = h.last in inl (record { first = omega arith; last = omega arith })
  | inr h ↦ elim h [
    | inl z ↦ inl (record { first = omega arith; last = omega arith })
    | inr past ↦ inr (inr (omega arith))
  ]
]

module _ {N R C A T : Type 0} where
  nothing_kept : (b : Bool) (r : Record N R C A T) (rs : List (Record N R C A T)) → (if b then (r ∷ rs) else rs) ≡ [] → rs ≡ []
  nothing_kept true r rs h = absurd cc
  nothing_kept false r rs h = h

  -- where only actors have records, each record is an actor's
  all_known : (n : ℕ) (J : List (Record N R C A T)) → ((w : ℕ) → (w ≡ 0) ⊎ (n < w) → of_who w J ≡ []) → AllByRecursion (λ r. IsActor n r.who) J
  all_known n [] none = tt
  all_known n (r ∷ rs) none = (
    elim (actor_or_not n r.who) [ inl is ↦ is | inr not ↦ (let clash : r ∷ of_who r.who rs ≡ [] = sym (of_who-same r.who r rs refl) ∙ none r.who not in absurd cc) ],
    all_known n rs (λ w not. nothing_kept (eqb r.who w) r (of_who w rs) (none w not)),
  )

  no_part : (records : List (List (Record N R C A T))) (w : ℕ) → (w ≡ 0) ⊎ (length records < w) → parts_of records w ≡ []
  no_part records zero not = refl
  no_part records (suc k) not = get_or_past records k [] (elim not [ inl z ↦ omega arith | inr past ↦ omega arith ])

module _ {S N R C A T M H : Type 0} (u : Rules S N R C A T M H) (start : S) (minds : ℕ → M) (Finished : M → Type 0) where
  pub walks_to_journal : (history : List (Entry N R)) (records : List (List (Record N R C A T)))
      → AreRecords u start minds Finished history records → WalksToJournal u start minds Finished history records
  walks_to_journal history records r =
      let parts = parts_of records in
      let actors = range_with_len 1 (length records) in
      let rises = rises_range 1 (length records) in
      let J = firsts actors parts ++ walk_from history (λ w. behind (parts w)) in
      let same : J ≡ walk history records = ap (λ l. l ++ walk_from history (λ w. behind (parts w))) (firsts_all records) in
      let runs = whole_runs u start minds history parts r.stands r.agrees actors rises (none_else records) r.legal in
      let owners = whole_owners u start minds history parts r.stands r.agrees actors rises (none_else records) in
      let book = whole_book u start minds history parts r.stands r.agrees actors in
      let made : IsJournal u start minds Finished (length records) history J = record {
        proper = record {
          numbered = book.1 ∙ ap (λ es. range_with_len 1 (length es)) (sym book.0);
          marked = whole_marked u start minds history parts r.stands r.agrees actors;
          due = runs.due;
          finished = λ w. subst Finished (sym (runs.minds w)) (r.finished w);
          placed = λ w. subst (Placed 0 0) (sym (owners w)) (agrees_placed u w 0 start (fresh u w start (minds w)) (r.stands w) history (parts w) (r.agrees w));
          known = All-from_recursion (λ r. IsActor (length records) r.who) J (all_known (length records) J (λ w not. owners w ∙ no_part records w not));
          order = whole_order u start minds history parts r.stands r.agrees actors rises;
        };
        replies = runs.replies;
        books = book.0;
        legal = r.legal;
        state = runs.state;
      } in
      record {
        journal = subst (λ J. IsJournal u start minds Finished (length records) history J) same made;
        kept = subst (λ J. (w : ℕ) → of_who w J ≡ parts w) same owners;
      }
