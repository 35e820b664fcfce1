-- Where an id stands among rows that rise.
use Rattle.std.proofs.Common.{◌≡◌, ℕ, ◌<◌, ◌≤◌, List, Result, Ok, Err, sym, ap, arith, length, get_or, inl, inr}
use Rattle.std.specs.Prelude.{All, HoldsAt, IfSome, IfNone, ◌≢◌}
use Rattle.std.specs.List.Sorted.{IsSearchInRange, IsBinarySearchResult, IsNonDecreasingBy}
use Rattle.std.specs.Ordering.{nat_cmp, ordering_index}
use Rattle.std.specs.Result.{result_ok}
use Rattle.std.proofs.lemmas.Bool.{cases_lt}
use Rattle.std.proofs.lemmas.Bool.Decides.{nat_tests}
use Rattle.std.proofs.lemmas.Cmp.{ranked}
use Rattle.column_reclaim.specs.declared.row.RegistryRow.{RegistryRow}
use Rattle.column_reclaim.specs.Registry.{Rises}

module _ {T : Type 0} where
  comparisons_rise : (rows : List (RegistryRow T)) (id : ℕ) → Rises rows → IsNonDecreasingBy (λ r. ordering_index (nat_cmp r.id id)) rows
  comparisons_rise rows id up = λ i j d le lt.
      let ids_rise : (get_or rows i d).id ≤ (get_or rows j d).id = grind (arith, up i j d, λ (same : i ≡ j). ap (λ k. (get_or rows k d).id) same) in
      grind (arith, nat_tests, ids_rise)

  -- a binary search by id finds the place of the row that has it, where there is one
  pub searched : (rows : List (RegistryRow T)) (id : ℕ) (r : Result ℕ ℕ) → Rises rows → IsSearchInRange r (length rows) → IsBinarySearchResult (λ s. nat_cmp s.id id) rows r
      → record { within : IfSome (result_ok r) (λ k. k < length rows); found : IfSome (result_ok r) (HoldsAt (λ s. s.id ≡ id) rows); missing : IfNone (result_ok r) (All (λ s. s.id ≢ id) rows) }
  searched rows id (Ok k) up lt equal = record { within = lt; found = λ d. ranked _ id _ (sym (equal d)); missing = tt }
  searched rows id (Err k) up le parted =
      let parts = parted (comparisons_rise rows id up) in
      record {
        within = tt;
        found = tt;
        missing = λ j d lt same. elim (cases_lt j k) [
          | inl below ↦ let less : (get_or rows j d).id < id = ranked _ id _ (sym (parts.0 j d (omega arith) below)) in omega (arith, less, same)
          | inr from ↦ let more : id < (get_or rows j d).id = ranked _ id _ (sym (parts.1 j d from lt)) in omega (arith, more, same)
        ];
      }
