-- The slot through each step.
use Rattle.std.proofs.Common.{◌≡◌, ◌≢◌, ℕ, Bool, true, false, List, [], ◌∷◌, ◌++◌, set, sym, refl, ap, ◌∙◌, inl, inr, ⊎_elim, Option, Some}
use mathlib.Core.Option.{some, none, some-injective, Option as Maybe}
use lib.ListN.{get_elem?}
use Rattle.atomic_table.proofs.Lists.{at_set, set_here, at_longer, at_snoc}
use Rattle.turn_hall.proofs.Indexed.{at_below}
use Rattle.turn_hall.specs.declared.entry.Entry.{Entry}
use Rattle.turn_hall.specs.declared.view.Holder.{Holder}
use Rattle.turn_hall.specs.Rule.{InSlot, holding, not_holding}

module _ {N R B : Type 0} (fits : B → Type 0) (book : B → List (Entry N R)) where
  pub queues : (queue : List ℕ) (log : List (Entry N R)) (homes : List (Maybe (Option B))) (holders : List (Holder N R)) (id : ℕ)
      → InSlot fits book queue log homes holders → InSlot fits book (queue ++ id ∷ []) log homes holders
  queues queue log homes holders id s = ⊎_elim inl (λ b. inr (b.0, at_longer queue (id ∷ []) 0 b.0 b.1, b.2, b.3, b.4)) s

  -- the first in the queue finds the desk at home
  pub finds_home : (queue : List ℕ) (log : List (Entry N R)) (homes : List (Maybe (Option B))) (holders : List (Holder N R)) (id : ℕ) (t : Holder N R)
      → get_elem? holders id ≡ some t → t.holds ≡ false → get_elem? queue 0 ≡ some id → InSlot fits book queue log homes holders
      → (b : B) × (homes ≡ some (Some b) ∷ []) × fits b × (log ≡ book b) × ((i : ℕ) (t : Holder N R) → get_elem? holders i ≡ some t → t.holds ≡ false)
  finds_home queue log homes holders id t at out first s = ⊎_elim (λ a. a)
      (λ b. let same : b.0 ≡ id = some-injective b.0 id (sym b.1 ∙ first) in
      let e : holding log ≡ t = some-injective (holding log) t (sym b.3 ∙ (ap (λ (k : ℕ). get_elem? holders k) same ∙ at)) in
      let clash : true ≡ false = ap (λ (x : Holder N R). x.holds) e ∙ out in absurd cc)
      s

  pub takes_home : (queue : List ℕ) (log : List (Entry N R)) (homes : List (Maybe (Option B))) (holders : List (Holder N R)) (id : ℕ) (t : Holder N R) (b : B)
      → get_elem? holders id ≡ some t → get_elem? queue 0 ≡ some id → homes ≡ some (Some b) ∷ [] → ((i : ℕ) (t : Holder N R) → get_elem? holders i ≡ some t → t.holds ≡ false)
      → InSlot fits book queue log (set homes 0 none) (set holders id (holding log))
  takes_home queue log homes holders id t b at first home nobody =
      inr (
        id,
        first,
        ap (λ (h : List (Maybe (Option B))). set h 0 none) home,
        set_here holders id (holding log) (at_below holders id t at),
        λ i u e on. ⊎_elim (λ here. here.0) (λ else. let clash : false ≡ true = sym (nobody i u else.1) ∙ on in absurd cc) (at_set holders id i (holding log) u e),
      )

  -- who has the turn is the first in the queue, and its book is the log
  pub held_by : (queue : List ℕ) (log : List (Entry N R)) (homes : List (Maybe (Option B))) (holders : List (Holder N R)) (id : ℕ) (old : List (Entry N R))
      → get_elem? holders id ≡ some (holding old) → InSlot fits book queue log homes holders
      → (get_elem? queue 0 ≡ some id) × (log ≡ old) × (homes ≡ none ∷ []) × ((i : ℕ) (t : Holder N R) → get_elem? holders i ≡ some t → t.holds ≡ true → i ≡ id)
  held_by queue log homes holders id old at s = ⊎_elim
      (λ a. let clash = a.4 id (holding old) at in absurd cc)
      (λ b. let same : id ≡ b.0 = b.4 id (holding old) at refl in (
        b.1 ∙ ap some (sym same),
        ap (λ (t : Holder N R). t.book) (some-injective (holding log) (holding old) (sym b.3 ∙ (ap (λ (k : ℕ). get_elem? holders k) (sym same) ∙ at))),
        b.2,
        λ i t e on. b.4 i t e on ∙ sym same,
      ))
      s

  others_off : (holders : List (Holder N R)) (id : ℕ) → ((i : ℕ) (t : Holder N R) → get_elem? holders i ≡ some t → t.holds ≡ true → i ≡ id) → (i : ℕ) (t : Holder N R) → i ≢ id → get_elem? holders i ≡ some t → (b : Bool) → t.holds ≡ b → b ≡ false
  others_off holders id only i t other at true is = absurd (other (only i t at is))
  others_off holders id only i t other at false is = refl

  pub gives_home : (queue : List ℕ) (homes : List (Maybe (Option B))) (holders : List (Holder N R)) (id : ℕ) (b : B)
      → fits b → homes ≡ none ∷ [] → ((i : ℕ) (t : Holder N R) → get_elem? holders i ≡ some t → t.holds ≡ true → i ≡ id)
      → InSlot fits book queue (book b) (set homes 0 (some (Some b))) (set holders id not_holding)
  gives_home queue homes holders id b fit empty only =
      inl (
        b,
        ap (λ (h : List (Maybe (Option B))). set h 0 (some (Some b))) empty,
        fit,
        refl,
        λ i t e. ⊎_elim (λ here. ap (λ (x : Holder N R). x.holds) (sym here.1)) (λ else. others_off holders id only i t else.0 else.1 t.holds refl) (at_set holders id i not_holding t e),
      )

  -- one more, who has no turn
  pub comes : (queue : List ℕ) (log : List (Entry N R)) (homes : List (Maybe (Option B))) (holders : List (Holder N R))
      → InSlot fits book queue log homes holders → InSlot fits book queue log homes (holders ++ not_holding ∷ [])
  comes queue log homes holders s = ⊎_elim
      (λ a. inl (a.0, a.1, a.2, a.3, λ i t e. ⊎_elim (λ old. a.4 i t old) (λ new. ap (λ (x : Holder N R). x.holds) (sym new)) (at_snoc holders not_holding t i e)))
      (λ b. inr (
        b.0,
        b.1,
        b.2,
        at_longer holders (not_holding ∷ []) b.0 (holding log) b.3,
        λ i t e on. ⊎_elim (λ old. b.4 i t old on) (λ new. let clash : false ≡ true = ap (λ (x : Holder N R). x.holds) new ∙ on in absurd cc) (at_snoc holders not_holding t i e),
      ))
      s
