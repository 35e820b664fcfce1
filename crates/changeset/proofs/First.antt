-- the first misfit
use Rattle.std.proofs.Common.{◌≡◌, ℕ, zero, suc, ◌+◌, ◌<◌, ◌≤◌, List, [], ◌∷◌, Option, Some, None, length, get_or, slice_get, drop, refl, ap, sym, ◌∙◌, arith, drop-cons}
use Rattle.graph_model.specs.Graph.{GraphData}
use Rattle.graph_model.specs.declared.change.Change.{Change}
use Rattle.graph_model.specs.declared.change.Why.{Why}
use Rattle.graph_model.specs.Change.{misfit, changed, changed_unless, apply, after}
use Rattle.graph_slots.specs.Touched.{skips, skipped}
use Rattle.changeset.specs.Misfit.{misfit_at, misfit_from, first_misfit}

-- ---- a loop's steps

-- what is left of a list after its first changes, all of which fit
abbrev pub Left : GraphData → List Change → ℕ → GraphData → Type 0
Left g changes i graph = first_misfit g changes ≡ misfit_from (i + 1) graph (drop i changes)

next_from : (changes : List Change) (i : ℕ) (c : Change) (n : ℕ) (graph : GraphData) → i < length changes → get_or changes i c ≡ c → misfit_from n graph (drop i changes) ≡ misfit_at n (misfit graph c) (misfit_from (n + 1) (apply graph c) (drop (i + 1) changes))
next_from changes i c n graph within is =
    ap (misfit_from n graph) (drop-cons changes i c within ∙ ap (λ x. x ∷ drop (suc i) changes) is)
    ∙ ap (λ k. misfit_at n (misfit graph c) (misfit_from (n + 1) (apply graph c) (drop k changes))) (let e : suc i ≡ i + 1 = omega arith in e)

pub left_more : (g : GraphData) (changes : List Change) (i : ℕ) (c : Change) (graph next : GraphData) → i < length changes → get_or changes i c ≡ c → Left g changes i graph → misfit graph c ≡ None → next ≡ changed graph c → Left g changes (i + 1) next
left_more g changes i c graph next within is so_far fits made =
    so_far ∙ next_from changes i c (i + 1) graph within is
    ∙ ap (λ o. misfit_at (i + 1) o (misfit_from (i + 1 + 1) (changed_unless o graph c) (drop (i + 1) changes))) fits
    ∙ ap (λ h. misfit_from (i + 1 + 1) h (drop (i + 1) changes)) (sym made)

pub left_found : (g : GraphData) (changes : List Change) (i : ℕ) (c : Change) (graph : GraphData) (why : Why) → i < length changes → get_or changes i c ≡ c → Left g changes i graph → misfit graph c ≡ Some why → first_misfit g changes ≡ Some (i + 1, why)
left_found g changes i c graph why within is so_far misfits =
    so_far ∙ next_from changes i c (i + 1) graph within is
    ∙ ap (λ o. misfit_at (i + 1) o (misfit_from (i + 1 + 1) (apply graph c) (drop (i + 1) changes))) misfits

-- ---- what it means

at_none : (n : ℕ) (o : Option Why) (later : Option (ℕ × Why)) → misfit_at n o later ≡ None → (o ≡ None) × (later ≡ None)
at_none n (Some why) later e = cc
at_none n None later e = (refl, e)

same_change : (a b : Change) → Some a ≡ Some b → a ≡ b
same_change a b e = cc

pub all_fit : (n : ℕ) (g : GraphData) (changes : List Change) → misfit_from n g changes ≡ None → (k : ℕ) (c : Change) → slice_get changes k ≡ Some c → misfit (after g changes k) c ≡ None
all_fit n g [] none k c there = cc
all_fit n g (x ∷ changes) none zero c there = ap (misfit g) (sym (same_change x c there)) ∙ (at_none n (misfit g x) _ none).0
all_fit n g (x ∷ changes) none (suc k) c there = all_fit (n + 1) (apply g x) changes (at_none n (misfit g x) _ none).1 k c there

abbrev place_or : ℕ → Option (ℕ × Why) → ℕ
place_or n None = n
place_or n (Some x) = x.0

abbrev why_or : Why → Option (ℕ × Why) → Why
why_or w None = w
why_or w (Some x) = x.1

same_place : (n m : ℕ) (v w : Why) → ◌≡◌ {A = Option (ℕ × Why)} (Some (n, v)) (Some (m, w)) → n ≡ m
same_place n m v w e = ap (place_or n) e

same_why : (n m : ℕ) (v w : Why) → ◌≡◌ {A = Option (ℕ × Why)} (Some (n, v)) (Some (m, w)) → v ≡ w
same_why n m v w e = ap (why_or v) e

-- a misfit stands at a place that is counted
starts_by : (n : ℕ) (o : Option Why) (later : Option (ℕ × Why)) (m : ℕ) (why : Why) → (later ≡ Some (m, why) → n + 1 ≤ m) → misfit_at n o later ≡ Some (m, why) → n ≤ m
starts_by n (Some w) later m why f e = omega (arith, same_place n m w why e)
starts_by n None later m why f e = omega (arith, f e)

starts_at : (n : ℕ) (g : GraphData) (changes : List Change) (m : ℕ) (why : Why) → misfit_from n g changes ≡ Some (m, why) → n ≤ m
starts_at n g [] m why e = cc
starts_at n g (x ∷ changes) m why e = starts_by n (misfit g x) _ m why (starts_at (n + 1) (apply g x) changes m why) e

before_by : (n : ℕ) (o : Option Why) (later : Option (ℕ × Why)) (m : ℕ) (why : Why) → misfit_at n o later ≡ Some (m, why) → n < m → (o ≡ None) × (later ≡ Some (m, why))
before_by n (Some w) later m why e small = absurd (omega (arith, same_place n m w why e))
before_by n None later m why e small = (refl, e)

pub before_fit : (n : ℕ) (g : GraphData) (changes : List Change) (m : ℕ) (why : Why) → misfit_from n g changes ≡ Some (m, why) → (k : ℕ) (c : Change) → k + n < m → slice_get changes k ≡ Some c → misfit (after g changes k) c ≡ None
before_fit n g [] m why e k c small there = cc
before_fit n g (x ∷ changes) m why e zero c small there = ap (misfit g) (sym (same_change x c there)) ∙ (before_by n (misfit g x) _ m why e (omega arith)).0
before_fit n g (x ∷ changes) m why e (suc k) c small there =
    before_fit (n + 1) (apply g x) changes m why (before_by n (misfit g x) _ m why e (omega arith)).1 k c (omega arith) there

here_by : (n : ℕ) (o : Option Why) (later : Option (ℕ × Why)) (why : Why) → (later ≡ Some (n, why) → ⊥) → misfit_at n o later ≡ Some (n, why) → o ≡ Some why
here_by n (Some w) later why f e = ap Some (same_why n n w why e)
here_by n None later why f e = absurd (f e)

pub at_misfit : (n : ℕ) (g : GraphData) (changes : List Change) (m : ℕ) (why : Why) → misfit_from n g changes ≡ Some (m, why) → (k : ℕ) (c : Change) → k + n ≡ m → slice_get changes k ≡ Some c → misfit (after g changes k) c ≡ Some why
at_misfit n g [] m why e k c place there = cc
at_misfit n g (x ∷ changes) m why e zero c place there =
    let same : m ≡ n = omega arith in
    ap (misfit g) (sym (same_change x c there))
    ∙ here_by n (misfit g x) (misfit_from (n + 1) (apply g x) changes) why (λ later. let few : n + 1 ≤ n = starts_at (n + 1) (apply g x) changes n why later in omega arith) (e ∙ ap (λ z. Some (z, why)) same)
at_misfit n g (x ∷ changes) m why e (suc k) c place there =
    at_misfit (n + 1) (apply g x) changes m why (before_by n (misfit g x) _ m why e (omega arith)).1 k c (omega arith) there

-- where each change fits none is skipped
pub none_skipped : (n : ℕ) (g : GraphData) (changes : List Change) → misfit_from n g changes ≡ None → skipped g changes ≡ 0
none_skipped n g [] none = refl
none_skipped n g (c ∷ changes) none =
    let both = at_none n (misfit g c) _ none in
    let here : skips (misfit g c) ≡ 0 = ap skips both.0 in
    omega (arith, here, none_skipped (n + 1) (apply g c) changes both.1)
