-- Two lists that begin one log, and the longer of them.
use Rattle.std.proofs.Common.{◌≡◌, ◌≢◌, ℕ, ◌≤◌, ◌⊎◌, Bool, true, false, List, [], ◌∷◌, ◌++◌, length, if◌then◌else◌, eqb, eq-eqb, ne_eqb, ltb, sym, refl, ap, ◌∙◌, inl, inr, ⊎_elim, arith, append-nil}
use Rattle.std.proofs.lemmas.Bool.{ltb-true, ltb-false}
use Rattle.std.proofs.lemmas.Bool.Decides.{eqb_tells}
use Rattle.turn_hall.specs.declared.entry.Entry.{Entry}
use Rattle.turn_hall.specs.Replay.{entries_of}
use Rattle.turn_hall.specs.Seen.{has, without, longer, StartsWith}
use Rattle.turn_hall.proofs.Numbers.{entries-append}

pub has_more : (k x : ℕ) (xs : List ℕ) → has k xs ≡ true → has k (x ∷ xs) ≡ true
has_more k x xs e = elim (eqb x k) as (λ b. (if b then true else has k xs) ≡ true) [ true ↦ refl | false ↦ e ]

pub has_first : (k : ℕ) (xs : List ℕ) → has k (k ∷ xs) ≡ true
has_first k xs = ap (λ (b : Bool). if b then true else has k xs) (eq-eqb k k refl)

pub has_less : (k x : ℕ) (xs : List ℕ) → has k (x ∷ xs) ≡ false → has k xs ≡ false
has_less k x xs = elim (eqb x k) as (λ b. (if b then true else has k xs) ≡ false → has k xs ≡ false) [ true ↦ (λ e. absurd cc) | false ↦ (λ e. e) ]

pub has_other : (k x : ℕ) (xs : List ℕ) → x ≢ k → has k (x ∷ xs) ≡ has k xs
has_other k x xs other = ap (λ (b : Bool). if b then true else has k xs) (ne_eqb x k other)

-- the others stay
pub has_without : (k n : ℕ) (xs : List ℕ) → k ≢ n → has k (without n xs) ≡ has k xs
has_without k n [] other = refl
has_without k n (x ∷ xs) other = let rest = has_without k n xs other in ⊎_elim
    (λ hit. ap (λ (b : Bool). has k (if b then without n xs else (x ∷ without n xs))) hit.0 ∙ (rest ∙ sym (ap (λ (b : Bool). if b then true else has k xs) (ne_eqb x k (λ e. other (sym e ∙ hit.1))))))
    (λ miss. ap (λ (b : Bool). has k (if b then without n xs else (x ∷ without n xs))) miss.0 ∙ ap (λ (r : Bool). if eqb x k then true else r) rest)
    (eqb_tells x n)

pub entries-here : {N R : Type 0} (e : Entry N R) (es : List (Entry N R)) → entries_of e.who (e ∷ es) ≡ e ∷ entries_of e.who es
entries-here e es = ap (λ (b : Bool). if b then (e ∷ entries_of e.who es) else entries_of e.who es) (eq-eqb e.who e.who refl)

module _ {A : Type 0} where
  pub meets : (xs ys us vs : List A) → xs ++ ys ≡ us ++ vs → length xs ≤ length us → (z : List A) × (us ≡ xs ++ z) × (ys ≡ z ++ vs)
  meets [] ys us vs e le = (us, refl, e)
  meets (x ∷ xs) ys [] vs e le = absurd (omega arith)
  meets (x ∷ xs) ys (u ∷ us) vs e le = let heads : u ≡ x = cc in let tails : xs ++ ys ≡ us ++ vs = cc in let m = meets xs ys us vs tails (omega arith) in
      (m.0, (λ i. heads i ∷ m.1 i), m.2)

  pub none_after : (xs ys : List A) → xs ++ ys ≡ [] → ys ≡ []
  none_after [] ys e = e
  none_after (x ∷ xs) ys e = absurd cc

  pub none_before : (xs ys : List A) → xs ++ ys ≡ [] → xs ≡ []
  none_before [] ys e = refl
  none_before (x ∷ xs) ys e = absurd cc

module _ {N R : Type 0} (k : ℕ) (xs ys : List (Entry N R)) (none : entries_of k (xs ++ ys) ≡ []) where
  pub later_none : entries_of k ys ≡ []
  later_none = none_after (entries_of k xs) (entries_of k ys) (sym (entries-append k xs ys) ∙ none)

  pub earlier_none : entries_of k xs ≡ []
  earlier_none = none_before (entries_of k xs) (entries_of k ys) (sym (entries-append k xs ys) ∙ none)

module _ {N R : Type 0} (k : ℕ) (xs ys : List (Entry N R)) (none : entries_of k ys ≡ []) where
  pub same_entries : entries_of k (xs ++ ys) ≡ entries_of k xs
  same_entries = entries-append k xs ys ∙ (ap (λ (l : List (Entry N R)). entries_of k xs ++ l) none ∙ append-nil (entries_of k xs))

-- the log begins with what the root has seen, and with what a pass of number n has; `out` are the numbers that the root does not know
module _ {N R : Type 0} (log mine its : List (Entry N R)) (n : ℕ) (out : List ℕ)
    (root : (rest : List (Entry N R)) × (log ≡ mine ++ rest) × ((k : ℕ) → has k out ≡ false → entries_of k rest ≡ []))
    (pass : (rest : List (Entry N R)) × (log ≡ its ++ rest) × (entries_of n rest ≡ [])) where
  abbrev Whole : Bool → List (Entry N R) → Type 0
  Whole b all = (StartsWith mine its ⊎ StartsWith its mine) × (entries_of n all ≡ entries_of n its) × ((k : ℕ) → has k out ≡ false → entries_of k all ≡ entries_of k mine)
      × ((rest : List (Entry N R)) × (log ≡ all ++ rest) × (entries_of n rest ≡ []) × ((k : ℕ) → has k out ≡ false → entries_of k rest ≡ []))

  whole_if : (b : Bool) → ltb (length mine) (length its) ≡ b → Whole b (if b then its else mine)
  whole_if true is = let lt = ltb-true (length mine) (length its) is in let m = meets mine root.0 its pass.0 (sym root.1 ∙ pass.1) (omega arith) in
      let none : (k : ℕ) → has k out ≡ false → entries_of k (m.0 ++ pass.0) ≡ [] = λ k free. ap (entries_of k) (sym m.2) ∙ root.2 k free in (
        inr (m.0, m.1),
        refl,
        (λ k free. ap (entries_of k) m.1 ∙ same_entries k mine m.0 (earlier_none k m.0 pass.0 (none k free))),
        (pass.0, pass.1, pass.2, λ k free. later_none k m.0 pass.0 (none k free)),
      )
  whole_if false is = let le = ltb-false (length mine) (length its) is in let m = meets its pass.0 mine root.0 (sym pass.1 ∙ root.1) le in
      let none : entries_of n (m.0 ++ root.0) ≡ [] = ap (entries_of n) (sym m.2) ∙ pass.2 in (
        inl (m.0, m.1),
        ap (entries_of n) m.1 ∙ same_entries n its m.0 (earlier_none n m.0 root.0 none),
        (λ k free. refl),
        (root.0, root.1, later_none n m.0 root.0 none, root.2),
      )

  pub whole : Whole true (longer mine its)
  whole = whole_if (ltb (length mine) (length its)) refl

-- what holds of two lists holds of the longer one
longer_if : {N R : Type 0} (P : List (Entry N R) → Type 0) (xs ys : List (Entry N R)) → P xs → P ys → (b : Bool) → P (if b then ys else xs)
longer_if P xs ys p q true = q
longer_if P xs ys p q false = p

pub longer_keeps : {N R : Type 0} (P : List (Entry N R) → Type 0) (xs ys : List (Entry N R)) → P xs → P ys → P (longer xs ys)
longer_keeps P xs ys p q = longer_if P xs ys p q (ltb (length xs) (length ys))
