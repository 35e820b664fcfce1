-- Numbers and the entries that they have.
use Rattle.std.proofs.Common.{◌≡◌, ◌≢◌, ℕ, Bool, true, false, List, [], ◌∷◌, ◌++◌, if◌then◌else◌, eqb, eq-eqb, ne_eqb, sym, refl, ap, ◌∙◌, append_assoc}
use mathlib.Core.Option.{some}
use lib.ListN.{get_elem?}
use Rattle.turn_hall.specs.declared.entry.Entry.{Entry}
use Rattle.turn_hall.specs.Replay.{entries_of}
use Rattle.turn_hall.specs.declared.view.Identity.{Identity}
use Rattle.turn_hall.specs.Seen.{has}
use Rattle.turn_hall.specs.Rule.{Knows, Numbered, Begins}

module _ {N R : Type 0} where
  entries_if : (b : Bool) (e : Entry N R) (xs ys zs : List (Entry N R)) → xs ≡ ys ++ zs → (if b then (e ∷ xs) else xs) ≡ (if b then (e ∷ ys) else ys) ++ zs
  entries_if true e xs ys zs p = λ i. e ∷ p i
  entries_if false e xs ys zs p = p

  pub entries-append : (k : ℕ) (xs ys : List (Entry N R)) → entries_of k (xs ++ ys) ≡ entries_of k xs ++ entries_of k ys
  entries-append k [] ys = refl
  entries-append k (x ∷ xs) ys = entries_if (eqb x.who k) x (entries_of k (xs ++ ys)) (entries_of k xs) (entries_of k ys) (entries-append k xs ys)

  pub entries-none : (k : ℕ) (e : Entry N R) → e.who ≢ k → entries_of k (e ∷ []) ≡ []
  entries-none k e other = ap (λ (b : Bool). if b then (e ∷ []) else []) (ne_eqb e.who k other)

  pub entries-one : (k : ℕ) (e : Entry N R) → e.who ≡ k → entries_of k (e ∷ []) ≡ e ∷ []
  entries-one k e same = ap (λ (b : Bool). if b then (e ∷ []) else []) (eq-eqb e.who k same)

  pub begins_longer : (log seen : List (Entry N R)) (m : Identity) (e : Entry N R) → ((k : ℕ) → Knows m k → e.who ≢ k) → Begins log m seen → Begins (log ++ e ∷ []) m seen
  begins_longer log seen m e other b = (
    b.0 ++ e ∷ [],
    ap (λ (l : List (Entry N R)). l ++ e ∷ []) b.1 ∙ append_assoc seen b.0 (e ∷ []),
    λ k knows. entries-append k b.0 (e ∷ []) ∙ (ap (λ (l : List (Entry N R)). l ++ entries_of k (e ∷ [])) (b.2 k knows) ∙ entries-none k e (other k knows)),
  )

module _ (identities : List Identity) (r : Numbered identities) (id i : ℕ) (m n : Identity) (at : get_elem? identities id ≡ some m) (there : get_elem? identities i ≡ some n) (live : m.live ≡ true) (alive : n.live ≡ true) (apart : i ≢ id) where
  unlisted : (b : Bool) → m.root ≡ b → i ≡ 0 → n.root ≡ true → has m.number n.out ≡ false → ⊥
  unlisted true root first _ out = apart (first ∙ sym (r.root_is id m at root).0)
  unlisted false plain first root out = let there_first : get_elem? identities 0 ≡ some n = ap (λ (k : ℕ). get_elem? identities k) (sym first) ∙ there in
      let listed = r.listed id m n there_first at live plain in let clash : true ≡ false = sym listed ∙ out in absurd cc

  foreign_if : (b : Bool) → n.root ≡ b → (k : ℕ) → Knows n k → m.number ≢ k
  foreign_if true root k knows same = unlisted m.root refl (r.root_is i n there root).0 root (ap (λ (x : ℕ). has x n.out) same ∙ knows.0 root)
  foreign_if false plain k knows same = apart (sym (r.differ id i m n at there live alive (same ∙ knows.1 plain)))

  -- no other pass knows the entries of this number
  pub foreign : (k : ℕ) → Knows n k → m.number ≢ k
  foreign k knows = foreign_if n.root refl k knows
