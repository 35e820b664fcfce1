-- Names and the order of their bytes.
use Rattle.std.proofs.Common.{◌≡◌, ℕ, zero, suc, Bool, true, false, cond, List, [], ◌∷◌, Some, None, refl, ap, sym, ◌∙◌, arith}
use Rattle.std.specs.Prelude.{◌≢◌}
use Rattle.std.specs.List.{All}
use Rattle.std.specs.Ordering.{nat_cmp, ordering_reverse, is_eq}
use Rattle.std.specs.Cmp.Lexicographic.{slice_cmp, nat_list_cmp_total, texts_ties, bytes_decides}
use Rattle.std.specs.declared.cmp.Ordering.{Ordering}
use Rattle.std.specs.declared.cmp.Ordering.TheVariants.{Less, Equal}
use Rattle.std.proofs.lemmas.Bool.{false≢true}
use Rattle.graph_schema.specs.Fault.{same_name}
use Rattle.transient_props.specs.Transients.{Transient, column_of, NamesRise}

-- ---- equal names

pub same : (m n : List ℕ) → same_name m n ≡ true → m ≡ n
same m n h = (bytes_decides m n).0 h

pub itself : (n : List ℕ) → same_name n n ≡ true
itself n = (bytes_decides n n).1 refl

pub differs : (m n : List ℕ) → same_name m n ≡ false → m ≢ n
differs m n h e = false≢true (sym h ∙ (bytes_decides m n).1 e)

false_unless_true : (b : Bool) → (b ≡ true → ⊥) → b ≡ false
false_unless_true false h = refl
false_unless_true true h = absurd (h refl)

pub not_same : (m n : List ℕ) → m ≢ n → same_name m n ≡ false
not_same m n h = false_unless_true (same_name m n) (λ t. h (same m n t))

-- ---- the order

abbrev pub Below : List ℕ → List ℕ → Type 0
Below m n = slice_cmp nat_cmp m n ≡ Less

-- the other way round the answer is turned round
pub turned : (m n : List ℕ) (r : Ordering) → slice_cmp nat_cmp m n ≡ r → slice_cmp nat_cmp n m ≡ ordering_reverse r
turned m n r h = nat_list_cmp_total.antisymm n m ∙ ap ordering_reverse h

pub below_trans : (l m n : List ℕ) → Below l m → Below m n → Below l n
below_trans l m n h k = nat_list_cmp_total.trans l m n h k

pub tied_same : (m n : List ℕ) → slice_cmp nat_cmp m n ≡ Equal → m ≡ n
tied_same m n h = same m n (texts_ties m n ∙ ap is_eq h)

pub below_differs : (m n : List ℕ) → Below m n → same_name m n ≡ false
below_differs m n h = texts_ties m n ∙ ap is_eq h

pub above_differs : (m n : List ℕ) → Below m n → same_name n m ≡ false
above_differs m n h = texts_ties n m ∙ ap is_eq (turned m n Less h)

-- ---- rising names

-- the name is below the names of all entries
abbrev pub BelowAll : List ℕ → List Transient → Type 0
BelowAll n ts = All (λ t. Below n t.name) ts

pub below_later : (t : Transient) (ts : List Transient) → NamesRise (t ∷ ts) → BelowAll t.name ts
below_later t ts rise i d within = rise zero (suc i) d (omega arith) (omega arith)

pub later_rise : (t : Transient) (ts : List Transient) → NamesRise (t ∷ ts) → NamesRise ts
later_rise t ts rise i j d lt within = rise (suc i) (suc j) d (omega arith) (omega arith)

pub below_first : (n : List ℕ) (t : Transient) (ts : List Transient) → BelowAll n (t ∷ ts) → Below n t.name
below_first n t ts below = below zero t (omega arith)

pub below_rest : (n : List ℕ) (t : Transient) (ts : List Transient) → BelowAll n (t ∷ ts) → BelowAll n ts
below_rest n t ts below i d within = below (suc i) d (omega arith)

-- a name below all names has no column
pub below_none : (n : List ℕ) (ts : List Transient) → BelowAll n ts → column_of ts n ≡ None
below_none n [] below = refl
below_none n (t ∷ ts) below =
    ap (λ b. cond b (Some t.column) (column_of ts n)) (above_differs n t.name (below_first n t ts below)) ∙ below_none n ts (below_rest n t ts below)
