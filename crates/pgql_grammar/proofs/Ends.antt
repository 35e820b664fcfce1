-- A parser of a whole text answers a tree exactly where one is spelled, and else the first fault.
use Rattle.std.proofs.Common.{◌≡◌, ◌⊎◌, inl, inr, ℕ, suc, ◌+◌, ◌-◌, ◌<◌, ◌≤◌, arith, Bool, true, false, List, [], ◌∷◌, ◌++◌, length, take, Ok, Err, refl, sym, ap, subst, ◌∙◌, append_assoc, length-append}
use Rattle.std.proofs.lemmas.List.{append-nil}
use Rattle.std.proofs.Math.Seq.{take-append_seam}
use Rattle.pgql_grammar.specs.declared.piece.Piece.{Piece}
use Rattle.pgql_grammar.specs.declared.piece.Sym.{Sym}
use Rattle.pgql_grammar.specs.declared.piece.Sym.TheVariants.{End}
use Rattle.pgql_grammar.specs.Language.{Lang}
use Rattle.pgql_grammar.specs.Reading.{Parser}
use Rattle.pgql_grammar.specs.Sorts.{is}
use Rattle.pgql_grammar.specs.Faults.{Begins, FirstFault}
use Rattle.pgql_grammar.proofs.Good.{Took, Begun, Plain, ok_pair}
use Rattle.pgql_grammar.proofs.Fitting.{Fits, piece}

-- the pieces behind what was read, in a text that ends with its one end
abbrev Split : List Piece → Piece → List Piece → Piece → List Piece → Type 0
Split words end u x r = ((more : List Piece) × (words ≡ u ++ x ∷ more)) ⊎ (u ≡ words) × (x ≡ end) × (r ≡ [])

heads : (x y : Piece) (r s : List Piece) → x ∷ r ≡ y ∷ s → (x ≡ y) × (r ≡ s)
heads x y r s e = (cc, cc)

apart : (b : Bool) → b ≡ true → b ≡ false → ⊥
apart b e h = cc

split : (words : List Piece) (end : Piece) (u : List Piece) (x : Piece) (r : List Piece) → is End end.sym ≡ true → Plain u → words ++ end ∷ [] ≡ u ++ x ∷ r → Split words end u x r
split [] end [] x r is_end plain e = let h = heads end x [] r e in inr (refl, sym h.0, sym h.1)
split (w ∷ words) end [] x r is_end plain e = let h = heads w x (words ++ end ∷ []) r e in inl (words, ap (λ y. y ∷ words) h.0)
split [] end (y ∷ u) x r is_end plain e =
    let h = heads end y [] (u ++ x ∷ r) e in
    absurd (apart (is End y.sym) (ap (λ (z : Piece). is End z.sym) (sym h.0) ∙ is_end) plain.0)
split (w ∷ words) end (y ∷ u) x r is_end plain e =
    let h = heads w y (words ++ end ∷ []) (u ++ x ∷ r) e in
    elim (split words end u x r is_end plain.1 h.1) [
      | inl t ↦ inl (t.0, ap (λ z. z ∷ words) h.0 ∙ ap (λ (l : List Piece). y ∷ l) t.1)
      | inr t ↦ inr (ap (λ z. z ∷ u) (sym h.0) ∙ ap (λ (l : List Piece). w ∷ l) t.0, t.1, t.2)
    ]

not_plain : (words : List Piece) (end : Piece) → is End end.sym ≡ true → Plain (words ++ end ∷ []) → ⊥
not_plain [] end is_end plain = apart (is End end.sym) is_end plain.0
not_plain (w ∷ words) end is_end plain = not_plain words end is_end plain.1

-- readers of nested expressions, by the depth
pub record Family {A : Type 0} (p : ℕ → Parser A) (L : ℕ → Lang A) (first stop : Sym → Bool) : Type 0 where
  pub fits : (k n m : ℕ) → k ≤ n → n ≤ m → Fits k (p n) (p m) (L n) (L m) first stop
  pub stops : (x : Piece) → is End x.sym ≡ true → stop x.sym ≡ true

module _ {A : Type 0} (p : ℕ → Parser A) (L : ℕ → Lang A) (first stop : Sym → Bool) (family : Family p L first stop)
    (words : List Piece) (end : Piece) (is_end : is End end.sym ≡ true) (plain : Plain words) (n : ℕ) (enough : length words < n) where
  abbrev pub Any : Lang A
  Any ts a = (depth : ℕ) × L depth ts a

  abbrev full : List Piece
  full = words ++ end ∷ []

  -- what is a word, with an end behind it, is read at a depth that is enough
  deep : (depth : ℕ) (u : List Piece) (a : A) → L depth u a → p (depth + n) (u ++ end ∷ []) ≡ Ok (a, end ∷ [])
  deep depth u a h = (family.fits 0 (depth + n) (depth + n) (omega arith) (omega arith)).takes.takes u (end ∷ []) a ((family.fits 0 depth (depth + n) (omega arith) (omega arith)).wide.at u a h) (family.stops end is_end)

  regroup : (u more : List Piece) (x : Piece) → ((u ++ x ∷ []) ++ more) ++ end ∷ [] ≡ u ++ x ∷ (more ++ end ∷ [])
  regroup u more x = ap (λ (l : List Piece). l ++ end ∷ []) (append_assoc u (x ∷ []) more) ∙ append_assoc u (x ∷ more) (end ∷ [])

  no_more_after_fault : (u r : List Piece) (x : Piece) → length u < n → p n (u ++ x ∷ r) ≡ Err (x ∷ r) → Begins Any (u ++ x ∷ []) → ⊥
  no_more_after_fault u r x few e b =
      let depth = b.2.0 in
      let read_it = deep depth ((u ++ x ∷ []) ++ b.0) b.1 b.2.1 in
      let fails = (family.fits (suc (length u)) n (depth + n) (omega arith) (omega arith)).same.err u r (b.0 ++ end ∷ []) x (omega arith) e in
      let both = sym read_it ∙ ap (p (depth + n)) (regroup u b.0 x) ∙ fails in
      cc

  no_tree_after_fault : p n full ≡ Err (end ∷ []) → (a : A) → Any words a → ⊥
  no_tree_after_fault e a h =
      let depth = h.0 in
      let read_it = deep depth words a h.1 in
      let fails = (family.fits (suc (length words)) n (depth + n) (omega arith) (omega arith)).same.err words [] [] end (omega arith) e in
      let both = sym read_it ∙ fails in
      cc

  no_more_after_word : (u r : List Piece) (x : Piece) (a : A) → length u < n → is End x.sym ≡ false → p n (u ++ x ∷ r) ≡ Ok (a, x ∷ r) → Begins Any (u ++ x ∷ []) → ⊥
  no_more_after_word u r x a few inside e b =
      let depth = b.2.0 in
      let read_it = deep depth ((u ++ x ∷ []) ++ b.0) b.1 b.2.1 in
      let again = (family.fits (suc (length u)) n (depth + n) (omega arith) (omega arith)).same.ok u r (b.0 ++ end ∷ []) x a (omega arith) e in
      let rests = ok_pair a b.1 (x ∷ (b.0 ++ end ∷ [])) (end ∷ []) (p (depth + n) (u ++ x ∷ (b.0 ++ end ∷ []))) again (ap (p (depth + n)) (sym (regroup u b.0 x)) ∙ read_it) in
      apart (is End x.sym) (ap (λ (z : Piece). is End z.sym) (heads x end _ [] rests.1).0 ∙ is_end) inside

  -- ---- the places of a fault

  abbrev place : List Piece → ℕ
  place rest = length full - length rest

  at_u : (u r : List Piece) (x : Piece) → full ≡ u ++ x ∷ r → place (x ∷ r) ≡ length u
  at_u u r x e = omega (arith, ap length e, length-append u (x ∷ r))

  few_in : (u r : List Piece) (x : Piece) → full ≡ u ++ x ∷ r → length u < n
  few_in u r x e = omega (arith, ap length e, length-append u (x ∷ r), length-append words (end ∷ []))

  take_one : (u more : List Piece) (x : Piece) → take (length u + 1) (u ++ x ∷ more) ≡ u ++ x ∷ []
  take_one u more x =
      let size : length u + 1 ≡ length (u ++ x ∷ []) = omega (arith, length-append u (x ∷ [])) in
      ap (λ k. take k (u ++ x ∷ more)) size ∙ ap (take (length (u ++ x ∷ []))) (sym (append_assoc u (x ∷ []) more)) ∙ take-append_seam (u ++ x ∷ []) more

  inside_words : (u more : List Piece) (x : Piece) → words ≡ u ++ x ∷ more → is End x.sym ≡ false
  inside_words u more x e = nth u (subst (λ (l : List Piece). Plain l) e plain)
    where
      nth : (v : List Piece) → Plain (v ++ x ∷ more) → is End x.sym ≡ false
      nth [] h = h.0
      nth (y ∷ v) h = nth v h.1

  fault_within : (u more : List Piece) (x : Piece) (k : ℕ) → k ≡ length u → words ≡ u ++ x ∷ more → Begins Any u → (Begins Any (u ++ x ∷ []) → ⊥) → FirstFault Any words k
  fault_within u more x k at e before after = record {
    before = subst (λ (l : List Piece). Begins Any l) (sym (ap (λ j. take j words) at ∙ ap (take (length u)) e ∙ take-append_seam u (x ∷ more))) before;
    there = inl (
      omega (arith, ap length e, length-append u (x ∷ more)),
      λ b. after (subst (λ (l : List Piece). Begins Any l) (ap (λ j. take (j + 1) words) at ∙ ap (take (length u + 1)) e ∙ take_one u more x) b),
    );
  }

  fault_at_end : (k : ℕ) → k ≡ length words → Begins Any words → ((a : A) → Any words a → ⊥) → FirstFault Any words k
  fault_at_end k at before none = record {
    before = subst (λ (l : List Piece). Begins Any l) (sym (ap (λ j. take j words) at ∙ ap (take (length words)) (sym (append-nil words)) ∙ take-append_seam words [])) before;
    there = inr (at, none);
  }

  -- where the parser itself fails
  pub fault : (rest : List Piece) → p n full ≡ Err rest → FirstFault Any words (place rest)
  fault rest e = by rest ((family.fits 0 n n (omega arith) (omega arith)).good.begun full rest e) e
    where
      by : (r : List Piece) → Begun (L n) full r → p n full ≡ Err r → FirstFault Any words (place r)
      by [] b h = absurd (not_plain words end is_end (subst (λ (l : List Piece). Plain l) (sym (b.3 ∙ append-nil b.0)) b.5))
      by (x ∷ r) b h =
          let began : Begins Any b.0 = (b.1, b.2, (n, b.4)) in
          elim (split words end b.0 x r is_end b.5 b.3) [
            | inl t ↦ fault_within b.0 t.0 x (place (x ∷ r)) (at_u b.0 r x b.3) t.1 began (no_more_after_fault b.0 r x (few_in b.0 r x b.3) (ap (p n) (sym b.3) ∙ h))
            | inr t ↦ fault_at_end (place (x ∷ r)) (at_u b.0 r x b.3 ∙ ap length t.0) (subst (λ (l : List Piece). Begins Any l) t.0 began)
                (no_tree_after_fault (h ∙ ap (λ (l : List Piece). Err l) (ap (λ z. z ∷ r) t.1 ∙ ap (λ (l : List Piece). end ∷ l) t.2)))
          ]

  -- where it read a word, and the text goes on
  pub late : (a : A) (x : Piece) (r : List Piece) → is End x.sym ≡ false → p n full ≡ Ok (a, x ∷ r) → FirstFault Any words (place (x ∷ r))
  late a x r inside e =
      let b : Took (L n) full a (x ∷ r) = (family.fits 0 n n (omega arith) (omega arith)).good.sound full (x ∷ r) a e in
      let began : Begins Any b.0 = ([], a, (n, subst (λ (l : List Piece). L n l a) (sym (append-nil b.0)) b.2)) in
      elim (split words end b.0 x r is_end b.3 b.1) [
        | inl t ↦ fault_within b.0 t.0 x (place (x ∷ r)) (at_u b.0 r x b.1) t.1 began (no_more_after_word b.0 r x a (few_in b.0 r x b.1) inside (ap (p n) (sym b.1) ∙ e))
        | inr t ↦ absurd (apart (is End x.sym) (ap (λ (z : Piece). is End z.sym) t.1 ∙ is_end) inside)
      ]

  pub whole : (a : A) (x : Piece) (r : List Piece) → is End x.sym ≡ true → p n full ≡ Ok (a, x ∷ r) → Any words a
  whole a x r ends e =
      let b : Took (L n) full a (x ∷ r) = (family.fits 0 n n (omega arith) (omega arith)).good.sound full (x ∷ r) a e in
      elim (split words end b.0 x r is_end b.3 b.1) [
        | inl t ↦ absurd (apart (is End x.sym) ends (inside_words b.0 t.0 x t.1))
        | inr t ↦ (n, subst (λ (l : List Piece). L n l a) t.0 b.2)
      ]

  pub never_empty : (a : A) → p n full ≡ Ok (a, []) → ⊥
  never_empty a e =
      let b : Took (L n) full a [] = (family.fits 0 n n (omega arith) (omega arith)).good.sound full [] a e in
      not_plain words end is_end (subst (λ (l : List Piece). Plain l) (sym (b.1 ∙ append-nil b.0)) b.3)

-- at most one value
module _ {A : Type 0} (p : ℕ → Parser A) (L : ℕ → Lang A) (first stop : Sym → Bool) (family : Family p L first stop) (words : List Piece) where
  read_at : (n d : ℕ) (a : A) → n ≤ d → L n words a → stop End ≡ true → p d (words ++ piece End ∷ []) ≡ Ok (a, piece End ∷ [])
  read_at n d a h w e = (family.fits 0 d d (omega arith) (omega arith)).takes.takes words (piece End ∷ []) a ((family.fits 0 n d (omega arith) h).wide.at words a w) e

  pub one_value : (a b : A) (n m : ℕ) → L n words a → L m words b → a ≡ b
  unfolding is
  one_value a b n m h i =
      let ends = family.stops (piece End) refl in
      (ok_pair a b (piece End ∷ []) (piece End ∷ []) (p (n + m) (words ++ piece End ∷ [])) (read_at n (n + m) a (omega arith) h ends) (read_at m (n + m) b (omega arith) i ends)).0
