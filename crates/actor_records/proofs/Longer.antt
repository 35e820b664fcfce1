-- Agreement with longer histories.
use Rattle.std.proofs.Common.{◌≡◌, ℕ, Bool, true, false, List, [], ◌∷◌, ◌++◌, length, if◌then◌else◌, eqb, length-append, sym, refl, ap, ◌∙◌, arith}
use Rattle.turn_hall.specs.declared.entry.Entry.{Entry}
use Rattle.turn_hall.specs.Replay.{entries_of}
use Rattle.actor_records.specs.declared.record.Record.{Record}
use Rattle.actor_records.specs.Rules.{Rules}
use Rattle.actor_records.specs.Agreement.{Stand, Agrees, AgreesWith, fresh}
use Rattle.actor_records.proofs.Agreement.{agrees_other, locals_other}

module _ {N R : Type 0} where
  own_append : (b : Bool) (e : Entry N R) (xs ys zs : List (Entry N R)) → xs ≡ ys ++ zs → (if b then (e ∷ xs) else xs) ≡ (if b then (e ∷ ys) else ys) ++ zs
  own_append true e xs ys zs p = λ i. e ∷ p i
  own_append false e xs ys zs p = p

  pub entries_of-append : (w : ℕ) (xs ys : List (Entry N R)) → entries_of w (xs ++ ys) ≡ entries_of w xs ++ entries_of w ys
  entries_of-append w [] ys = refl
  entries_of-append w (x ∷ xs) ys = own_append (eqb x.who w) x (entries_of w (xs ++ ys)) (entries_of w xs) (entries_of w ys) (entries_of-append w xs ys)

  empty : (xs : List (Entry N R)) → length xs ≡ 0 → xs ≡ []
  empty [] p = refl
  empty (x ∷ xs) p = absurd (omega arith)

  -- where a longer history has the same entries of an actor, what was added has none
  none_added : (w : ℕ) (xs ys : List (Entry N R)) → entries_of w (xs ++ ys) ≡ entries_of w xs → entries_of w ys ≡ []
  none_added w xs ys same =
      let whole = ap length (sym (entries_of-append w xs ys) ∙ same) in
      let parts = length-append (entries_of w xs) (entries_of w ys) in
      empty (entries_of w ys) (omega arith)

module _ {S N R C A T M H : Type 0} (u : Rules S N R C A T M H) where
  -- records agree with every history that begins with this one and has the same entries of the actor
  pub agrees_longer : (w n : ℕ) (s : S) (at to : Stand M H) (es more : List (Entry N R)) (rs : List (Record N R C A T))
      → entries_of w (es ++ more) ≡ entries_of w es → Agrees u w n s at es rs to → Agrees u w n s at (es ++ more) rs to
  agrees_longer w n s at to es more rs same a = agrees_other u w n s at to es more rs (none_added w es more same) a

  -- who has no entry agrees by doing nothing
  pub agrees_none : (s : S) (m : M) (w : ℕ) (es : List (Entry N R)) → entries_of w es ≡ [] → AgreesWith u s m w es [] (fresh u w s m)
  agrees_none s m w es none = locals_other u w 0 s (fresh u w s m) (fresh u w s m) es [] none refl
