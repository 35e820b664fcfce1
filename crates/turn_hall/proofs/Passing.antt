-- Passes after a call, a split and a join.
use Rattle.std.proofs.Common.{◌≡◌, ℕ, true, List, [], refl, sym, ◌∙◌, subst, Some}
use Rattle.atomic_table.specs.Table.{Me}
use Rattle.atomic_table.specs.Seated.{TableId}
use Rattle.turn_hall.specs.declared.entry.Entry.{Entry}
use Rattle.turn_hall.specs.declared.view.View.{View}
use Rattle.turn_hall.specs.Rule.{Joined}
use Rattle.turn_hall.specs.Steps.{after_call, after_split, made_pass, after_join}
use Rattle.turn_hall.specs.Handle.{IsPass, handle_of, split_root, joined_root}
use Rattle.turn_hall.proofs.Merging.{longer_keeps}

some_same : {A : Type 0} (x y : A) → Some x ≡ Some y → x ≡ y
some_same x y e = cc

module _ {S N R B : Type 0} (legal : S → List (Entry N R) → Type 0) (m m' : Me B (View S N R)) (who : ℕ) (is : IsPass legal m who) where
  pub pass_called : (seen : List (Entry N R)) → legal is.3.0 seen → m' ≡ (after_call m.0 seen, []) → IsPass legal m' who
  pass_called seen ok e = subst (λ (x : Me B (View S N R)). IsPass legal x who) (sym e) ((refl, refl, refl, is.0.3), is.1, is.2, (is.3.0, is.3.1, ok))

  pub pass_split : (k n : ℕ) → m.0.identity.root ≡ true → m' ≡ (after_split k n m.0, m.1) → IsPass legal m' who
  pass_split k n root e = subst (λ (x : Me B (View S N R)). IsPass legal x who) (sym e) ((is.0.0, is.0.1, is.0.2, refl), sym (is.2 root) ∙ is.1, (λ _. refl), is.3)

  pub pass_made : (k n : ℕ) → m' ≡ (made_pass k n m.0, []) → IsPass legal m' k
  pass_made k n e = subst (λ (x : Me B (View S N R)). IsPass legal x k) (sym e) ((refl, refl, refl, refl), refl, (λ no. absurd cc), is.3)

  -- the two come from one opening state, so the longer history is legal from it
  pub pass_joined : (w : Me B (View S N R)) (k : ℕ) → IsPass legal w k → Joined (after_join m.0 w.0).last_join → m.0.identity.root ≡ true → m' ≡ (after_join m.0 w.0, m.1) → IsPass legal m' who
  pass_joined w k its j root e =
      let one : is.3.0 ≡ its.3.0 = some_same is.3.0 its.3.0 (sym is.3.1 ∙ (j.same ∙ its.3.1)) in
      subst (λ (x : Me B (View S N R)). IsPass legal x who) (sym e) (
        (is.0.0, is.0.1, is.0.2, refl),
        sym (is.2 root) ∙ is.1,
        (λ _. refl),
        (is.3.0, is.3.1, longer_keeps (legal is.3.0) m.0.seen w.0.seen is.3.2 (subst (λ (x : S). legal x w.0.seen) (sym one) its.3.2)),
      )

-- the root's identity as contracts see it
module _ {S N R : Type 0} (hall : TableId) (v : View S N R) (root : v.identity.root ≡ true) (zeroth : v.identity.number ≡ 0) where
  pub handle_split : (k n : ℕ) → handle_of hall (after_split k n v) ≡ split_root k n (handle_of hall v)
  handle_split k n = λ i. record (split_root k n (handle_of hall v)) { number = sym zeroth i; root = sym root i }

  pub handle_joined : (w : View S N R) → handle_of hall (after_join v w) ≡ joined_root (handle_of hall v) (handle_of hall w)
  handle_joined w = λ i. record (joined_root (handle_of hall v) (handle_of hall w)) { number = sym zeroth i; root = sym root i }
