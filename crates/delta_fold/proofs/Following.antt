-- marks that follow changes
use Rattle.std.proofs.Common.{◌≡◌, ℕ, ◌+◌, ◌<◌, ◌≤◌, ◌||◌, not, List, [], ◌∷◌, ◌++◌, Option, Some, None, length, get_or, take, fold, refl, ap, sym, ◌∙◌, arith}
use Rattle.std.specs.Prelude.{nat_lt}
use Rattle.std.proofs.lemmas.Bool.Decides.{nat_tests}
use Rattle.std.proofs.lemmas.List.{take_more}
use Rattle.graph_model.specs.Graph.{GraphData, vertex_props_at, edge_props_at}
use Rattle.graph_model.specs.declared.change.Change.{Change}
use Rattle.graph_model.specs.declared.change.Change.TheVariants.{InsertVertex, DeleteVertex, InsertEdge, DeleteEdge, SetVertex, SetEdge}
use Rattle.graph_model.specs.declared.change.Why.{Why}
use Rattle.graph_model.specs.Change.{misfit, changed, changed_unless, apply}
use Rattle.graph_model.proofs.Zips.{no_cause}
use Rattle.graph_slots.specs.declared.slot.SlotName.{SlotName}
use Rattle.graph_slots.specs.Touched.{touches, touches_unless, touched, skips, skipped}
use Rattle.graph_slots.proofs.More.{schema_stays, touched_more, skipped_more}
use Rattle.graph_slots.specs.Numbers.{HasSlot}
use Rattle.delta_fold.specs.declared.marks.Marks.{Marks}
use Rattle.delta_fold.specs.Marked.{HasPlace, is_marked}
use Rattle.delta_fold.proofs.Set.{or_none}

-- a change that fits names a table and a property that are there
pub fits_place : (g : GraphData) (c : Change) → misfit g c ≡ None → HasPlace g.schema c
fits_place g (InsertVertex t k vs) e = let a = no_cause (not (nat_lt t (length g.schema.vertices))) _ _ e in grind (arith, nat_tests, a.0)
fits_place g (DeleteVertex t k) e = let a = no_cause (not (nat_lt t (length g.schema.vertices))) _ _ e in grind (arith, nat_tests, a.0)
fits_place g (InsertEdge t k s d vs) e = let a = no_cause (not (nat_lt t (length g.schema.edges))) _ _ e in grind (arith, nat_tests, a.0)
fits_place g (DeleteEdge t k) e = let a = no_cause (not (nat_lt t (length g.schema.edges))) _ _ e in grind (arith, nat_tests, a.0)
fits_place g (SetVertex t k p v) e =
    let a = no_cause (not (nat_lt t (length g.schema.vertices))) _ _ e in
    let b = no_cause (not (nat_lt p (length (vertex_props_at g.schema t)))) _ _ a.1 in
    (grind (arith, nat_tests, a.0), grind (arith, nat_tests, b.0))
fits_place g (SetEdge t k p v) e =
    let a = no_cause (not (nat_lt t (length g.schema.edges))) _ _ e in
    let b = no_cause (not (nat_lt p (length (edge_props_at g.schema t)))) _ _ a.1 in
    (grind (arith, nat_tests, a.0), grind (arith, nat_tests, b.0))

-- what was done so far
pub record Follows (g : GraphData) (changes : List Change) (graph : GraphData) (marks : Marks) (count : ℕ) : Type 0 where
  pub graph_is : graph ≡ fold apply g changes
  pub marks_are : (x : SlotName) → HasSlot g.schema x → is_marked g.schema marks x ≡ touched g changes x
  pub count_is : count ≡ skipped g changes

pub fold_push : (g : GraphData) (changes : List Change) (c : Change) → fold apply g (changes ++ c ∷ []) ≡ apply (fold apply g changes) c
fold_push g [] c = refl
fold_push g (x ∷ changes) c = fold_push (apply g x) changes c

apply_by : (g : GraphData) (c : Change) (why : Option Why) → misfit g c ≡ why → apply g c ≡ changed_unless why g c
apply_by g c why e = ap (λ o. changed_unless o g c) e

-- one more change that fits
pub follows_fit : (g : GraphData) (changes : List Change) (i : ℕ) (c : Change) (graph after : GraphData) (marks marked : Marks) (count : ℕ) → i < length changes → get_or changes i c ≡ c → Follows g (take i changes) graph marks count → misfit graph c ≡ None → after ≡ changed graph c → ((x : SlotName) → HasSlot g.schema x → is_marked g.schema marked x ≡ (is_marked g.schema marks x || touches g.schema c x)) → Follows g (take (i + 1) changes) after marked count
follows_fit g changes i c graph after marks marked count within is f fits made more =
    let more_is : take (i + 1) changes ≡ take i changes ++ c ∷ [] = take_more changes i c within ∙ ap (λ x. take i changes ++ x ∷ []) is in
    let now = fold apply g (take i changes) in
    let fits_now : misfit now c ≡ None = ap (λ h. misfit h c) (sym f.graph_is) ∙ fits in
    record {
      graph_is = made ∙ ap (λ h. changed h c) f.graph_is ∙ sym (apply_by now c None fits_now) ∙ sym (fold_push g (take i changes) c) ∙ ap (fold apply g) (sym more_is);
      marks_are = λ x has. more x has ∙ ap (λ b. b || touches g.schema c x) (f.marks_are x has)
          ∙ ap (λ s. touched g (take i changes) x || touches s c x) (sym (schema_stays g (take i changes)))
          ∙ ap (λ o. touched g (take i changes) x || touches_unless o now.schema c x) (sym fits_now)
          ∙ sym (touched_more g (take i changes) c x)
          ∙ ap (λ cs. touched g cs x) (sym more_is);
      count_is = omega (arith, f.count_is, skipped_more g (take i changes) c, ap skips fits_now, ap (skipped g) more_is);
    }

-- one more change that does not fit
pub follows_misfit : (g : GraphData) (changes : List Change) (i : ℕ) (c : Change) (graph after : GraphData) (marks : Marks) (count counted : ℕ) (why : Why) → i < length changes → get_or changes i c ≡ c → Follows g (take i changes) graph marks count → misfit graph c ≡ Some why → after ≡ graph → counted ≡ count + 1 → Follows g (take (i + 1) changes) after marks counted
follows_misfit g changes i c graph after marks count counted why within is f misfits same more =
    let more_is : take (i + 1) changes ≡ take i changes ++ c ∷ [] = take_more changes i c within ∙ ap (λ x. take i changes ++ x ∷ []) is in
    let now = fold apply g (take i changes) in
    let misfits_now : misfit now c ≡ Some why = ap (λ h. misfit h c) (sym f.graph_is) ∙ misfits in
    record {
      graph_is = same ∙ f.graph_is ∙ sym (apply_by now c (Some why) misfits_now) ∙ sym (fold_push g (take i changes) c) ∙ ap (fold apply g) (sym more_is);
      marks_are = λ x has. f.marks_are x has ∙ or_none (touched g (take i changes) x)
          ∙ ap (λ o. touched g (take i changes) x || touches_unless o now.schema c x) (sym misfits_now)
          ∙ sym (touched_more g (take i changes) c x)
          ∙ ap (λ cs. touched g cs x) (sym more_is);
      count_is = omega (arith, f.count_is, more, skipped_more g (take i changes) c, ap skips misfits_now, ap (skipped g) more_is);
    }

-- fewer are skipped than there are
skips_one : (o : Option Why) → skips o ≤ 1
skips_one None = omega arith
skips_one (Some why) = omega arith

pub skipped_few : (g : GraphData) (changes : List Change) → skipped g changes ≤ length changes
skipped_few g [] = omega arith
skipped_few g (c ∷ changes) = omega (arith, skips_one (misfit g c), skipped_few (apply g c) changes)
