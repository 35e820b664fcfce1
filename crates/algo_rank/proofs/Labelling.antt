-- vertices of a block get their label, one after another; a block as a part of the path
use Rattle.std.proofs.Common.{◌≡◌, ◌≢◌, ℕ, ◌+◌, ◌-◌, ◌<◌, ◌≤◌, inl, inr, List, [], ◌∷◌, ◌++◌, length, take, drop, set, slice_index, slice_index_or, refl, ap, sym, ◌∙◌, subst, arith, get_or-set_same, get_or-set_other}
use Rattle.std.specs.Prelude.{Contains, AllPairs}
use Rattle.std.proofs.lemmas.Bool.{cases_eq}
use Rattle.std.proofs.lemmas.List.{length-set, length-drop, length_push, get_or-drop, get_or_default, get_or_append_left, get_or_push, take_more}
use Rattle.std.proofs.lemmas.List.Sums.{sum_by-set}
use Rattle.std.proofs.lemmas.List.Elements.{Contains-append_left, Contains-push, Contains-push_cases}
use Rattle.algo_rank.specs.declared.search.Stage.{Stage}
use Rattle.algo_rank.specs.declared.search.Stage.TheVariants.{Unseen, Closed}
use Rattle.algo_rank.specs.Search.{stage_of, unseen, IsFrom, IsLabelling, IsLeast}

-- ---- labels

pub labelling_none : (label : ℕ) (stages : List Stage) → IsLabelling (Contains []) label stages stages
labelling_none label stages = record {
  long = refl;
  count = omega arith;
  set = λ v h. absurd (omega (arith, h.1));
  kept = λ v out. refl;
}

-- the label of one vertex more
module _ (block : List ℕ) (i label : ℕ) (old mid : List Stage) (lt : i < length block) (so : IsLabelling (Contains (take i block)) label old mid)
    (within : slice_index block i < length old) where
  abbrev here : ℕ
  here = slice_index block i

  abbrev next : List Stage
  next = set mid (slice_index block i) (Closed label)

  inside : here < length mid
  inside = omega (arith, within, so.long)

  at_here : stage_of next here ≡ Closed label
  at_here = get_or-set_same mid here (Closed label) Unseen inside

  elsewhere : (v : ℕ) → v ≢ here → stage_of next v ≡ stage_of mid v
  elsewhere v ne = get_or-set_other mid here v (Closed label) Unseen ne

  split : take (i + 1) block ≡ take i block ++ here ∷ []
  split = take_more block i 0 lt

  set_on : (v : ℕ) → Contains (take i block ++ here ∷ []) v → stage_of next v ≡ Closed label
  set_on v h =
      elim (cases_eq v here) [
        | inl same ↦ ap (stage_of next) same ∙ at_here
        | inr ne ↦
            elim (Contains-push_cases (take i block) here v h) [
              | inl before ↦ elsewhere v ne ∙ so.set v before
              | inr same ↦ absurd (ne (sym same))
            ]
      ]

  kept_on : (v : ℕ) → (Contains (take i block ++ here ∷ []) v → ⊥) → stage_of next v ≡ stage_of old v
  kept_on v out =
      elsewhere v (λ same. out (subst (Contains (take i block ++ here ∷ [])) (sym same) (Contains-push (take i block) here)))
      ∙ so.kept v (λ before. out (Contains-append_left (take i block) (here ∷ []) v before))

  more : IsLabelling (Contains (take i block ++ here ∷ [])) label old next
  more = record {
    long = length-set mid here (Closed label) ∙ so.long;
    count = omega (arith, so.count, sum_by-set unseen mid here (Closed label) Unseen inside);
    set = set_on;
    kept = kept_on;
  }

  pub labelling_more : IsLabelling (Contains (take (i + 1) block)) label old (set mid (slice_index block i) (Closed label))
  labelling_more = subst (λ xs. IsLabelling (Contains xs) label old next) (sym split) more

-- ---- a part of the path

pub from_drop : (path : List ℕ) (place v : ℕ) → Contains (drop place path) v → IsFrom path place v
from_drop path place v h =
    let lt : place + h.0 < length path = omega (arith, h.1, length-drop place path) in
    (place + h.0, omega arith, lt, get_or_default path (place + h.0) 0 v lt ∙ sym (get_or-drop place path h.0 v) ∙ h.2)

pub drop_from : (path : List ℕ) (place v : ℕ) → IsFrom path place v → Contains (drop place path) v
drop_from path place v h =
    let same : place + (h.0 - place) ≡ h.0 = omega (arith, h.1) in
    (h.0 - place, omega (arith, h.1, h.2, length-drop place path), get_or-drop place path (h.0 - place) v ∙ ap (λ k. slice_index_or path k v) same ∙ get_or_default path h.0 v 0 h.2 ∙ h.3)

module _ (path : List ℕ) (place label : ℕ) where
  pub labelling_from : (old new : List Stage) → IsLabelling (Contains (drop place path)) label old new → IsLabelling (IsFrom path place) label old new
  labelling_from old new so = record {
    long = so.long;
    count = so.count;
    set = λ v h. so.set v (drop_from path place v h);
    kept = λ v out. so.kept v (λ h. out (from_drop path place v h));
  }

  pub least_from : IsLeast (Contains (drop place path)) label → IsLeast (IsFrom path place) label
  least_from so = record {
    has = from_drop path place label so.has;
    least = λ v h. so.least v (drop_from path place v h);
  }

-- ---- heads, without the last

module _ (front : List ℕ) (f : ℕ) (rise : AllPairs (λ a b. a < b) (front ++ f ∷ [])) where
  pub front_less : (h : ℕ) → Contains front h → h < f
  front_less h head =
      let at : slice_index (front ++ f ∷ []) head.0 ≡ h = get_or_append_left front (f ∷ []) 0 head.0 head.1 ∙ get_or_default front head.0 0 h head.1 ∙ head.2 in
      let last : slice_index (front ++ f ∷ []) (length front) ≡ f = get_or_push front f 0 (length front) refl in
      omega (arith, at, last, rise head.0 (length front) 0 head.1 (omega (arith, length_push front f)))

  pub none_above : (h : ℕ) → Contains (front ++ f ∷ []) h → h ≤ f
  none_above h head =
      elim (Contains-push_cases front f h head) [
        | inl old ↦ omega (arith, front_less h old)
        | inr same ↦ omega (arith, same)
      ]

  pub front_rises : AllPairs (λ a b. a < b) front
  front_rises i j d less lt =
      let left = get_or_append_left front (f ∷ []) d i (omega arith) in
      let right = get_or_append_left front (f ∷ []) d j lt in
      omega (arith, left, right, rise i j d less (omega (arith, lt, length_push front f)))
