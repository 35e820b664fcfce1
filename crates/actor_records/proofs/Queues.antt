-- The steps of the walk over queues.
use Rattle.std.proofs.Common.{◌≡◌, ℕ, zero, suc, ◌+◌, ◌<◌, ◌⊎◌, inl, inr, List, [], ◌∷◌, ◌++◌, length, map, set, get_or, drop, sym, refl, ap, ◌∙◌, append_assoc, arith}
use native.Mathlib.Decide.{ℕ_discrete}
use mathlib.Core.Logic.{dite}
use lib.Seq.{drop-cons, get_or-set_same, get_or-set_other}
use Rattle.std.specs.List.{flat_map}
use Rattle.std.proofs.lemmas.List.{get_or-map, get_or_past}
use Rattle.turn_hall.specs.declared.entry.Entry.{Entry}
use Rattle.actor_records.specs.declared.record.Record.{Record}
use Rattle.actor_records.specs.Records.{updated, parts_of}
use Rattle.actor_records.specs.Walk.{locals, behind, block, behind_block, walk_from, walk}
use Rattle.actor_records.proofs.Choice.{updated_at, updated_else}

updated_same : {X : Type 0} (f : ℕ → X) (k : ℕ) (x : X) → f k ≡ x → updated f k x ≡ f
updated_same f k x is =
    let at : (w : ℕ) → updated f k x w ≡ f w = λ w. dite (ℕ_discrete k w) (λ p. updated_at f k w x p ∙ sym is ∙ ap f p) (λ p. updated_else f k w x p) in
    λ i w. at w i

map-set : {X Y : Type 0} (f : X → Y) (l : List X) (i : ℕ) (x : X) → map f (set l i x) ≡ set (map f l) i (f x)
map-set f [] i x = refl
map-set f (y ∷ ys) zero x = refl
map-set f (y ∷ ys) (suc i) x = λ k. f y ∷ map-set f ys i x k

length_map : {X Y : Type 0} (f : X → Y) (l : List X) → length (map f l) ≡ length l
length_map f [] = refl
length_map f (y ∷ ys) = ap suc (length_map f ys)

module _ {N R C A T : Type 0} where
  set_at : (records : List (List (Record N R C A T))) (k : ℕ) (rs : List (Record N R C A T)) → k < length records → (w : ℕ)
      → parts_of (set records k rs) w ≡ updated (parts_of records) (suc k) rs w
  set_at records k rs within zero = sym (updated_else (parts_of records) (suc k) zero rs (λ same. omega arith))
  set_at records k rs within (suc x) = dite (ℕ_discrete k x)
      (λ p. ap (λ k. get_or (set records k rs) x []) p ∙ get_or-set_same records x rs [] (omega arith) ∙ sym (updated_at (parts_of records) (suc k) (suc x) rs (ap suc p)))
      (λ p. get_or-set_other records k x rs [] (λ same. p (sym same)) ∙ sym (updated_else (parts_of records) (suc k) (suc x) rs (λ same. p (omega arith))))

  -- the records of one actor change
  pub parts_set : (records : List (List (Record N R C A T))) (k : ℕ) (rs : List (Record N R C A T)) → k < length records → parts_of (set records k rs) ≡ updated (parts_of records) (suc k) rs
  parts_set records k rs within = λ i w. set_at records k rs within w i

  behind_at : (records : List (List (Record N R C A T))) (k : ℕ) → get_or (map behind records) k [] ≡ behind (get_or records k [])
  behind_at [] k = refl
  behind_at (r ∷ rs) zero = refl
  behind_at (r ∷ rs) (suc k) = behind_at rs k

  parts_behind_at : (records : List (List (Record N R C A T))) (w : ℕ) → parts_of (map behind records) w ≡ behind (parts_of records w)
  parts_behind_at records zero = refl
  parts_behind_at records (suc k) = behind_at records k

  -- what is left when the first records of all actors are gone
  pub parts_behind : (records : List (List (Record N R C A T))) → parts_of (map behind records) ≡ (λ w. behind (parts_of records w))
  parts_behind records = λ i w. parts_behind_at records w i

module _ {N R C A T Q : Type 0} (items : Q → List (Record N R C A T)) where
  rest_of_book : (book : List (Entry N R)) (i : ℕ) (e : Entry N R) → i < length book → e ≡ get_or book i e → drop i book ≡ e ∷ drop (i + 1) book
  rest_of_book book i e less is =
      let next : i + 1 ≡ suc i = omega arith in
      drop-cons book i e less ∙ ap (λ x. x ∷ drop (suc i) book) (sym is) ∙ ap (λ k. e ∷ drop k book) (sym next)

  -- the block of an entry whose actor has a queue
  pub walk_on : (book : List (Entry N R)) (i : ℕ) (e : Entry N R) (k : ℕ) (qs : List Q) (d new : Q) (out out' whole : List (Record N R C A T)) → i < length book → e ≡ get_or book i e
      → e.who ≡ suc k → k < length qs → out' ≡ out ++ block (items (get_or qs k d)) → items new ≡ behind_block (items (get_or qs k d))
      → out ++ walk_from (drop i book) (parts_of (map items qs)) ≡ whole
      → out' ++ walk_from (drop (i + 1) book) (parts_of (map items (set qs k new))) ≡ whole
  walk_on book i e k qs d new out out' whole less is own within moved rest so_far =
      let old = get_or qs k d in
      let L = map items qs in
      let P = parts_of L in
      let es = drop (i + 1) book in
      let long : length L ≡ length qs = length_map items qs in
      let here : items old ≡ P e.who = sym (get_or-map items qs k d [] within) ∙ sym (ap P own) in
      let left : parts_of (map items (set qs k new)) ≡ updated P e.who (behind_block (items old))
      = ap parts_of (map-set items qs k new) ∙ parts_set L k (items new) (omega arith) ∙ ap (λ w. updated P w (items new)) (sym own) ∙ ap (updated P e.who) rest in
      (λ j. moved j ++ walk_from es (left j))
      ∙ append_assoc out (block (items old)) (walk_from es (updated P e.who (behind_block (items old))))
      ∙ ap (λ q. out ++ (block q ++ walk_from es (updated P e.who (behind_block q)))) here
      ∙ ap (λ l. out ++ walk_from l P) (sym (rest_of_book book i e less is))
      ∙ so_far

  none_at : (qs : List Q) (w : ℕ) → (w ≡ 0) ⊎ (length qs < w) → parts_of (map items qs) w ≡ []
  none_at qs zero not = refl
  none_at qs (suc k) not = let long = length_map items qs in get_or_past (map items qs) k [] (elim not [ inl z ↦ omega arith | inr past ↦ omega arith ])

  -- an entry whose actor has no queue
  pub walk_past : (book : List (Entry N R)) (i : ℕ) (e : Entry N R) (qs : List Q) (out whole : List (Record N R C A T)) → i < length book → e ≡ get_or book i e
      → (e.who ≡ 0) ⊎ (length qs < e.who)
      → out ++ walk_from (drop i book) (parts_of (map items qs)) ≡ whole
      → out ++ walk_from (drop (i + 1) book) (parts_of (map items qs)) ≡ whole
  walk_past book i e qs out whole less is not so_far =
      let P = parts_of (map items qs) in
      let es = drop (i + 1) book in
      let none : [] ≡ P e.who = sym (none_at qs e.who not) in
      ap (λ p. out ++ walk_from es p) (sym (updated_same P e.who [] (sym none)))
      ∙ ap (λ q. out ++ (block q ++ walk_from es (updated P e.who (behind_block q)))) none
      ∙ ap (λ l. out ++ walk_from l P) (sym (rest_of_book book i e less is))
      ∙ so_far

  -- the first records of all actors, and then their blocks
  pub walk_whole : (book : List (Entry N R)) (records : List (List (Record N R C A T))) (qs : List Q) (start out J : List (Record N R C A T)) → start ≡ []
      → out ≡ start ++ flat_map locals records → map items qs ≡ map behind records → J ≡ out ++ walk_from book (parts_of (map items qs)) → J ≡ walk book records
  walk_whole book records qs start out J none moved left made =
      made
      ∙ (λ i. moved i ++ walk_from book (parts_of (left i)))
      ∙ ap (λ l. (l ++ flat_map locals records) ++ walk_from book (parts_of (map behind records))) none
      ∙ ap (λ p. flat_map locals records ++ walk_from book p) (parts_behind records)
