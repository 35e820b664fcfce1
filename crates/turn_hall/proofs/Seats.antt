-- Making a pass, taking one in, the first state and the last one.
use Rattle.std.proofs.Common.{◌≡◌, ◌≢◌, ℕ, zero, suc, ◌+◌, ◌-◌, ◌^◌, ◌<◌, ◌≤◌, ◌⊎◌, Bool, true, false, List, [], ◌∷◌, ◌++◌, map, length, get_or, set, sym, refl, ap, ◌∙◌, subst, inl, inr, ⊎_elim, arith, Option, Some, length-set, length-append, append-nil, lit<}
use Rattle.std.proofs.lemmas.List.{length-map}
use mathlib.Core.Option.{some, none, some-injective, some-ne-none, Option as Maybe}
use mathlib.Core.Logic.{dite}
use native.Mathlib.Decide.{ℕ_discrete}
use lib.ListN.{get_elem?}
use Rattle.atomic_table.specs.Table.{State, step, Allows, Splits, Joins, Final, Seen, opening, keeps}
use Rattle.atomic_table.proofs.Lists.{at_map, at_set, set_here, set_else, set_again, at_longer}
use Rattle.turn_hall.specs.declared.entry.Entry.{Entry}
use Rattle.turn_hall.specs.Replay.{entries_of}
use Rattle.turn_hall.specs.declared.view.Waiter.{Waiter}
use Rattle.turn_hall.specs.Queue.{TicketQueue, not_waiting}
use Rattle.turn_hall.proofs.Indexed.{map_set, at_below, at_end}
use Rattle.turn_hall.proofs.Tickets as tickets
use Rattle.turn_hall.specs.declared.view.Holder.{Holder}
use Rattle.turn_hall.specs.declared.view.Identity.{Identity}
use Rattle.turn_hall.specs.declared.view.View.{View}
use Rattle.turn_hall.specs.Seen.{has, without}
use Rattle.turn_hall.specs.Rule.{Rule, ViewRule, Joined, InSlot, Numbered, waiter_of, holder_of, identity_of, left_of, total, holding, not_holding}
use Rattle.turn_hall.specs.Steps.{pass_identity, root_identity, spent_identity, no_join, after_split, made_pass, after_join, spent_view, first_view, told}
use Rattle.turn_hall.proofs.Maps.{same_map, from_map, map_end, same_word, each_set, total_set, total_end}
use Rattle.turn_hall.proofs.Slots as slot
use Rattle.turn_hall.proofs.Merging as merging
use Rattle.turn_hall.proofs.Steps as steps

-- where an element of a list stands that was changed at one place and got one more
at_ext : {A : Type 0} (l : List A) (i j : ℕ) (a b x : A) → get_elem? (set l i a ++ b ∷ []) j ≡ some x → ((j ≡ i) × (a ≡ x)) ⊎ (((j ≢ i) × (get_elem? l j ≡ some x)) ⊎ ((j ≡ length l) × (b ≡ x)))
at_ext l i j a b x e = ⊎_elim (λ old. ⊎_elim inl (λ else. inr (inl else)) (at_set l i j a x old)) (λ new. inr (inr (new.0 ∙ length-set l i a, new.1))) (at_end (set l i a) b x j e)

only_one : {A : Type 0} (x y : A) (i : ℕ) → get_elem? (x ∷ []) i ≡ some y → (i ≡ 0) × (x ≡ y)
only_one x y zero e = (refl, some-injective x y e)
only_one x y (suc i) e = absurd (some-ne-none y (sym e))

-- a list that has entries of no number is empty
no_entries : {N R : Type 0} (es : List (Entry N R)) → ((k : ℕ) → entries_of k es ≡ []) → es ≡ []
no_entries [] all = refl
no_entries (e ∷ es) all = let x = merging.entries-here e es in let y = all e.who in absurd cc

no_join_joined : {S N R : Type 0} → Joined {S = S} {N = N} {R = R} no_join
no_join_joined = record { same = refl; begins = inl ([], refl); its = refl; mine = λ k free. refl }

-- The identities where the root makes the pass of number k
module _ (identities : List Identity) (r : Numbered identities) (id : ℕ) (m : Identity) (at : get_elem? identities id ≡ some m) (root : m.root ≡ true) (k : ℕ) (positive : k ≢ 0) (free : has k m.out ≡ false) where
  abbrev Names' : List Identity
  Names' = set identities id (root_identity (m.made + 1) (k ∷ m.out)) ++ pass_identity k ∷ []

  abbrev New : Identity
  New = root_identity (m.made + 1) (k ∷ m.out)

  first : id ≡ 0
  first = (r.root_is id m at root).0

  -- no other pass has the number k
  unused : (j : ℕ) (n : Identity) → j ≢ id → get_elem? identities j ≡ some n → n.live ≡ true → (b : Bool) → n.root ≡ b → n.number ≢ k
  unused j n apart there live true is same = apart ((r.root_is j n there is).0 ∙ sym first)
  unused j n apart there live false is same = let l = r.listed j n m (ap (λ (x : ℕ). get_elem? identities x) (sym first) ∙ at) there live is in
      let clash : true ≡ false = sym l ∙ (ap (λ (x : ℕ). has x m.out) same ∙ free) in absurd cc

  -- no other pass has the number 0
  others : (j : ℕ) (n : Identity) → j ≢ id → get_elem? identities j ≡ some n → n.live ≡ true → n.number ≢ 0
  others j n apart there live same = let i = r.root_is id m at root in apart (r.differ j id n m there at live i.1 (same ∙ sym i.2))

  abbrev Spot : ℕ → Identity → Type 0
  Spot j n = ((j ≡ id) × (New ≡ n)) ⊎ (((j ≢ id) × (get_elem? identities j ≡ some n)) ⊎ ((j ≡ length identities) × (pass_identity k ≡ n)))

  apart_from : (i j : ℕ) (n o : Identity) → Spot i n → Spot j o → n.live ≡ true → o.live ≡ true → n.number ≡ o.number → i ≡ j
  apart_from i j n o (inl a) (inl b) u v same = a.0 ∙ sym b.0
  apart_from i j n o (inl a) (inr (inl b)) u v same = absurd (others j o b.0 b.1 v (sym same ∙ ap (λ (x : Identity). x.number) (sym a.1)))
  apart_from i j n o (inl a) (inr (inr b)) u v same = absurd (positive (ap (λ (x : Identity). x.number) b.1 ∙ (sym same ∙ ap (λ (x : Identity). x.number) (sym a.1))))
  apart_from i j n o (inr (inl a)) (inl b) u v same = absurd (others i n a.0 a.1 u (same ∙ ap (λ (x : Identity). x.number) (sym b.1)))
  apart_from i j n o (inr (inl a)) (inr (inl b)) u v same = r.differ i j n o a.1 b.1 u v same
  apart_from i j n o (inr (inl a)) (inr (inr b)) u v same = absurd (unused i n a.0 a.1 u n.root refl (same ∙ ap (λ (x : Identity). x.number) (sym b.1)))
  apart_from i j n o (inr (inr a)) (inl b) u v same = absurd (positive (ap (λ (x : Identity). x.number) a.1 ∙ (same ∙ ap (λ (x : Identity). x.number) (sym b.1))))
  apart_from i j n o (inr (inr a)) (inr (inl b)) u v same = absurd (unused j o b.0 b.1 v o.root refl (sym same ∙ ap (λ (x : Identity). x.number) (sym a.1)))
  apart_from i j n o (inr (inr a)) (inr (inr b)) u v same = a.0 ∙ sym b.0

  zero_free : has 0 (k ∷ m.out) ≡ false
  zero_free = merging.has_other 0 k m.out positive ∙ (r.root_is id m at root).4

  count : m.made + 1 ≡ length Names'
  count = let p = (r.root_is id m at root).3 in let q = length-append (set identities id New) (pass_identity k ∷ []) in let t = length-set identities id New in omega arith

  rooted : (i : ℕ) (n : Identity) → Spot i n → n.root ≡ true → (i ≡ 0) × (n.live ≡ true) × (n.number ≡ 0) × (n.made ≡ length Names') × (has 0 n.out ≡ false)
  rooted i n (inl a) is = (a.0 ∙ first, ap (λ (x : Identity). x.live) (sym a.1), ap (λ (x : Identity). x.number) (sym a.1), ap (λ (x : Identity). x.made) (sym a.1) ∙ count, ap (λ (x : Identity). has 0 x.out) (sym a.1) ∙ zero_free)
  rooted i n (inr (inl a)) is = absurd (a.0 ((r.root_is i n a.1 is).0 ∙ sym first))
  rooted i n (inr (inr a)) is = let clash : false ≡ true = ap (λ (x : Identity). x.root) a.1 ∙ is in absurd cc

  zeroth : get_elem? Names' 0 ≡ some New
  zeroth = subst (λ (x : ℕ). get_elem? Names' x ≡ some New) first (at_longer (set identities id New) (pass_identity k ∷ []) id New (set_here identities id New (at_below identities id m at)))

  lists : (i : ℕ) (n : Identity) → Spot i n → n.live ≡ true → n.root ≡ false → has n.number (k ∷ m.out) ≡ true
  lists i n (inl a) live plain = let clash : true ≡ false = ap (λ (x : Identity). x.root) a.1 ∙ plain in absurd cc
  lists i n (inr (inl a)) live plain = merging.has_more n.number k m.out (r.listed i n m (ap (λ (x : ℕ). get_elem? identities x) (sym first) ∙ at) a.1 live plain)
  lists i n (inr (inr a)) live plain = subst (λ (x : Identity). has x.number (k ∷ m.out) ≡ true) a.1 (merging.has_first k m.out)

  pub numbered_more : Numbered Names'
  numbered_more = record {
    differ = λ i j n o a b. apart_from i j n o (at_ext identities id i New (pass_identity k) n a) (at_ext identities id j New (pass_identity k) o b);
    root_is = λ i n a. rooted i n (at_ext identities id i New (pass_identity k) n a);
    listed = λ i n o z a live plain. subst (λ (x : Identity). has n.number x.out ≡ true) (some-injective New o (sym zeroth ∙ z)) (lists i n (at_ext identities id i New (pass_identity k) n a) live plain);
    root_there = (New, zeroth, refl);
  }

-- The identities where the root takes in the pass at `other`
module _ (identities : List Identity) (r : Numbered identities) (id other : ℕ) (m w : Identity) (at : get_elem? identities id ≡ some m) (at' : get_elem? identities other ≡ some w) (apart : other ≢ id) (root : m.root ≡ true) (live : w.live ≡ true) where
  abbrev Left : Identity
  Left = root_identity m.made (without w.number m.out)

  abbrev Fewer : List Identity
  Fewer = set (set identities id Left) other spent_identity

  abbrev Place : ℕ → Identity → Type 0
  Place j n = ((j ≡ other) × (spent_identity ≡ n)) ⊎ ((j ≢ other) × (((j ≡ id) × (Left ≡ n)) ⊎ ((j ≢ id) × (get_elem? identities j ≡ some n))))

  place : (j : ℕ) (n : Identity) → get_elem? Fewer j ≡ some n → Place j n
  place j n e = ⊎_elim inl (λ else. inr (else.0, at_set identities id j Left n else.1)) (at_set (set identities id Left) other j spent_identity n e)

  root_first : id ≡ 0
  root_first = (r.root_is id m at root).0

  not_zero : (j : ℕ) (n : Identity) → j ≢ id → get_elem? identities j ≡ some n → n.live ≡ true → n.number ≢ 0
  not_zero j n far there live same = let i = r.root_is id m at root in far (r.differ j id n m there at live i.1 (same ∙ sym i.2))

  still_apart : (i j : ℕ) (n o : Identity) → Place i n → Place j o → n.live ≡ true → o.live ≡ true → n.number ≡ o.number → i ≡ j
  still_apart i j n o (inl a) b u v same = let clash : false ≡ true = ap (λ (x : Identity). x.live) a.1 ∙ u in absurd cc
  still_apart i j n o (inr a) (inl b) u v same = let clash : false ≡ true = ap (λ (x : Identity). x.live) b.1 ∙ v in absurd cc
  still_apart i j n o (inr (f, inl a)) (inr (g, inl b)) u v same = a.0 ∙ sym b.0
  still_apart i j n o (inr (f, inl a)) (inr (g, inr b)) u v same = absurd (not_zero j o b.0 b.1 v (sym same ∙ ap (λ (x : Identity). x.number) (sym a.1)))
  still_apart i j n o (inr (f, inr a)) (inr (g, inl b)) u v same = absurd (not_zero i n a.0 a.1 u (same ∙ ap (λ (x : Identity). x.number) (sym b.1)))
  still_apart i j n o (inr (f, inr a)) (inr (g, inr b)) u v same = r.differ i j n o a.1 b.1 u v same

  zero_out : has 0 (without w.number m.out) ≡ false
  zero_out = merging.has_without 0 w.number m.out (λ same. not_zero other w apart at' live (sym same)) ∙ (r.root_is id m at root).4

  as_many : m.made ≡ length Fewer
  as_many = let p = (r.root_is id m at root).3 in let q = length-set (set identities id Left) other spent_identity in let t = length-set identities id Left in omega arith

  still_root : (i : ℕ) (n : Identity) → Place i n → n.root ≡ true → (i ≡ 0) × (n.live ≡ true) × (n.number ≡ 0) × (n.made ≡ length Fewer) × (has 0 n.out ≡ false)
  still_root i n (inl a) is = let clash : false ≡ true = ap (λ (x : Identity). x.root) a.1 ∙ is in absurd cc
  still_root i n (inr (f, inl a)) is = (a.0 ∙ root_first, ap (λ (x : Identity). x.live) (sym a.1), ap (λ (x : Identity). x.number) (sym a.1), ap (λ (x : Identity). x.made) (sym a.1) ∙ as_many, ap (λ (x : Identity). has 0 x.out) (sym a.1) ∙ zero_out)
  still_root i n (inr (f, inr a)) is = absurd (a.0 ((r.root_is i n a.1 is).0 ∙ sym root_first))

  root_stays : get_elem? Fewer 0 ≡ some Left
  root_stays = subst (λ (x : ℕ). get_elem? Fewer x ≡ some Left) root_first (set_else (set identities id Left) other id spent_identity (λ e. apart (sym e)) ∙ set_here identities id Left (at_below identities id m at))

  still_listed : (i : ℕ) (n : Identity) → Place i n → n.live ≡ true → n.root ≡ false → has n.number (without w.number m.out) ≡ true
  still_listed i n (inl a) u plain = let clash : false ≡ true = ap (λ (x : Identity). x.live) a.1 ∙ u in absurd cc
  still_listed i n (inr (f, inl a)) u plain = let clash : true ≡ false = ap (λ (x : Identity). x.root) a.1 ∙ plain in absurd cc
  still_listed i n (inr (f, inr a)) u plain = merging.has_without n.number w.number m.out (λ same. f (r.differ i other n w a.1 at' u live same))
      ∙ r.listed i n m (ap (λ (x : ℕ). get_elem? identities x) (sym root_first) ∙ at) a.1 u plain

  pub numbered_less : Numbered Fewer
  numbered_less = record {
    differ = λ i j n o a b. still_apart i j n o (place i n a) (place j o b);
    root_is = λ i n a. still_root i n (place i n a);
    listed = λ i n o z a u plain. subst (λ (x : Identity). has n.number x.out ≡ true) (some-injective Left o (sym root_stays ∙ z)) (still_listed i n (place i n a) u plain);
    root_there = (Left, root_stays, refl);
  }

module _ {S N R B : Type 0} (fits : S → B → Type 0) (book : B → List (Entry N R)) (start : S) (calls : ℕ) where
  abbrev Holds : State (Option B) (View S N R) → Type 0
  Holds = Rule fits book start calls

  abbrev V : Type 0
  V = View S N R

  -- the root commits the pass of number k with n of its calls
  pub splits : (id : ℕ) (v : V) (k n : ℕ) → v.identity.root ≡ true → k ≢ 0 → has k v.identity.out ≡ false → n ≤ v.left → v.identity.made + 1 < 2 ^ 32
      → Splits Holds id v (after_split k n v) (made_pass k n v)
  splits id v k n root positive free enough room s r at = let u = after_split k n v in let p = made_pass k n v in let a = r.each id v at in
      let old = at_map identity_of s.views id v at in let is = r.numbers.root_is id v.identity old root in let before = a.begins is.1 in
      let waiters : map waiter_of (set s.views id u ++ p ∷ []) ≡ map waiter_of s.views ++ not_waiting ∷ [] = map_end waiter_of (set s.views id u) p ∙ ap (λ (l : List Waiter). l ++ not_waiting ∷ []) (same_map waiter_of s.views id v u at refl) in
      let holders : map holder_of (set s.views id u ++ p ∷ []) ≡ map holder_of s.views ++ not_holding ∷ [] = map_end holder_of (set s.views id u) p ∙ ap (λ (l : List (Holder N R)). l ++ not_holding ∷ []) (same_map holder_of s.views id v u at refl) in
      let identities : map identity_of (set s.views id u ++ p ∷ []) ≡ set (map identity_of s.views) id u.identity ++ pass_identity k ∷ [] = map_end identity_of (set s.views id u) p ∙ ap (λ (l : List Identity). l ++ pass_identity k ∷ []) (map_set identity_of s.views id u) in
      let lefts : map left_of (set s.views id u ++ p ∷ []) ≡ set (map left_of s.views) id (v.left - n) ++ n ∷ [] = map_end left_of (set s.views id u) p ∙ ap (λ (l : List ℕ). l ++ n ∷ []) (map_set left_of s.views id u) in
      record {
        queue = r.queue;
        log = r.log;
        words = r.words;
        tickets = subst (TicketQueue (get_or s.words 0 0) (get_or s.words 1 0) r.queue) (sym waiters)
            (tickets.comes (get_or s.words 0 0) (get_or s.words 1 0) r.queue (map waiter_of s.views) r.tickets (let x = length-map s.views waiter_of in let y = length-map s.views identity_of in let z = is.3 in omega arith));
        slot = subst (InSlot (fits start) book r.queue r.log s.homes) (sym holders) (slot.comes (fits start) book r.queue r.log s.homes (map holder_of s.views) r.slot);
        numbers = subst Numbered (sym identities) (numbered_more (map identity_of s.views) r.numbers id v.identity old root k positive free);
        counted = let x = ap total lefts in let y = total_end (set (map left_of s.views) id (v.left - n)) n in let z = total_set (map left_of s.views) id v.left (v.left - n) (at_map left_of s.views id v at) in let c = r.counted in omega arith;
        bounded = r.bounded;
        each = λ j x e. ⊎_elim
            (λ here. subst (ViewRule start r.log) here.1 record {
              opening = λ _. a.opening is.1;
              begins = λ _. (before.0, before.1, λ i knows. before.2 i ((λ _. merging.has_less i k v.identity.out (knows.0 refl)), λ plain. let clash : true ≡ false = sym root ∙ plain in absurd cc));
              spent = λ dead. absurd cc;
              joined = a.joined;
            })
            (λ else. ⊎_elim (λ old. r.each j x old.1)
            (λ new. subst (ViewRule start r.log) new.1 record {
              opening = λ _. a.opening is.1;
              begins = λ _. (before.0, before.1, λ i knows. before.2 i ((λ _. ap (λ (z : ℕ). has z v.identity.out) (knows.1 refl) ∙ free), λ plain. let clash : true ≡ false = sym root ∙ plain in absurd cc));
              spent = λ dead. absurd cc;
              joined = no_join_joined;
            })
            else)
            (at_ext s.views id j u p x e);
      }

  -- the root takes in a pass that does not stand in the line
  pub joins : (id : ℕ) (v : V) (other : ℕ) (w : V) → v.identity.root ≡ true → w.identity.root ≡ false → w.identity.live ≡ true → w.waiter ≡ not_waiting → w.holder ≡ not_holding
      → Joins Holds id v other w (after_join v w) spent_view
  joins id v other w root plain live idle rests s r at apart there = let u = after_join v w in let z : V = spent_view in
      let at' : get_elem? s.views other ≡ some w = sym (set_else s.views id other u apart) ∙ there in
      let a = r.each id v at in let c = r.each other w at' in
      let is = r.numbers.root_is id v.identity (at_map identity_of s.views id v at) root in
      let bv = a.begins is.1 in let bw = c.begins live in
      let g = merging.whole r.log v.seen w.seen w.identity.number v.identity.out
      (bv.0, bv.1, λ k free. bv.2 k ((λ _. free), λ no. let clash : true ≡ false = sym root ∙ no in absurd cc))
      (bw.0, bw.1, bw.2 w.identity.number ((λ no. let clash : true ≡ false = sym no ∙ plain in absurd cc), λ _. refl)) in
      let waiters : map waiter_of (set (set s.views id u) other z) ≡ map waiter_of s.views = same_map waiter_of (set s.views id u) other w z there (sym idle) ∙ same_map waiter_of s.views id v u at refl in
      let holders : map holder_of (set (set s.views id u) other z) ≡ map holder_of s.views = same_map holder_of (set s.views id u) other w z there (sym rests) ∙ same_map holder_of s.views id v u at refl in
      let identities : map identity_of (set (set s.views id u) other z) ≡ set (set (map identity_of s.views) id u.identity) other spent_identity = map_set identity_of (set s.views id u) other z ∙ ap (λ (l : List Identity). set l other spent_identity) (map_set identity_of s.views id u) in
      let lefts : map left_of (set (set s.views id u) other z) ≡ set (set (map left_of s.views) id (v.left + w.left)) other 0 = map_set left_of (set s.views id u) other z ∙ ap (λ (l : List ℕ). set l other 0) (map_set left_of s.views id u) in
      record {
        queue = r.queue;
        log = r.log;
        words = r.words;
        tickets = subst (TicketQueue (get_or s.words 0 0) (get_or s.words 1 0) r.queue) (sym waiters) r.tickets;
        slot = subst (InSlot (fits start) book r.queue r.log s.homes) (sym holders) r.slot;
        numbers = subst Numbered (sym identities) (numbered_less (map identity_of s.views) r.numbers id other v.identity w.identity (at_map identity_of s.views id v at) (at_map identity_of s.views other w at') apart root live);
        counted = let x = ap total lefts in let y = total_set (map left_of s.views) id v.left (v.left + w.left) (at_map left_of s.views id v at) in
            let t = total_set (set (map left_of s.views) id (v.left + w.left)) other w.left 0 (set_else (map left_of s.views) id other (v.left + w.left) apart ∙ at_map left_of s.views other w at') in let k = r.counted in omega arith;
        bounded = r.bounded;
        each = each_set (ViewRule start r.log) (ViewRule start r.log) (set s.views id u) other z
            (each_set (ViewRule start r.log) (ViewRule start r.log) s.views id u r.each (λ j b far e b_alone. b_alone) record {
              opening = λ _. a.opening is.1;
              begins = λ _. (
                g.3.0,
                g.3.1,
                λ k knows. dite (ℕ_discrete k w.identity.number)
                    (λ same. subst (λ (x : ℕ). entries_of x g.3.0 ≡ []) (sym same) g.3.2)
                    (λ differs. g.3.3 k (sym (merging.has_without k w.identity.number v.identity.out differs) ∙ knows.0 refl)),
              );
              spent = λ dead. absurd cc;
              joined = record { same = a.opening is.1 ∙ sym (c.opening live); begins = g.0; its = g.1; mine = g.2 };
            })
            (λ j b far e b_alone. b_alone)
            record { opening = λ no. absurd cc; begins = λ no. absurd cc; spent = λ _. refl; joined = no_join_joined };
      }

  -- a look that tells of the last join
  pub tells : (slots id : ℕ) (v : V) (c : List (ℕ × Option B)) (i : ℕ) → i < 2 → Allows Holds slots id (v, c) i (λ n. n) (told fits book (step slots i 0 0 none) (v, c))
  tells slots id v c i small s r wide at _ = let long = r.words in
      (v, keeps, tt, steps.same_state fits book start calls s (set s.words i (get_or s.words i 0)) (set s.views id v) (same_word s.words i (omega arith)) (set_again s.views id v at) r, (refl, (r.each id v at).joined))

  -- the first state
  pub opens : (b : B) → fits start b → book b ≡ [] → calls ≤ 33554432 → Holds (opening (0 ∷ 0 ∷ []) (Some b ∷ []) (first_view start calls))
  opens b fit empty few = record {
    queue = [];
    log = [];
    words = refl;
    tickets = record {
      drawn = refl;
      queued = λ i j e. absurd (some-ne-none j (sym e));
      listed = λ j l e on. let o = only_one not_waiting l j e in let clash : false ≡ true = ap (λ (x : Waiter). x.waits) o.1 ∙ on in absurd cc;
      counted = refl;
      few = lit< tt;
    };
    slot = inl (b, refl, fit, sym empty, λ i t e. ap (λ (x : Holder N R). x.holds) (sym (only_one (not_holding {N = N} {R = R}) t i e).1));
    numbers = record {
      differ = λ i j m n e f _ _ _. (only_one (root_identity 1 []) m i e).0 ∙ sym (only_one (root_identity 1 []) n j f).0;
      root_is = λ i m e _. let o = only_one (root_identity 1 []) m i e in (o.0, ap (λ (x : Identity). x.live) (sym o.1), ap (λ (x : Identity). x.number) (sym o.1), ap (λ (x : Identity). x.made) (sym o.1), ap (λ (x : Identity). has 0 x.out) (sym o.1));
      listed = λ i m o z e _ plain. let f = only_one (root_identity 1 []) m i e in let clash : true ≡ false = ap (λ (x : Identity). x.root) f.1 ∙ plain in absurd cc;
      root_there = (root_identity 1 [], refl, refl);
    };
    counted = omega arith;
    bounded = few;
    each = λ i v e. subst (ViewRule start []) (only_one (first_view start calls) v i e).1
        record { opening = λ _. refl; begins = λ _. ([], refl, λ k knows. refl); spent = λ dead. refl; joined = no_join_joined };
  }

  -- where no pass is out and the root does not have the turn, nobody has
  nobody : (s : State (Option B) V) (r : Holds s) (id : ℕ) (v : V) → get_elem? s.views id ≡ some v → v.identity.root ≡ true → v.identity.out ≡ [] → v.holder ≡ not_holding
      → (h : ℕ) (u : V) → get_elem? s.views h ≡ some u → u.holder.holds ≡ true → (live : Bool) → u.identity.live ≡ live → (plain : Bool) → u.identity.root ≡ plain → ⊥
  nobody s r id v at root none_out rests h u there on false dead plain p = let clash : false ≡ true = sym ((r.each h u there).spent dead) ∙ on in cc
  nobody s r id v at root none_out rests h u there on true live true p =
      let a = r.numbers.root_is id v.identity (at_map identity_of s.views id v at) root in let b = r.numbers.root_is h u.identity (at_map identity_of s.views h u there) p in
      let here : u ≡ v = some-injective u v (sym there ∙ (ap (λ (k : ℕ). get_elem? s.views k) (b.0 ∙ sym a.0) ∙ at)) in
      let clash : true ≡ false = sym on ∙ (ap (λ (x : V). x.holder.holds) here ∙ ap (λ (t : Holder N R). t.holds) rests) in cc
  nobody s r id v at root none_out rests h u there on true live false p =
      let a = r.numbers.root_is id v.identity (at_map identity_of s.views id v at) root in
      let l = r.numbers.listed h u.identity v.identity (ap (λ (k : ℕ). get_elem? (map identity_of s.views) k) (sym a.0) ∙ at_map identity_of s.views id v at) (at_map identity_of s.views h u there) live p in
      let clash : true ≡ false = sym l ∙ ap (has u.identity.number) none_out in cc

  -- where no pass is out, the desk is in the slot, and its history is what the root has seen
  pub closes : (id : ℕ) (v : V) (ws : List ℕ) (xs : List (Option B)) → v.identity.root ≡ true → v.identity.out ≡ [] → v.holder ≡ not_holding → Final (Seen Holds id v) ws xs
      → (b : B) × (get_elem? xs 0 ≡ some (Some b)) × fits start b × (book b ≡ v.seen) × (v.opening ≡ Some start)
  closes id v ws xs root none_out rests f = let s = f.0 in let r = f.1.0 in let at = f.1.1 in ⊎_elim
      (λ a.
      let b = a.0 in let i = r.numbers.root_is id v.identity (at_map identity_of s.views id v at) root in let g = (r.each id v at).begins i.1 in
      let all : (k : ℕ) → entries_of k g.0 ≡ [] = λ k. g.2 k ((λ _. ap (has k) none_out), λ plain. let clash : true ≡ false = sym root ∙ plain in absurd cc) in
      (b, f.4 0 (Some b) (ap (λ (h : List (Maybe (Option B))). get_elem? h 0) a.1), a.2, sym a.3 ∙ (g.1 ∙ (ap (λ (l : List (Entry N R)). v.seen ++ l) (no_entries g.0 all) ∙ append-nil v.seen)), (r.each id v at).opening i.1))
      (λ o. let u = from_map holder_of s.views o.0 (holding r.log) o.3 in
      absurd (nobody s r id v at root none_out rests o.0 u.0 u.1 (ap (λ (t : Holder N R). t.holds) u.2) u.0.identity.live refl u.0.identity.root refl))
      r.slot
