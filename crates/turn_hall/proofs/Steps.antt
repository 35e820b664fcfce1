-- Each step on a word keeps the rule.
use Rattle.std.proofs.Common.{◌≡◌, ◌≢◌, ℕ, ◌+◌, ◌-◌, ◌%◌, ◌^◌, ◌<◌, true, false, List, [], ◌∷◌, ◌++◌, map, length, get_or, set, sym, refl, ap, ◌∙◌, subst, arith, Option, Some, length-set, length-append, append-nil, get_or-set_same, get_or-set_other}
use mathlib.Core.Option.{some, none, some-injective, some-ne-none, Option as Maybe}
use mathlib.Core.Logic.{dite}
use native.Mathlib.Decide.{ℕ_discrete}
use lib.ListN.{get_elem?}
use Rattle.atomic_table.specs.Table.{State, step, Allows, keeps, takes, gives}
use Rattle.atomic_table.proofs.Lists.{at_map, set_again}
use Rattle.turn_hall.specs.declared.entry.Entry.{Entry}
use Rattle.turn_hall.specs.declared.view.Waiter.{Waiter}
use Rattle.turn_hall.specs.Queue.{TicketQueue, waiting, not_waiting}
use Rattle.turn_hall.proofs.Indexed.{map_set}
use Rattle.turn_hall.proofs.Tickets as tickets
use Rattle.turn_hall.specs.declared.view.Holder.{Holder}
use Rattle.turn_hall.specs.declared.view.Identity.{Identity}
use Rattle.turn_hall.specs.declared.view.View.{View}
use Rattle.turn_hall.specs.Rule.{Rule, ViewRule, InSlot, Begins, Knows, Numbered, waiter_of, holder_of, identity_of, left_of, total, holding, not_holding}
use Rattle.turn_hall.specs.Seen.{has}
use Rattle.turn_hall.specs.Steps.{SeatState, with_ticket, with_desk, after_release, after_call, drawn, looked, released, committed}
use Rattle.turn_hall.proofs.Maps.{same_map, same_word, each_set, total_at, total_set}
use Rattle.turn_hall.proofs.Slots as slot
use Rattle.turn_hall.proofs.Numbers.{begins_longer, foreign}

-- the line at other words and views that are equal
tickets_at : (t s t' s' : ℕ) (q : List ℕ) (ls ls' : List Waiter) → t ≡ t' → s ≡ s' → ls ≡ ls' → TicketQueue t s q ls → TicketQueue t' s' q ls'
tickets_at t s t' s' q ls ls' a b c x = subst (λ (z : ℕ × ℕ × List Waiter). TicketQueue z.0 z.1 q z.2) (λ i. (a i, b i, c i)) x

headed : (q : List ℕ) (id : ℕ) → get_elem? q 0 ≡ some id → (rest : List ℕ) × (q ≡ id ∷ rest)
headed [] id e = absurd (some-ne-none id (sym e))
headed (x ∷ xs) id e = (xs, λ i. some-injective x id e i ∷ xs)

some_same : {A : Type 0} (x y : A) → Some x ≡ Some y → x ≡ y
some_same x y e = cc

knows_own : (identities : List Identity) (r : Numbered identities) (id : ℕ) (m : Identity) → get_elem? identities id ≡ some m → Knows m m.number
knows_own identities r id m at = ((λ root. let i = r.root_is id m at root in ap (λ (k : ℕ). has k m.out) i.2 ∙ i.4), λ plain. refl)

module _ {S N R B : Type 0} (fits : S → B → Type 0) (book : B → List (Entry N R)) (start : S) (calls : ℕ) where
  abbrev St : Type 0
  St = State (Option B) (View S N R)

  abbrev Holds : St → Type 0
  Holds = Rule fits book start calls

  pub draws : (slots id : ℕ) (v : View S N R) (c : List (ℕ × Option B)) → v.waiter ≡ not_waiting
      → Allows Holds slots id (v, c) 0 (λ n. (n + 1) % 2 ^ 64) (drawn fits book (step slots 0 1 0 none) (v, c))
  draws slots id v c idle s r wide at small = let n = get_or s.words 0 0 in let n' = (n + 1) % 2 ^ 64 in let w = with_ticket v n in let long = r.words in (
    w,
    keeps,
    tt,
    record {
      queue = r.queue ++ id ∷ [];
      log = r.log;
      words = length-set s.words 0 n' ∙ r.words;
      tickets = tickets_at n' (get_or s.words 1 0) (get_or (set s.words 0 n') 0 0) (get_or (set s.words 0 n') 1 0) (r.queue ++ id ∷ []) (set (map waiter_of s.views) id (waiting n)) (map waiter_of (set s.views id w))
          (sym (get_or-set_same s.words 0 n' 0 (omega arith))) (sym (get_or-set_other s.words 0 1 n' 0 (λ e. omega arith))) (sym (map_set waiter_of s.views id w))
          (tickets.draws n (get_or s.words 1 0) r.queue (map waiter_of s.views) r.tickets id v.waiter (at_map waiter_of s.views id v at) (ap (λ (l : Waiter). l.waits) idle));
      slot = subst (InSlot (fits start) book (r.queue ++ id ∷ []) r.log s.homes) (sym (same_map holder_of s.views id v w at refl)) (slot.queues (fits start) book r.queue r.log s.homes (map holder_of s.views) id r.slot);
      numbers = subst Numbered (sym (same_map identity_of s.views id v w at refl)) r.numbers;
      counted = ap (λ (l : List ℕ). total l + length r.log) (same_map left_of s.views id v w at refl) ∙ r.counted;
      bounded = r.bounded;
      each = each_set (ViewRule start r.log) (ViewRule start r.log) s.views id w r.each (λ j b other e a. a) (let a = r.each id v at in record { opening = a.opening; begins = a.begins; spent = a.spent; joined = a.joined });
    },
    refl,
  )

  pub same_state : (s : St) (ws : List ℕ) (vs : List (View S N R)) → ws ≡ s.words → vs ≡ s.views → Holds s → Holds record { words = ws; homes = s.homes; views = vs }
  same_state s ws vs a b r = subst (λ (z : List ℕ × List (View S N R)). Holds record { words = z.0; homes = s.homes; views = z.1 }) (λ i. (sym a i, sym b i)) r

  -- who has a call left finds room in the book
  few_entries : (s : St) (r : Holds s) (id : ℕ) (v : View S N R) → get_elem? s.views id ≡ some v → 0 < v.left → length r.log < 33554432
  few_entries s r id v at some_left = let p = total_at (map left_of s.views) id v.left (at_map left_of s.views id v at) in let q = r.counted in let b = r.bounded in omega arith

  pub looks : (slots id : ℕ) (v : View S N R) (c : List (ℕ × Option B)) (t : ℕ) → v.waiter ≡ waiting t → v.holder ≡ not_holding → v.identity.live ≡ true
      → Allows Holds slots id (v, c) 1 (λ n. n) (looked fits book (step slots 1 0 0 none) (v, c))
  looks slots id v c t waits out live s r wide at small = let n = get_or s.words 1 0 in let long = r.words in let same = same_word s.words 1 (omega arith) in let a = r.each id v at in dite (ℕ_discrete n v.waiter.ticket)
      (λ hit.
      let first : get_elem? r.queue 0 ≡ some id = tickets.finds (get_or s.words 0 0) n r.queue (map waiter_of s.views) r.tickets id t (at_map waiter_of s.views id v at ∙ ap some waits) (sym (hit ∙ ap (λ (l : Waiter). l.ticket) waits)) small in
      let home = slot.finds_home (fits start) book r.queue r.log s.homes (map holder_of s.views) id v.holder (at_map holder_of s.views id v at) (ap (λ (u : Holder N R). u.holds) out) first r.slot in
      let b = home.0 in let is_book : r.log ≡ book b = home.3 in let w = with_desk v (book b) in (
        w,
        takes 0 (Some b),
        ap (λ (h : List (Maybe (Option B))). get_elem? h 0) home.1,
        record {
          queue = r.queue;
          log = r.log;
          words = ap length same ∙ r.words;
          tickets = tickets_at (get_or s.words 0 0) n (get_or (set s.words 1 n) 0 0) (get_or (set s.words 1 n) 1 0) r.queue (map waiter_of s.views) (map waiter_of (set s.views id w))
              (ap (λ (ws : List ℕ). get_or ws 0 0) (sym same)) (ap (λ (ws : List ℕ). get_or ws 1 0) (sym same)) (sym (same_map waiter_of s.views id v w at refl)) r.tickets;
          slot = subst (λ (z : List (Holder N R)). InSlot (fits start) book r.queue r.log (set s.homes 0 none) z) (ap (λ (l : List (Entry N R)). set (map holder_of s.views) id (holding l)) is_book ∙ sym (map_set holder_of s.views id w))
              (slot.takes_home (fits start) book r.queue r.log s.homes (map holder_of s.views) id v.holder b (at_map holder_of s.views id v at) first home.1 home.4);
          numbers = subst Numbered (sym (same_map identity_of s.views id v w at refl)) r.numbers;
          counted = ap (λ (l : List ℕ). total l + length r.log) (same_map left_of s.views id v w at refl) ∙ r.counted;
          bounded = r.bounded;
          each = each_set (ViewRule start r.log) (ViewRule start r.log) s.views id w r.each (λ j b other e a. a) record { opening = a.opening; begins = a.begins; spent = λ dead. let clash : true ≡ false = sym live ∙ dead in absurd cc; joined = a.joined };
        },
        (
          λ _. (
            b,
            refl,
            (start, a.opening live, home.2),
            subst (λ (l : List (Entry N R)). Begins l v.identity v.seen) is_book (a.begins live),
            knows_own (map identity_of s.views) r.numbers id v.identity (at_map identity_of s.views id v at),
            (λ some_left. let p = few_entries s r id v at some_left in subst (λ (l : List (Entry N R)). length l < 33554432) is_book p),
          ),
          λ miss. absurd (miss hit),
        ),
      ))
      (λ miss. (v, keeps, tt, same_state s (set s.words 1 n) (set s.views id v) same (set_again s.views id v at) r, (λ hit. absurd (miss hit), λ _. refl)))

  -- what giving the desk back does to the words, the line and the slot, where the log becomes the book of b
  pub releases : (slots id : ℕ) (v : View S N R) (c : List (ℕ × Option B)) (t : ℕ) (old : List (Entry N R)) (b : B) (first : S) → v.waiter ≡ waiting t → v.holder ≡ holding old → v.identity.live ≡ true → v.opening ≡ Some first → fits first b → book b ≡ old
      → Allows Holds slots id (v, (0, Some b) ∷ c) 1 (λ n. (n + 1) % 2 ^ 64) (released fits book (step slots 1 1 0 none) (v, (0, Some b) ∷ c))
  releases slots id v c t old b first waits on live begun fits_first is s r wide at small = let n = get_or s.words 1 0 in let n' = (n + 1) % 2 ^ 64 in let long = r.words in let a = r.each id v at in let w = after_release v in
      let fit : fits start b = subst (λ (z : S). fits z b) (some_same first start (sym begun ∙ a.opening live)) fits_first in
      let h = slot.held_by (fits start) book r.queue r.log s.homes (map holder_of s.views) id old (at_map holder_of s.views id v at ∙ ap some on) r.slot in
      let q = headed r.queue id h.0 in let same_log : book b ≡ r.log = is ∙ sym h.1 in (
        w,
        gives,
        tt,
        record {
          queue = q.0;
          log = r.log;
          words = length-set s.words 1 n' ∙ r.words;
          tickets = tickets_at (get_or s.words 0 0) n' (get_or (set s.words 1 n') 0 0) (get_or (set s.words 1 n') 1 0) q.0 (set (map waiter_of s.views) id not_waiting) (map waiter_of (set s.views id w))
              (sym (get_or-set_other s.words 1 0 n' 0 (λ e. omega arith))) (sym (get_or-set_same s.words 1 n' 0 (omega arith))) (sym (map_set waiter_of s.views id w))
              (tickets.advances (get_or s.words 0 0) n id q.0 (map waiter_of s.views) (subst (λ (z : List ℕ). TicketQueue (get_or s.words 0 0) n z (map waiter_of s.views)) q.1 r.tickets));
          slot = subst (λ (z : List (Entry N R) × List (Holder N R)). InSlot (fits start) book q.0 z.0 (set s.homes 0 (some (Some b))) z.1) (λ i. (same_log i, sym (map_set holder_of s.views id w) i))
              (slot.gives_home (fits start) book q.0 s.homes (map holder_of s.views) id b fit h.2 h.3);
          numbers = subst Numbered (sym (same_map identity_of s.views id v w at refl)) r.numbers;
          counted = ap (λ (l : List ℕ). total l + length r.log) (same_map left_of s.views id v w at refl) ∙ r.counted;
          bounded = r.bounded;
          each = each_set (ViewRule start r.log) (ViewRule start r.log) s.views id w r.each (λ j b other e a. a) record { opening = a.opening; begins = a.begins; spent = λ dead. refl; joined = a.joined };
        },
        refl,
      )

  others_learn : (identities : List Identity) (r : Numbered identities) (views : List (View S N R)) → identities ≡ map identity_of views → (log : List (Entry N R)) (e : Entry N R) (id : ℕ) (v : View S N R)
      → get_elem? views id ≡ some v → v.identity.live ≡ true → e.who ≡ v.identity.number → (j : ℕ) (u : View S N R) → j ≢ id → get_elem? views j ≡ some u → ViewRule start log u → ViewRule start (log ++ e ∷ []) u
  others_learn identities r views is log e id v at live whose j u apart there a = record {
    opening = a.opening;
    begins = λ alive. begins_longer log u.seen u.identity e
        (λ k knows same. foreign identities r id j v.identity u.identity (ap (λ (l : List Identity). get_elem? l id) is ∙ at_map identity_of views id v at) (ap (λ (l : List Identity). get_elem? l j) is ∙ at_map identity_of views j u there) live alive apart k knows (sym whose ∙ same))
        (a.begins alive);
    spent = a.spent;
    joined = a.joined;
  }

  -- giving the desk back with one more entry, which is the caller's
  pub commits : (slots id : ℕ) (v : View S N R) (c : List (ℕ × Option B)) (t : ℕ) (old : List (Entry N R)) (b : B) (e : Entry N R) (first : S) → v.waiter ≡ waiting t → v.holder ≡ holding old → v.identity.live ≡ true → v.opening ≡ Some first → fits first b
      → book b ≡ old ++ e ∷ [] → e.who ≡ v.identity.number → 0 < v.left
      → Allows Holds slots id (v, (0, Some b) ∷ c) 1 (λ n. (n + 1) % 2 ^ 64) (committed fits book (step slots 1 1 0 none) (v, (0, Some b) ∷ c))
  commits slots id v c t old b e first waits on live begun fits_first is whose some_left s r wide at small = let n = get_or s.words 1 0 in let n' = (n + 1) % 2 ^ 64 in let long = r.words in let a = r.each id v at in let w = after_call v (book b) in
      let fit : fits start b = subst (λ (z : S). fits z b) (some_same first start (sym begun ∙ a.opening live)) fits_first in
      let h = slot.held_by (fits start) book r.queue r.log s.homes (map holder_of s.views) id old (at_map holder_of s.views id v at ∙ ap some on) r.slot in
      let q = headed r.queue id h.0 in let new_log : book b ≡ r.log ++ e ∷ [] = is ∙ ap (λ (l : List (Entry N R)). l ++ e ∷ []) (sym h.1) in (
        w,
        gives,
        tt,
        record {
          queue = q.0;
          log = book b;
          words = length-set s.words 1 n' ∙ r.words;
          tickets = tickets_at (get_or s.words 0 0) n' (get_or (set s.words 1 n') 0 0) (get_or (set s.words 1 n') 1 0) q.0 (set (map waiter_of s.views) id not_waiting) (map waiter_of (set s.views id w))
              (sym (get_or-set_other s.words 1 0 n' 0 (λ e. omega arith))) (sym (get_or-set_same s.words 1 n' 0 (omega arith))) (sym (map_set waiter_of s.views id w))
              (tickets.advances (get_or s.words 0 0) n id q.0 (map waiter_of s.views) (subst (λ (z : List ℕ). TicketQueue (get_or s.words 0 0) n z (map waiter_of s.views)) q.1 r.tickets));
          slot = subst (λ (z : List (Holder N R)). InSlot (fits start) book q.0 (book b) (set s.homes 0 (some (Some b))) z) (sym (map_set holder_of s.views id w))
              (slot.gives_home (fits start) book q.0 s.homes (map holder_of s.views) id b fit h.2 h.3);
          numbers = subst Numbered (sym (same_map identity_of s.views id v w at refl)) r.numbers;
          counted = let before = r.counted in let change = total_set (map left_of s.views) id v.left (v.left - 1) (at_map left_of s.views id v at) in
              let here : total (map left_of (set s.views id w)) ≡ total (set (map left_of s.views) id (v.left - 1)) = ap total (map_set left_of s.views id w) in
              let more : length (book b) ≡ length r.log + 1 = ap length new_log ∙ length-append r.log (e ∷ []) in omega arith;
          bounded = r.bounded;
          each = each_set (ViewRule start r.log) (ViewRule start (book b)) s.views id w r.each
              (λ j u apart there alone. subst (λ (l : List (Entry N R)). ViewRule start l u) (sym new_log) (others_learn (map identity_of s.views) r.numbers s.views refl r.log e id v at live whose j u apart there alone))
              record { opening = a.opening; begins = λ _. ([], sym (append-nil (book b)), λ k knows. refl); spent = λ dead. refl; joined = a.joined };
        },
        refl,
      )

  pub releases_at : (slots id : ℕ) (m : SeatState fits book) (v : View S N R) (c : List (ℕ × Option B)) (b : B) (first : S) → m ≡ (v, (0, Some b) ∷ c) → v.waiter ≡ waiting v.waiter.ticket → v.holder ≡ holding (book b) → v.identity.live ≡ true → v.opening ≡ Some first → fits first b
      → Allows Holds slots id m 1 (λ n. (n + 1) % 2 ^ 64) (released fits book (step slots 1 1 0 none) m)
  releases_at slots id m v c b first e waits on live begun fit =
      subst (λ (x : SeatState fits book). Allows Holds slots id x 1 (λ n. (n + 1) % 2 ^ 64) (released fits book (step slots 1 1 0 none) x)) (sym e) (releases slots id v c v.waiter.ticket (book b) b first waits on live begun fit refl)

  pub commits_at : (slots id : ℕ) (m : SeatState fits book) (v : View S N R) (c : List (ℕ × Option B)) (old : List (Entry N R)) (b : B) (e : Entry N R) (first : S) → m ≡ (v, (0, Some b) ∷ c) → v.waiter ≡ waiting v.waiter.ticket → v.holder ≡ holding old → v.identity.live ≡ true → v.opening ≡ Some first → fits first b
      → book b ≡ old ++ e ∷ [] → e.who ≡ v.identity.number → 0 < v.left
      → Allows Holds slots id m 1 (λ n. (n + 1) % 2 ^ 64) (committed fits book (step slots 1 1 0 none) m)
  commits_at slots id m v c old b e first is waits on live begun fit grown whose some_left =
      subst (λ (x : SeatState fits book). Allows Holds slots id x 1 (λ n. (n + 1) % 2 ^ 64) (committed fits book (step slots 1 1 0 none) x)) (sym is) (commits slots id v c v.waiter.ticket old b e first waits on live begun fit grown whose some_left)
