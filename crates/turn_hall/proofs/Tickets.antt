-- Drawing, looking and advancing keep the line.
use Rattle.std.proofs.Common.{◌≡◌, ℕ, zero, suc, ◌+◌, ◌%◌, ◌^◌, ◌<◌, ◌≤◌, ◌≢◌, Bool, true, false, List, [], ◌∷◌, ◌++◌, length, set, sym, refl, ap, ◌∙◌, subst, ⊎_elim, arith, length-append, length-set}
use Rattle.std.proofs.Math.Nat.{mod-add-mod, mod-eq_of_lt}
use mathlib.Core.Option.{some, some-injective, some-ne-none}
use lib.ListN.{get_elem?}
use Rattle.atomic_table.proofs.Lists.{at_set, set_here, set_else, at_longer, at_last, at_snoc, one_turn}
use Rattle.turn_hall.specs.declared.view.Waiter.{Waiter}
use Rattle.turn_hall.specs.Queue.{waiting, not_waiting, one_if, count_waiting, TicketQueue}
use Rattle.turn_hall.proofs.Indexed.{at_below, at_end}

one_le : (b : Bool) → one_if b ≤ 1
one_le true = omega arith
one_le false = omega arith

pub counted_set : (ls : List Waiter) (id : ℕ) (l m : Waiter) → get_elem? ls id ≡ some l → count_waiting (set ls id m) + one_if l.waits ≡ count_waiting ls + one_if m.waits
counted_set [] id l m e = absurd (some-ne-none l (sym e))
counted_set (x ∷ xs) zero l m e = let p : one_if x.waits ≡ one_if l.waits = ap (λ (y : Waiter). one_if y.waits) (some-injective x l e) in omega arith
counted_set (x ∷ xs) (suc id) l m e = let p = counted_set xs id l m e in omega arith

pub counted_le : (ls : List Waiter) → count_waiting ls ≤ length ls
counted_le [] = omega arith
counted_le (x ∷ xs) = let p = counted_le xs in let q = one_le x.waits in omega arith

-- one who does not wait leaves room
pub counted_lt : (ls : List Waiter) (id : ℕ) (l : Waiter) → get_elem? ls id ≡ some l → l.waits ≡ false → count_waiting ls < length ls
counted_lt ls id l e out = let s = counted_set ls id l (waiting 0) e in let p = counted_le (set ls id (waiting 0)) in let q = length-set ls id (waiting 0) in let r : one_if l.waits ≡ 0 = ap one_if out in omega arith

module _ (ticket serving : ℕ) (queue : List ℕ) (waiters : List Waiter) (r : TicketQueue ticket serving queue waiters) (id : ℕ) where
  pub short : length queue < 2 ^ 32
  short = let p = r.counted in let q = r.few in let c = counted_le waiters in omega arith

  -- a seat that does not wait is not in the queue
  pub absent : (l : Waiter) → get_elem? waiters id ≡ some l → l.waits ≡ false → (i : ℕ) → get_elem? queue i ≡ some id → ⊥
  absent l at out i e = let same : l ≡ waiting ((serving + i) % 2 ^ 64) = some-injective l (waiting ((serving + i) % 2 ^ 64)) (sym at ∙ r.queued i id e) in
      let clash : false ≡ true = sym out ∙ ap (λ (x : Waiter). x.waits) same in cc

  -- two places of the queue with one ticket are one place
  pub one_place : (i j : ℕ) → i < length queue → j < length queue → i ≤ j → (serving + i) % 2 ^ 64 ≡ (serving + j) % 2 ^ 64 → i ≡ j
  one_place i j a b le e = let s = short in let t = one_turn (serving + i) (serving + j) (2 ^ 64) (omega arith) (omega arith) e in omega arith

  -- the number drawn is this seat's ticket
  pub draws : (l : Waiter) → get_elem? waiters id ≡ some l → l.waits ≡ false → TicketQueue ((ticket + 1) % 2 ^ 64) serving (queue ++ id ∷ []) (set waiters id (waiting ticket))
  draws l at out = record {
    drawn = ap (λ (t : ℕ). (t + 1) % 2 ^ 64) r.drawn ∙ (mod-add-mod (serving + length queue) (2 ^ 64) 1 ∙ ap (λ (n : ℕ). n % 2 ^ 64) (omega (arith, length-append queue (id ∷ []))));
    queued = λ i j e. ⊎_elim
        (λ old. set_else waiters id j (waiting ticket) (λ same. absent l at out i (old ∙ ap some same)) ∙ r.queued i j old)
        (λ new. subst (λ (k : ℕ). get_elem? (set waiters id (waiting ticket)) k ≡ some (waiting ((serving + i) % 2 ^ 64))) new.1
        (set_here waiters id (waiting ticket) (at_below waiters id l at) ∙ ap (λ (t : ℕ). some (waiting t)) (r.drawn ∙ ap (λ (k : ℕ). (serving + k) % 2 ^ 64) (sym new.0))))
        (at_end queue id j i e);
    listed = λ j m e w. ⊎_elim
        (λ here. (length queue, at_last queue id (length queue) refl ∙ ap some (sym here.0)))
        (λ else. let t = r.listed j m else.1 w in (t.0, at_longer queue (id ∷ []) t.0 j t.1))
        (at_set waiters id j (waiting ticket) m e);
    counted = let s = counted_set waiters id l (waiting ticket) at in let p = r.counted in let q = length-append queue (id ∷ []) in let o : one_if l.waits ≡ 0 = ap one_if out in omega arith;
    few = let q = length-set waiters id (waiting ticket) in let p = r.few in omega arith;
  }

  -- whose ticket is served is the first in the queue
  pub finds : (t : ℕ) → get_elem? waiters id ≡ some (waiting t) → t ≡ serving → serving < 2 ^ 64 → get_elem? queue 0 ≡ some id
  finds t at is small = let w = r.listed id (waiting t) at refl in
      let same : t ≡ (serving + w.0) % 2 ^ 64 = ap (λ (x : Waiter). x.ticket) (some-injective (waiting t) (waiting ((serving + w.0) % 2 ^ 64)) (sym at ∙ r.queued w.0 id w.1)) in
      let below : w.0 < length queue = at_below queue w.0 id w.1 in
      let zero_first : 0 ≡ w.0 = one_place 0 w.0 (omega arith) below (omega arith) (ap (λ (n : ℕ). n % 2 ^ 64) (omega arith) ∙ (mod-eq_of_lt small ∙ (sym is ∙ same))) in
      subst (λ (k : ℕ). get_elem? queue k ≡ some id) (sym zero_first) w.1

later : (id : ℕ) (rest : List ℕ) (j : ℕ) → j ≢ id → (i : ℕ) → get_elem? (id ∷ rest) i ≡ some j → (k : ℕ) × (get_elem? rest k ≡ some j)
later id rest j other zero e = absurd (other (sym (some-injective id j e)))
later id rest j other (suc i) e = (i, e)

module _ (ticket serving id : ℕ) (rest : List ℕ) (waiters : List Waiter) (r : TicketQueue ticket serving (id ∷ rest) waiters) where
  -- the first leaves, and the next is served
  pub advances : TicketQueue ticket ((serving + 1) % 2 ^ 64) rest (set waiters id not_waiting)
  advances = let first : get_elem? waiters id ≡ some (waiting ((serving + 0) % 2 ^ 64)) = r.queued 0 id refl in record {
    drawn = r.drawn ∙ (ap (λ (n : ℕ). n % 2 ^ 64) (omega arith) ∙ sym (mod-add-mod (serving + 1) (2 ^ 64) (length rest)));
    queued = λ i j e. let was = r.queued (suc i) j e in
        set_else waiters id j not_waiting
        (λ same. let t : (serving + 0) % 2 ^ 64 ≡ (serving + suc i) % 2 ^ 64 = ap (λ (x : Waiter). x.ticket) (some-injective (waiting ((serving + 0) % 2 ^ 64)) (waiting ((serving + suc i) % 2 ^ 64)) (sym first ∙ (ap (λ (k : ℕ). get_elem? waiters k) (sym same) ∙ was))) in
        let b : i < length rest = at_below rest i j e in let clash = one_place ticket serving (id ∷ rest) waiters r id 0 (suc i) (omega arith) (omega arith) (omega arith) t in absurd (omega arith))
        ∙ (was ∙ ap (λ (t : ℕ). some (waiting t)) (ap (λ (n : ℕ). n % 2 ^ 64) (omega arith) ∙ sym (mod-add-mod (serving + 1) (2 ^ 64) i)));
    listed = λ j m e w. ⊎_elim
        (λ here. let clash : false ≡ true = ap (λ (x : Waiter). x.waits) here.1 ∙ w in cc)
        (λ else. let t = r.listed j m else.1 w in later id rest j else.0 t.0 t.1)
        (at_set waiters id j not_waiting m e);
    counted = let s = counted_set waiters id (waiting ((serving + 0) % 2 ^ 64)) not_waiting first in let p = r.counted in omega arith;
    few = let q = length-set waiters id not_waiting in let p = r.few in omega arith;
  }

counted_end : (ls : List Waiter) → count_waiting (ls ++ not_waiting ∷ []) ≡ count_waiting ls
counted_end [] = refl
counted_end (x ∷ xs) = ap (λ (n : ℕ). one_if x.waits + n) (counted_end xs)

module _ (ticket serving : ℕ) (queue : List ℕ) (waiters : List Waiter) (r : TicketQueue ticket serving queue waiters) where
  -- one more, who does not wait
  pub comes : length waiters + 1 < 2 ^ 32 → TicketQueue ticket serving queue (waiters ++ not_waiting ∷ [])
  comes room = record {
    drawn = r.drawn;
    queued = λ i j e. at_longer waiters (not_waiting ∷ []) j (waiting ((serving + i) % 2 ^ 64)) (r.queued i j e);
    listed = λ j m e w. ⊎_elim (λ old. r.listed j m old w) (λ new. let clash : false ≡ true = ap (λ (x : Waiter). x.waits) new ∙ w in absurd cc) (at_snoc waiters not_waiting m j e);
    counted = counted_end waiters ∙ r.counted;
    few = let q = length-append waiters (not_waiting ∷ []) in omega arith;
  }
