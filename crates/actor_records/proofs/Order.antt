-- The walk stands in the order of a journal, and each record says where.
use Rattle.std.proofs.Common.{◌≡◌, ℕ, ◌+◌, ◌<◌, ◌≤◌, inl, inr, false, List, [], ◌∷◌, ◌++◌, eqb, sym, refl, ap, ◌∙◌, subst, append-nil, arith}
use Rattle.std.specs.Prelude.{Option, unwrap_or, is_some}
use Rattle.std.specs.List.{All, AllPairs, AllByRecursion}
use Rattle.std.proofs.lemmas.List.Elements.{All-from_recursion}
use Rattle.std.proofs.lemmas.List.Kept.{AllPairs-cons}
use Rattle.turn_hall.specs.declared.entry.Entry.{Entry}
use Rattle.actor_records.specs.declared.record.Record.{Record}
use Rattle.actor_records.specs.declared.record.Did.{Did}
use Rattle.actor_records.specs.declared.record.Did.TheVariants.{Core, Local, Starved}
use Rattle.actor_records.specs.Records.{core_record, updated, place, is_core}
use Rattle.actor_records.specs.Rules.{Rules}
use Rattle.actor_records.specs.Agreement.{Stand, IsLocal, AreLocals, Reaches, Agrees, AgreesWith, fresh, after_local, after_core, Answers}
use Rattle.actor_records.specs.Order.{Before, next_index, IsPlaced, Placed}
use Rattle.actor_records.specs.Walk.{behind, walk_from}
use Rattle.actor_records.proofs.Choice.{from_either, updated_here, updated_else}
use Rattle.actor_records.proofs.Agreement.{Behind}
use Rattle.actor_records.proofs.Blocks.{stand_at}
use Rattle.actor_records.proofs.Runs.{AllBlocks, own_block, next_blocks, walk_block}
use Rattle.actor_records.proofs.Firsts.{firsts, Below, Rises}
use Rattle.actor_records.proofs.Whole.{split, first_are, blocks_there}

module _ {X : Type 0} where
  each-append : (P : X → Type 0) (xs ys : List X) → AllByRecursion P xs → AllByRecursion P ys → AllByRecursion P (xs ++ ys)
  each-append P [] ys a b = b
  each-append P (x ∷ xs) ys a b = (a.0, each-append P xs ys a.1 b)

  each-weaken : (P Q : X → Type 0) (xs : List X) → ((x : X) → P x → Q x) → AllByRecursion P xs → AllByRecursion Q xs
  each-weaken P Q [] f a = tt
  each-weaken P Q (x ∷ xs) f a = (f x a.0, each-weaken P Q xs f a.1)

  -- each stands before all later ones
  abbrev pub PairsByRecursion : (X → X → Type 0) → List X → Type 0
  PairsByRecursion R [] = Unit {0}
  PairsByRecursion R (x ∷ xs) = AllByRecursion (R x) xs × PairsByRecursion R xs

  pub AllPairs-from_recursion : (R : X → X → Type 0) (xs : List X) → PairsByRecursion R xs → AllPairs R xs
  AllPairs-from_recursion R [] a = λ i j d less within. absurd (omega arith)
  AllPairs-from_recursion R (x ∷ xs) a = AllPairs-cons R x xs (All-from_recursion (R x) xs a.0) (AllPairs-from_recursion R xs a.1)

  pairs-append : (R : X → X → Type 0) (xs ys : List X) → PairsByRecursion R xs → PairsByRecursion R ys → AllByRecursion (λ x. AllByRecursion (R x) ys) xs → PairsByRecursion R (xs ++ ys)
  pairs-append R [] ys a b c = b
  pairs-append R (x ∷ xs) ys a b c = (each-append (R x) xs ys a.0 c.0, pairs-append R xs ys a.1 b c.1)

module _ {N R C A T : Type 0} where
  abbrev pub InOrder : List (Record N R C A T) → Type 0
  InOrder rs = PairsByRecursion Before rs

  -- records at places up to n, and behind them records at later places
  order-places : (n : ℕ) (xs ys : List (Record N R C A T)) → InOrder xs → InOrder ys → AllByRecursion (λ r. place r ≤ n) xs → AllByRecursion (λ r. n < place r) ys → InOrder (xs ++ ys)
  order-places n xs ys a b low high = pairs-append Before xs ys a b
      (each-weaken (λ r. place r ≤ n) (λ x. AllByRecursion (Before x) ys) xs
      (λ x small. each-weaken (λ r. n < place r) (Before x) ys (λ y big. inl (omega arith)) high) low)

  -- a number stands exactly at a core record
  abbrev pub IsMarked : Record N R C A T → Type 0
  IsMarked r = is_some r.number ≡ is_core r.did

module _ {S N R C A T M H : Type 0} (u : Rules S N R C A T M H) where
  -- a record of w behind the core record of the number `after`, further than `index`
  record IsBehind (after w index : ℕ) (r : Record N R C A T) : Type 0 where
    at : place r ≡ after
    whose : r.who ≡ w
    further : index < r.index

  local_place : (w : ℕ) (at : Stand M H) (r : Record N R C A T) → IsLocal u w at r → place r ≡ at.after
  local_place w at r h = ap (λ (o : Option ℕ). unwrap_or o r.after) h.number ∙ h.after

  further_yet : (after w index : ℕ) (r : Record N R C A T) → IsBehind after w (index + 1) r → IsBehind after w index r
  further_yet after w index r b = let less = b.further in record { at = b.at; whose = b.whose; further = omega arith }

  behind_both : (after w index : ℕ) (r q : Record N R C A T) → place r ≡ after → r.who ≡ w → r.index ≡ index → IsBehind after w index q → Before r q
  behind_both after w index r q at whose here b = let less = b.further in inr (at ∙ sym b.at, inr (whose ∙ sym b.whose, omega arith))

  -- records that are no core records stand in order, behind one place
  locals_order : (w : ℕ) (at to : Stand M H) (ls : List (Record N R C A T)) → AreLocals u w at ls to → InOrder ls × AllByRecursion (IsBehind at.after w at.index) ls
  locals_order w at to [] a = (tt, tt)
  locals_order w at to (r ∷ rs) a =
      let h = a.0 in
      let p = local_place w at r h in
      let i : r.index ≡ at.index + 1 = h.index in
      let go = locals_order w (after_local u at r.did) to rs a.1 in (
        (each-weaken (IsBehind at.after w (at.index + 1)) (Before r) rs (λ q b. behind_both at.after w (at.index + 1) r q p h.who i b) go.1, go.0),
        (
          record { at = p; whose = h.who; further = omega arith },
          each-weaken (IsBehind at.after w (at.index + 1)) (IsBehind at.after w at.index) rs (λ q b. further_yet at.after w at.index q b) go.1,
        ),
      )

  no_core : (m : M) (held : H) (did : Did N R C A T) → Answers u m held did → is_core did ≡ false
  no_core m held (Core note reply) a = absurd a
  no_core m held (Local command reply) a = refl
  no_core m held (Starved head) a = refl

  locals_marked : (w : ℕ) (at to : Stand M H) (ls : List (Record N R C A T)) → AreLocals u w at ls to → AllByRecursion IsMarked ls
  locals_marked w at to [] a = tt
  locals_marked w at to (r ∷ rs) a = (
    ap (λ (o : Option ℕ). is_some o) a.0.number ∙ sym (no_core at.mind at.held r.did a.0.answers),
    locals_marked w (after_local u at r.did) to rs a.1,
  )

  -- a block stands in order, at the place of its core record
  block_order : (w n : ℕ) (at to : Stand M H) (e : Entry N R) (ls : List (Record N R C A T)) → e.who ≡ w → at.after ≡ n → at.index ≡ 0 → AreLocals u w at ls to
      → InOrder (core_record n e ∷ ls) × AllByRecursion (λ r. place r ≡ n) (core_record n e ∷ ls)
  block_order w n at to e ls own after index a =
      let l = locals_order w at to ls a in
      let c : Record N R C A T = core_record n e in (
        (each-weaken (IsBehind at.after w at.index) (Before c) ls (λ q b. behind_both at.after w at.index c q (sym after) own (sym index) b) l.1, l.0),
        (refl, each-weaken (IsBehind at.after w at.index) (λ r. place r ≡ n) ls (λ q b. b.at ∙ after) l.1),
      )

  walk_order : (n : ℕ) (s : S) (minds : ℕ → M) (es : List (Entry N R)) (left : ℕ → List (Record N R C A T)) (last : ℕ → M)
      → AllBlocks u n s minds es left last → InOrder (walk_from es left) × AllByRecursion (λ r. n < place r) (walk_from es left)
  walk_order n s minds [] left last all = (tt, tt)
  walk_order n s minds (e ∷ es) left last all =
      let k = e.who in
      let b = own_block u n s minds e es left last all in
      let t = (u.step s k e.note).1 in
      let now = updated minds k b.here.mind in
      let next = next_blocks u n s minds e es left last all now (updated_here minds k b.here.mind) (λ x other. updated_else minds k x b.here.mind other) in
      let go = walk_order (n + 1) t now es (updated left k b.more) last next in
      let rest = walk_from es (updated left k b.more) in
      let front : List (Record N R C A T) = core_record (n + 1) e ∷ b.locals in
      let head = block_order k (n + 1) (stand_at u k (n + 1) t (minds k) e) b.here e b.locals refl refl refl b.inside in
      let ordered : InOrder (front ++ rest) = order-places (n + 1) front rest head.0 go.0
      (each-weaken (λ r. place r ≡ n + 1) (λ r. place r ≤ n + 1) front (λ r h. omega arith) head.1) go.1 in
      let above : AllByRecursion (λ r. n < place r) (front ++ rest) = each-append (λ r. n < place r) front rest
      (each-weaken (λ r. place r ≡ n + 1) (λ r. n < place r) front (λ r h. omega arith) head.1)
      (each-weaken (λ r. n + 1 < place r) (λ r. n < place r) rest (λ r h. omega arith) go.1) in
      subst (λ J. InOrder J × AllByRecursion (λ r. n < place r) J) (sym (walk_block u n s minds e es left last all)) (ordered, above)

  walk_marked : (n : ℕ) (s : S) (minds : ℕ → M) (es : List (Entry N R)) (left : ℕ → List (Record N R C A T)) (last : ℕ → M)
      → AllBlocks u n s minds es left last → AllByRecursion IsMarked (walk_from es left)
  walk_marked n s minds [] left last all = tt
  walk_marked n s minds (e ∷ es) left last all =
      let k = e.who in
      let b = own_block u n s minds e es left last all in
      let t = (u.step s k e.note).1 in
      let now = updated minds k b.here.mind in
      let next = next_blocks u n s minds e es left last all now (updated_here minds k b.here.mind) (λ x other. updated_else minds k x b.here.mind other) in
      let go = walk_marked (n + 1) t now es (updated left k b.more) last next in
      let l = locals_marked k (stand_at u k (n + 1) t (minds k) e) b.here b.locals b.inside in
      subst (λ (J : List (Record N R C A T)). AllByRecursion IsMarked J) (sym (walk_block u n s minds e es left last all)) (refl, each-append IsMarked b.locals (walk_from es (updated left k b.more)) l go)

  -- after and index of the records of one actor
  locals_placed : (w : ℕ) (at to : Stand M H) (ls more : List (Record N R C A T)) → AreLocals u w at ls to → Placed to.after to.index more → Placed at.after at.index (ls ++ more)
  locals_placed w at to [] more a h = subst (λ (x : Stand M H). Placed x.after x.index more) a h
  locals_placed w at to (r ∷ rs) more a h =
      let go = locals_placed w (after_local u at r.did) to rs more a.1 h in
      subst (λ (o : Option ℕ). IsPlaced o at.after at.index r × Placed (unwrap_or o at.after) (next_index o at.index) (rs ++ more)) (sym a.0.number) ((a.0.after, a.0.index), go)

  pub agrees_placed : (w n : ℕ) (s : S) (at to : Stand M H) (es : List (Entry N R)) (rs : List (Record N R C A T)) → Agrees u w n s at es rs to → Placed at.after at.index rs
  agrees_placed w n s at to [] rs a = subst (λ l. Placed at.after at.index l) (append-nil rs) (locals_placed w at to rs [] a tt)
  agrees_placed w n s at to (e ∷ es) rs a =
      let t = (u.step s e.who e.note).1 in
      let own : Reaches u w (n + 1) at e rs (Behind u w (n + 1) t e es to) → Placed at.after at.index rs
      = λ o. subst (λ l. Placed at.after at.index l) (sym o.parts)
      (locals_placed w at o.here o.locals (core_record (n + 1) e ∷ o.more) o.before ((refl, refl), agrees_placed w (n + 1) t (after_core u w (n + 1) t o.here e) to es o.more o.behind)) in
      from_either (eqb e.who w) own (λ o. agrees_placed w (n + 1) t at to es rs o) a

  module _ (s : S) (minds : ℕ → M) (es : List (Entry N R)) (parts : ℕ → List (Record N R C A T)) (to : ℕ → Stand M H)
      (all : (w : ℕ) → AgreesWith u s (minds w) w es (parts w) (to w)) where
    -- at the start, and of actors above all numbers below these
    record IsFirst (ws : List ℕ) (r : Record N R C A T) : Type 0 where
      start : place r ≡ 0
      above : (k : ℕ) → Below k ws → k < r.who

    firsts_order : (ws : List ℕ) → Rises ws → InOrder (firsts ws parts) × AllByRecursion (IsFirst ws) (firsts ws parts)
    firsts_order [] rises = (tt, tt)
    firsts_order (w ∷ ws) rises =
        let o = split u s minds es parts to all w in
        let l = locals_order w (fresh u w s (minds w)) o.here o.locals o.inside in
        let go = firsts_order ws rises.1 in
        let F = firsts ws parts in
        let joined : InOrder (o.locals ++ F) = pairs-append Before o.locals F l.0 go.0
        (each-weaken (IsBehind 0 w 0) (λ x. AllByRecursion (Before x) F) o.locals
        (λ x h. each-weaken (IsFirst ws) (Before x) F
        (λ y g. let less : w < y.who = g.above w rises.0 in let same : x.who ≡ w = h.whose in inr (h.at ∙ sym g.start, inl (omega arith))) go.1) l.1) in
        let places : AllByRecursion (IsFirst (w ∷ ws)) (o.locals ++ F)
        = each-append (IsFirst (w ∷ ws)) o.locals F
        (each-weaken (IsBehind 0 w 0) (IsFirst (w ∷ ws)) o.locals
        (λ x h. record { start = h.at; above = λ k b. let less : k < w = b.0 in let same : x.who ≡ w = h.whose in omega arith }) l.1)
        (each-weaken (IsFirst ws) (IsFirst (w ∷ ws)) F (λ x h. record { start = h.start; above = λ k b. h.above k b.1 }) go.1) in
        subst (λ (L : List (Record N R C A T)). InOrder (L ++ F) × AllByRecursion (IsFirst (w ∷ ws)) (L ++ F)) (sym (first_are u s minds es parts to all w)) (joined, places)

    firsts_marked : (ws : List ℕ) → AllByRecursion IsMarked (firsts ws parts)
    firsts_marked [] = tt
    firsts_marked (w ∷ ws) =
        let o = split u s minds es parts to all w in
        subst (λ (L : List (Record N R C A T)). AllByRecursion IsMarked (L ++ firsts ws parts)) (sym (first_are u s minds es parts to all w))
        (each-append IsMarked o.locals (firsts ws parts) (locals_marked w (fresh u w s (minds w)) o.here o.locals o.inside) (firsts_marked ws))

    there : AllBlocks u 0 s (λ w. (split u s minds es parts to all w).here.mind) es (λ w. behind (parts w)) (λ w. (to w).mind)
    there = blocks_there u s minds es parts to all (λ w. (split u s minds es parts to all w).here.mind) (λ w. refl)

    -- the whole walk stands in the order of a journal
    pub whole_order : (actors : List ℕ) → Rises actors → AllPairs Before (firsts actors parts ++ walk_from es (λ w. behind (parts w)))
    whole_order actors rises =
        let rest = walk_from es (λ w. behind (parts w)) in
        let f = firsts_order actors rises in
        let g = walk_order 0 s (λ w. (split u s minds es parts to all w).here.mind) es (λ w. behind (parts w)) (λ w. (to w).mind) there in
        AllPairs-from_recursion Before (firsts actors parts ++ rest)
        (order-places 0 (firsts actors parts) rest f.0 g.0
        (each-weaken (IsFirst actors) (λ r. place r ≤ 0) (firsts actors parts) (λ r h. let z : place r ≡ 0 = h.start in omega arith) f.1) g.1)

    -- numbers stand exactly at core records
    pub whole_marked : (actors : List ℕ) → All IsMarked (firsts actors parts ++ walk_from es (λ w. behind (parts w)))
    whole_marked actors =
        let rest = walk_from es (λ w. behind (parts w)) in
        All-from_recursion IsMarked (firsts actors parts ++ rest)
        (each-append IsMarked (firsts actors parts) rest (firsts_marked actors)
        (walk_marked 0 s (λ w. (split u s minds es parts to all w).here.mind) es (λ w. behind (parts w)) (λ w. (to w).mind) there))
