-- In the walk each actor has its records in their order, and the core records are the history.
use Rattle.std.proofs.Common.{◌≡◌, ◌≢◌, ℕ, ◌+◌, Bool, true, false, List, [], ◌∷◌, ◌++◌, length, if◌then◌else◌, eqb, eq-eqb, ne_eqb, sym, refl, ap, ◌∙◌, append_assoc, append-nil}
use Rattle.std.specs.Prelude.{Option, None}
use Rattle.std.specs.List.{cons_option, range_with_len}
use Rattle.std.proofs.lemmas.List.Elements.{filter-append}
use native.Mathlib.Decide.{ℕ_discrete}
use mathlib.Core.Logic.{dite}
use Rattle.turn_hall.specs.declared.entry.Entry.{Entry}
use Rattle.actor_records.specs.declared.record.Record.{Record}
use Rattle.actor_records.specs.declared.record.Did.{Did}
use Rattle.actor_records.specs.declared.record.Did.TheVariants.{Core, Local, Starved}
use Rattle.actor_records.specs.Records.{core_record, updated, book_of, entry_of, numbers, of_who}
use Rattle.actor_records.specs.Rules.{Rules}
use Rattle.actor_records.specs.Agreement.{Stand, AreLocals, AgreesWith, fresh, after_local, Answers}
use Rattle.actor_records.specs.Walk.{locals, behind, walk_from}
use Rattle.actor_records.proofs.Choice.{updated_here, updated_at, updated_else}
use Rattle.actor_records.proofs.Blocks.{stand_at}
use Rattle.actor_records.proofs.Runs.{AllBlocks, own_block, next_blocks, walk_block}
use Rattle.actor_records.proofs.Firsts.{firsts, Rises, has, has_here, has_else, has_not}
use Rattle.actor_records.proofs.Whole.{split, first_are, rest_are, blocks_there}

module _ {N R C A T : Type 0} where
  pub of_who-append : (w : ℕ) (xs ys : List (Record N R C A T)) → of_who w (xs ++ ys) ≡ of_who w xs ++ of_who w ys
  of_who-append w xs ys = filter-append (λ r. eqb r.who w) xs ys

  pub of_who-same : (w : ℕ) (r : Record N R C A T) (rs : List (Record N R C A T)) → r.who ≡ w → of_who w (r ∷ rs) ≡ r ∷ of_who w rs
  of_who-same w r rs p = ap (λ (b : Bool). if b then (r ∷ of_who w rs) else of_who w rs) (eq-eqb r.who w p)

  pub of_who-other : (w : ℕ) (r : Record N R C A T) (rs : List (Record N R C A T)) → r.who ≢ w → of_who w (r ∷ rs) ≡ of_who w rs
  of_who-other w r rs p = ap (λ (b : Bool). if b then (r ∷ of_who w rs) else of_who w rs) (ne_eqb r.who w p)

module _ {S N R C A T M H : Type 0} (u : Rules S N R C A T M H) where
  locals_own : (w : ℕ) (at to : Stand M H) (ls : List (Record N R C A T)) → AreLocals u w at ls to → of_who w ls ≡ ls
  locals_own w at to [] a = refl
  locals_own w at to (r ∷ rs) a = of_who-same w r rs a.0.who ∙ ap (λ l. r ∷ l) (locals_own w (after_local u at r.did) to rs a.1)

  locals_else : (w k : ℕ) (at to : Stand M H) (ls : List (Record N R C A T)) → w ≢ k → AreLocals u w at ls to → of_who k ls ≡ []
  locals_else w k at to [] p a = refl
  locals_else w k at to (r ∷ rs) p a = of_who-other k r rs (λ same. p (sym a.0.who ∙ same)) ∙ locals_else w k (after_local u at r.did) to rs p a.1

  no_entry : (m : M) (held : H) (w : ℕ) (did : Did N R C A T) → Answers u m held did → entry_of w did ≡ None
  no_entry m held w (Core note reply) a = absurd a
  no_entry m held w (Local command reply) a = refl
  no_entry m held w (Starved head) a = refl

  -- records that are no core records stand for no entry and have no number
  pub locals_book : (w : ℕ) (at to : Stand M H) (ls more : List (Record N R C A T)) → AreLocals u w at ls to
      → (book_of (ls ++ more) ≡ book_of more) × (numbers (ls ++ more) ≡ numbers more)
  locals_book w at to [] more a = (refl, refl)
  locals_book w at to (r ∷ rs) more a = let go = locals_book w (after_local u at r.did) to rs more a.1 in (
    ap (λ o. cons_option o (book_of (rs ++ more))) (no_entry at.mind at.held r.who r.did a.0.answers) ∙ go.0,
    ap (λ (o : Option ℕ). cons_option o (numbers (rs ++ more))) a.0.number ∙ go.1,
  )

  walk_owners : (n : ℕ) (s : S) (minds : ℕ → M) (es : List (Entry N R)) (left : ℕ → List (Record N R C A T)) (last : ℕ → M)
      → AllBlocks u n s minds es left last → (w : ℕ) → of_who w (walk_from es left) ≡ left w
  walk_owners n s minds [] left last all w = sym (all w).0
  walk_owners n s minds (e ∷ es) left last all w =
      let k = e.who in
      let b = own_block u n s minds e es left last all in
      let t = (u.step s k e.note).1 in
      let now = updated minds k b.here.mind in
      let at = stand_at u k (n + 1) t (minds k) e in
      let next = next_blocks u n s minds e es left last all now (updated_here minds k b.here.mind) (λ x other. updated_else minds k x b.here.mind other) in
      let go = walk_owners (n + 1) t now es (updated left k b.more) last next w in
      let rest = walk_from es (updated left k b.more) in
      let c : Record N R C A T = core_record (n + 1) e in
      ap (of_who w) (walk_block u n s minds e es left last all) ∙ dite (ℕ_discrete k w)
      (λ p. of_who-same w c (b.locals ++ rest) p ∙ ap (λ l. c ∷ l)
      (of_who-append w b.locals rest
      ∙ ap (λ l. l ++ of_who w rest) (ap (λ x. of_who x b.locals) (sym p) ∙ locals_own k at b.here b.locals b.inside)
      ∙ ap (λ l. b.locals ++ l) (go ∙ updated_at left k w b.more p))
      ∙ sym b.parts ∙ ap left p)
      (λ p. of_who-other w c (b.locals ++ rest) p
      ∙ of_who-append w b.locals rest
      ∙ ap (λ l. l ++ of_who w rest) (locals_else k w at b.here b.locals p b.inside)
      ∙ go ∙ updated_else left k w b.more p)

  -- the core records are the entries, with their places as numbers
  walk_book : (n : ℕ) (s : S) (minds : ℕ → M) (es : List (Entry N R)) (left : ℕ → List (Record N R C A T)) (last : ℕ → M)
      → AllBlocks u n s minds es left last → (book_of (walk_from es left) ≡ es) × (numbers (walk_from es left) ≡ range_with_len (n + 1) (length es))
  walk_book n s minds [] left last all = (refl, refl)
  walk_book n s minds (e ∷ es) left last all =
      let k = e.who in
      let b = own_block u n s minds e es left last all in
      let t = (u.step s k e.note).1 in
      let now = updated minds k b.here.mind in
      let next = next_blocks u n s minds e es left last all now (updated_here minds k b.here.mind) (λ x other. updated_else minds k x b.here.mind other) in
      let go = walk_book (n + 1) t now es (updated left k b.more) last next in
      let l = locals_book k (stand_at u k (n + 1) t (minds k) e) b.here b.locals (walk_from es (updated left k b.more)) b.inside in
      let cut = walk_block u n s minds e es left last all in (
        ap book_of cut ∙ ap (λ l. e ∷ l) (l.0 ∙ go.0),
        ap numbers cut ∙ ap (λ l. (n + 1) ∷ l) (l.1 ∙ go.1),
      )

  module _ (s : S) (minds : ℕ → M) (es : List (Entry N R)) (parts : ℕ → List (Record N R C A T)) (to : ℕ → Stand M H)
      (all : (w : ℕ) → AgreesWith u s (minds w) w es (parts w) (to w)) where
    firsts_own : (ws : List ℕ) (w : ℕ) → Rises ws → of_who w (firsts ws parts) ≡ (if has w ws then locals (parts w) else [])
    firsts_own [] w rises = refl
    firsts_own (k ∷ ws) w rises =
        let o = split u s minds es parts to all k in
        let at = fresh u k s (minds k) in
        let first : locals (parts k) ≡ o.locals = first_are u s minds es parts to all k in
        let go = firsts_own ws w rises.1 in
        of_who-append w (locals (parts k)) (firsts ws parts) ∙ dite (ℕ_discrete k w)
        (λ p.
        let absent : has w ws ≡ false = ap (λ x. has x ws) (sym p) ∙ has_not k ws rises.0 in
        let here : has w (k ∷ ws) ≡ true = ap (λ x. has x (k ∷ ws)) (sym p) ∙ has_here k ws in
        let none : of_who w (firsts ws parts) ≡ [] = go ∙ ap (λ (b : Bool). if b then locals (parts w) else []) absent in
        let own : of_who w (locals (parts k)) ≡ locals (parts k)
        = ap (λ x. of_who x (locals (parts k))) (sym p) ∙ ap (of_who k) first ∙ locals_own k at o.here o.locals o.inside ∙ sym first in
        ap (λ l. of_who w (locals (parts k)) ++ l) none ∙ append-nil (of_who w (locals (parts k))) ∙ own ∙ ap (λ x. locals (parts x)) p
        ∙ sym (ap (λ (b : Bool). if b then locals (parts w) else []) here))
        (λ p.
        let none : of_who w (locals (parts k)) ≡ [] = ap (of_who w) first ∙ locals_else k w at o.here o.locals p o.inside in
        ap (λ l. l ++ of_who w (firsts ws parts)) none ∙ go ∙ sym (ap (λ (b : Bool). if b then locals (parts w) else []) (has_else w k ws p)))

    firsts_book : (ws : List ℕ) (more : List (Record N R C A T)) → (book_of (firsts ws parts ++ more) ≡ book_of more) × (numbers (firsts ws parts ++ more) ≡ numbers more)
    firsts_book [] more = (refl, refl)
    firsts_book (k ∷ ws) more =
        let o = split u s minds es parts to all k in
        let l = locals_book k (fresh u k s (minds k)) o.here o.locals (firsts ws parts ++ more) o.inside in
        let go = firsts_book ws more in
        let same : firsts (k ∷ ws) parts ++ more ≡ o.locals ++ (firsts ws parts ++ more)
        = append_assoc (locals (parts k)) (firsts ws parts) more ∙ ap (λ l. l ++ (firsts ws parts ++ more)) (first_are u s minds es parts to all k) in
        (ap book_of same ∙ l.0 ∙ go.0, ap numbers same ∙ l.1 ∙ go.1)

    there : AllBlocks u 0 s (λ w. (split u s minds es parts to all w).here.mind) es (λ w. behind (parts w)) (λ w. (to w).mind)
    there = blocks_there u s minds es parts to all (λ w. (split u s minds es parts to all w).here.mind) (λ w. refl)

    parts_joined : (b : Bool) (w : ℕ) → (b ≡ false → parts w ≡ []) → (if b then locals (parts w) else []) ++ behind (parts w) ≡ parts w
    parts_joined true w known = let o = split u s minds es parts to all w in
        ap (λ l. l ++ behind (parts w)) (first_are u s minds es parts to all w) ∙ ap (λ l. o.locals ++ l) (rest_are u s minds es parts to all w) ∙ sym o.parts
    parts_joined false w known = ap behind (known refl) ∙ sym (known refl)

    -- in the whole walk each actor has exactly its records, in their order
    pub whole_owners : (actors : List ℕ) → Rises actors → ((w : ℕ) → has w actors ≡ false → parts w ≡ []) → (w : ℕ)
        → of_who w (firsts actors parts ++ walk_from es (λ w. behind (parts w))) ≡ parts w
    whole_owners actors rises known w =
        let rest = walk_from es (λ w. behind (parts w)) in
        of_who-append w (firsts actors parts) rest
        ∙ ap (λ l. l ++ of_who w rest) (firsts_own actors w rises)
        ∙ ap (λ l. (if has w actors then locals (parts w) else []) ++ l)
        (walk_owners 0 s (λ w. (split u s minds es parts to all w).here.mind) es (λ w. behind (parts w)) (λ w. (to w).mind) there w)
        ∙ parts_joined (has w actors) w (known w)

    -- the core records of the whole walk are the history, numbered from 1
    pub whole_book : (actors : List ℕ)
        → (book_of (firsts actors parts ++ walk_from es (λ w. behind (parts w))) ≡ es)
        × (numbers (firsts actors parts ++ walk_from es (λ w. behind (parts w))) ≡ range_with_len 1 (length es))
    whole_book actors =
        let f = firsts_book actors (walk_from es (λ w. behind (parts w))) in
        let g = walk_book 0 s (λ w. (split u s minds es parts to all w).here.mind) es (λ w. behind (parts w)) (λ w. (to w).mind) there in
        (f.0 ∙ g.0, f.1 ∙ g.1)
