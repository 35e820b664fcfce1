-- What the walk makes from the first core record on is a run of one thread.
use Rattle.std.proofs.Common.{◌≡◌, ◌≢◌, ℕ, ◌+◌, List, [], ◌∷◌, ◌++◌, eq-eqb, ne_eqb, sym, refl, ap, ◌∙◌, subst}
use Rattle.std.specs.Prelude.{Option, unwrap_or}
use Rattle.std.proofs.lemmas.Bool.{MatchBool-at_true, MatchBool-at_false}
use native.Mathlib.Decide.{ℕ_discrete}
use mathlib.Core.Logic.{dite}
use Rattle.turn_hall.specs.declared.entry.Entry.{Entry}
use Rattle.turn_hall.specs.Replay.{replay, IsLegal}
use Rattle.actor_records.specs.declared.record.Record.{Record}
use Rattle.actor_records.specs.declared.record.Did.{Did}
use Rattle.actor_records.specs.declared.record.Did.TheVariants.{Core, Local, Starved}
use Rattle.actor_records.specs.Records.{core_record, updated, place}
use Rattle.actor_records.specs.Rules.{Rules}
use Rattle.actor_records.specs.Agreement.{Stand, AreLocals, after_local, mind_after, Answers}
use Rattle.actor_records.specs.OneThread.{World, redone, set_mind, one, world_after, AllDue}
use Rattle.actor_records.specs.Walk.{block, behind_block, walk_from}
use Rattle.actor_records.proofs.Choice.{updated_here, updated_at, updated_else}
use Rattle.actor_records.proofs.Blocks.{IsBlock, Blocks, Onward, stand_at, no_locals, locals_of}

module _ {S N R C A T M H : Type 0} (u : Rules S N R C A T M H) where
  -- a record that is no core record has the reply of one thread
  redone_local : (v : World S M) (w : ℕ) (m : M) (held : H) (did : Did N R C A T) → v.minds w ≡ m → u.holds v.state w ≡ held → Answers u m held did
      → redone u v w did ≡ (did, set_mind u v v.state w (mind_after u m held did))
  redone_local v w m held (Core note reply) p q a = absurd a
  redone_local v w m held (Local command reply) p q a =
      (λ i. (Local command (u.local (p i) (q i) command).0, set_mind u v v.state w (u.local (p i) (q i) command).1))
      ∙ ap (λ x. (Local command x, set_mind u v v.state w (u.local m held command).1)) a
  redone_local v w m held (Starved head) p q a = λ i. (Starved head, set_mind u v v.state w (u.starved (p i)))

  -- what one thread makes of these records and any behind them, by what it makes of those behind
  pub record Passes (v to : World S M) (ls : List (Record N R C A T)) : Type 0 where
    pub replies : (J : List (Record N R C A T)) → one u v (ls ++ J) ≡ ls ++ one u to J
    pub due : (J : List (Record N R C A T)) → AllDue u to J → AllDue u v (ls ++ J)
    pub world : (J : List (Record N R C A T)) → world_after u v (ls ++ J) ≡ world_after u to J

  pub passes_none : (v : World S M) → Passes v v []
  passes_none v = record { replies = λ J. refl; due = λ J d. d; world = λ J. refl }

  -- where records of one actor without a core record lead
  pub record LocalsPass (w : ℕ) (to : Stand M H) (v : World S M) (ls : List (Record N R C A T)) : Type 0 where
    pub minds : ℕ → M
    pub own : minds w ≡ to.mind
    pub others : (k : ℕ) → w ≢ k → minds k ≡ v.minds k
    pub passes : Passes v (record { state = v.state; minds = minds }) ls

  pub locals_pass : (w : ℕ) (at to : Stand M H) (ls : List (Record N R C A T)) (v : World S M) → AreLocals u w at ls to
      → v.minds w ≡ at.mind → u.holds v.state w ≡ at.held → LocalsPass w to v ls
  locals_pass w at to [] v a p q =
      record { minds = v.minds; own = p ∙ ap (λ (x : Stand M H). x.mind) (sym a); others = λ k other. refl; passes = passes_none v }
  locals_pass w at to (r ∷ rs) v a p q =
      let m = mind_after u at.mind at.held r.did in
      let p' : v.minds r.who ≡ at.mind = ap v.minds a.0.who ∙ p in
      let q' : u.holds v.state r.who ≡ at.held = ap (λ k. u.holds v.state k) a.0.who ∙ q in
      let v' = set_mind u v v.state r.who m in
      let at_place : place r ≡ at.after = ap (λ (o : Option ℕ). unwrap_or o r.after) a.0.number ∙ a.0.after in
      let e : redone u v r.who r.did ≡ (r.did, v') = redone_local v r.who at.mind at.held r.did p' q' a.0.answers in
      let go = locals_pass w (after_local u at r.did) to rs v' a.1 (updated_at v.minds r.who w m a.0.who) q in
      record {
        minds = go.minds;
        own = go.own;
        others = λ k other. go.others k other ∙ updated_else v.minds r.who k m (λ same. other (sym a.0.who ∙ same));
        passes = record {
          replies = λ J. ap (λ (x : Did N R C A T × World S M). record r { did = x.0 } ∷ one u x.1 (rs ++ J)) e ∙ ap (λ l. r ∷ l) (go.passes.replies J);
          due = λ J d. (
            subst (λ x. u.Due (place r) x r.did) (sym p') (subst (λ (k : ℕ). u.Due k at.mind r.did) (sym at_place) a.0.due),
            subst (λ (x : Did N R C A T × World S M). AllDue u x.1 (rs ++ J)) (sym e) (go.passes.due J d),
          );
          world = λ J. ap (λ (x : Did N R C A T × World S M). world_after u x.1 (rs ++ J)) e ∙ go.passes.world J;
        };
      }

  -- what each actor has left is blocks for the entries to come
  abbrev pub AllBlocks : ℕ → S → (ℕ → M) → List (Entry N R) → (ℕ → List (Record N R C A T)) → (ℕ → M) → Type 0
  AllBlocks n s minds es left last = (w : ℕ) → Blocks u w n s (minds w) es (left w) (last w)

  -- one step of the walk
  module _ (n : ℕ) (s : S) (minds : ℕ → M) (e : Entry N R) (es : List (Entry N R)) (left : ℕ → List (Record N R C A T)) (last : ℕ → M)
      (all : AllBlocks n s minds (e ∷ es) left last) where
    abbrev pub After : S
    After = (u.step s e.who e.note).1

    pub own_block : IsBlock u e.who (n + 1) After (minds e.who) e (left e.who) (Onward u e.who (n + 1) After es (last e.who))
    own_block = MatchBool-at_true (IsBlock u e.who (n + 1) After (minds e.who) e (left e.who) (Onward u e.who (n + 1) After es (last e.who)))
        (Blocks u e.who (n + 1) After (minds e.who) es (left e.who) (last e.who)) (eq-eqb e.who e.who refl) (all e.who)

    other_blocks : (w : ℕ) → e.who ≢ w → Blocks u w (n + 1) After (minds w) es (left w) (last w)
    other_blocks w other = MatchBool-at_false (IsBlock u w (n + 1) After (minds w) e (left w) (Onward u w (n + 1) After es (last w)))
        (Blocks u w (n + 1) After (minds w) es (left w) (last w)) (ne_eqb e.who w other) (all w)

    pub next_blocks : (now : ℕ → M) → now e.who ≡ own_block.here.mind → ((w : ℕ) → e.who ≢ w → now w ≡ minds w)
        → AllBlocks (n + 1) After now es (updated left e.who own_block.more) last
    next_blocks now here there w = dite (ℕ_discrete e.who w)
        (λ p. subst (λ x. Blocks u x (n + 1) After (now x) es (updated left e.who own_block.more x) (last x)) p
        (subst (λ (l : List (Record N R C A T)). Blocks u e.who (n + 1) After (now e.who) es l (last e.who)) (sym (updated_here left e.who own_block.more))
        (subst (λ (m : M). Blocks u e.who (n + 1) After m es own_block.more (last e.who)) (sym here) own_block.behind)))
        (λ p. subst (λ (l : List (Record N R C A T)). Blocks u w (n + 1) After (now w) es l (last w)) (sym (updated_else left e.who w own_block.more p))
        (subst (λ (m : M). Blocks u w (n + 1) After m es (left w) (last w)) (sym (there w p)) (other_blocks w p)))

    -- the walk behind the block
    abbrev pub Next : List (Record N R C A T)
    Next = walk_from es (updated left e.who own_block.more)

    pub walk_block : walk_from (e ∷ es) left ≡ core_record (n + 1) e ∷ (own_block.locals ++ Next)
    walk_block =
        let b = own_block in
        let l = locals_of u e.who (stand_at u e.who (n + 1) After (minds e.who) e) b.here b.locals b.more b.inside
        (no_locals u e.who (n + 1) After b.here.mind (last e.who) es b.more b.behind) in
        let out : block (left e.who) ≡ core_record (n + 1) e ∷ b.locals = ap block b.parts ∙ ap (λ x. core_record (n + 1) e ∷ x) l.0 in
        let rest : behind_block (left e.who) ≡ b.more = ap behind_block b.parts ∙ l.1 in
        λ i. out i ++ walk_from es (updated left e.who (rest i))

  -- one thread makes exactly these records, each the call that is due, and leaves this
  pub record Runs (v : World S M) (J : List (Record N R C A T)) (end : S) (last : ℕ → M) : Type 0 where
    pub replies : one u v J ≡ J
    pub due : AllDue u v J
    pub state : (world_after u v J).state ≡ end
    pub minds : (w : ℕ) → (world_after u v J).minds w ≡ last w

  pub passes_runs : (v to : World S M) (ls J : List (Record N R C A T)) (end : S) (last : ℕ → M) → Passes v to ls → Runs to J end last → Runs v (ls ++ J) end last
  passes_runs v to ls J end last h r = record {
    replies = h.replies J ∙ ap (λ l. ls ++ l) r.replies;
    due = h.due J r.due;
    state = ap (λ (x : World S M). x.state) (h.world J) ∙ r.state;
    minds = λ w. ap (λ (x : World S M). x.minds w) (h.world J) ∙ r.minds w;
  }

  core_runs : (v : World S M) (n : ℕ) (e : Entry N R) (J : List (Record N R C A T)) (end : S) (last : ℕ → M) → (u.step v.state e.who e.note).0 ≡ e.reply
      → u.Due n (v.minds e.who) (Core e.note e.reply)
      → Runs (set_mind u v (u.step v.state e.who e.note).1 e.who (u.told (v.minds e.who) e.note e.reply)) J end last
      → Runs v (core_record n e ∷ J) end last
  core_runs v n e J end last legal due r =
      let t = (u.step v.state e.who e.note).1 in
      let to = set_mind u v t e.who (u.told (v.minds e.who) e.note e.reply) in
      let same : redone u v e.who (Core e.note e.reply) ≡ (Core e.note e.reply, to)
      = λ i. (Core e.note (legal i), set_mind u v t e.who (u.told (v.minds e.who) e.note (legal i))) in
      let c : Record N R C A T = core_record n e in
      record {
        replies = ap (λ (x : Did N R C A T × World S M). record c { did = x.0 } ∷ one u x.1 J) same ∙ ap (λ l. c ∷ l) r.replies;
        due = (due, subst (λ (x : Did N R C A T × World S M). AllDue u x.1 J) (sym same) r.due);
        state = ap (λ (x : Did N R C A T × World S M). (world_after u x.1 J).state) same ∙ r.state;
        minds = λ w. ap (λ (x : Did N R C A T × World S M). (world_after u x.1 J).minds w) same ∙ r.minds w;
      }

  -- the walk from the first core record on
  pub walk_runs : (n : ℕ) (s : S) (minds : ℕ → M) (es : List (Entry N R)) (left : ℕ → List (Record N R C A T)) (last : ℕ → M) → IsLegal u.step s es
      → AllBlocks n s minds es left last → Runs (record { state = s; minds = minds }) (walk_from es left) (replay u.step s es) last
  walk_runs n s minds [] left last legal all = record { replies = refl; due = tt; state = refl; minds = λ w. sym (all w).1 }
  walk_runs n s minds (e ∷ es) left last legal all =
      let b = own_block n s minds e es left last all in
      let t = (u.step s e.who e.note).1 in
      let m = u.told (minds e.who) e.note e.reply in
      let v : World S M = record { state = s; minds = minds } in
      let to : World S M = record { state = t; minds = updated minds e.who m } in
      let go = locals_pass e.who (stand_at u e.who (n + 1) t (minds e.who) e) b.here b.locals to b.inside (updated_here minds e.who m) refl in
      let next = next_blocks n s minds e es left last all go.minds go.own (λ w other. go.others w other ∙ updated_else minds e.who w m other) in
      let rest = walk_from es (updated left e.who b.more) in
      let end = replay u.step t es in
      let runs = walk_runs (n + 1) t go.minds es (updated left e.who b.more) last legal.1 next in
      subst (λ J. Runs v J end last) (sym (walk_block n s minds e es left last all))
      (core_runs v (n + 1) e (b.locals ++ rest) end last legal.0 b.due
      (passes_runs to (record { state = t; minds = go.minds }) b.locals rest end last go.passes runs))
