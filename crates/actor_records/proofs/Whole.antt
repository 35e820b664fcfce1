-- The whole walk is a run of one thread: the records before any core record, and then the walk from there.
use Rattle.std.proofs.Common.{◌≡◌, ◌≢◌, ℕ, Bool, true, false, List, [], ◌∷◌, ◌++◌, sym, refl, ap, ◌∙◌, subst, append_assoc}
use native.Mathlib.Decide.{ℕ_discrete}
use mathlib.Core.Logic.{dite}
use Rattle.turn_hall.specs.declared.entry.Entry.{Entry}
use Rattle.turn_hall.specs.Replay.{replay, IsLegal}
use Rattle.actor_records.specs.declared.record.Record.{Record}
use Rattle.actor_records.specs.Rules.{Rules}
use Rattle.actor_records.specs.Agreement.{Stand, AreLocals, AgreesWith, fresh}
use Rattle.actor_records.specs.OneThread.{World, one, world_after, AllDue}
use Rattle.actor_records.specs.Walk.{locals, behind, walk_from}
use Rattle.actor_records.proofs.Blocks.{Blocks, Onward, Parted, parted, no_locals, locals_of}
use Rattle.actor_records.proofs.Runs.{Passes, passes_none, locals_pass, AllBlocks, Runs, passes_runs, walk_runs}
use Rattle.actor_records.proofs.Firsts.{firsts, Rises, has, not_both, has_here, has_else, has_not}

by_bool : {P : Type 0} (b : Bool) → (b ≡ true → P) → (b ≡ false → P) → P
by_bool true f g = f refl
by_bool false f g = g refl

module _ {S N R C A T M H : Type 0} (u : Rules S N R C A T M H) where
  passes_more : (a b c : World S M) (xs ys : List (Record N R C A T)) → Passes u a b xs → Passes u b c ys → Passes u a c (xs ++ ys)
  passes_more a b c xs ys p q =
      let same : (J : List (Record N R C A T)) → (xs ++ ys) ++ J ≡ xs ++ (ys ++ J) = λ J. append_assoc xs ys J in
      record {
        replies = λ J. ap (one u a) (same J) ∙ p.replies (ys ++ J) ∙ ap (λ l. xs ++ l) (q.replies J) ∙ sym (append_assoc xs ys (one u c J));
        due = λ J d. subst (AllDue u a) (sym (same J)) (p.due (ys ++ J) (q.due J d));
        world = λ J. ap (world_after u a) (same J) ∙ p.world (ys ++ J) ∙ q.world J;
      }

  -- actors whose records agree with one history
  module _ (s : S) (minds : ℕ → M) (es : List (Entry N R)) (parts : ℕ → List (Record N R C A T)) (to : ℕ → Stand M H)
      (all : (w : ℕ) → AgreesWith u s (minds w) w es (parts w) (to w)) where
    -- the parts of an actor's records
    abbrev pub split : (w : ℕ) → Parted u w (fresh u w s (minds w)) (parts w) (Onward u w 0 s es (to w).mind)
    split w = parted u w 0 s (fresh u w s (minds w)) (to w) es (parts w) (all w)

    cut_here : (w : ℕ) → (locals (parts w) ≡ (split w).locals) × (behind (parts w) ≡ (split w).more)
    cut_here w = let o = split w in
        let l = locals_of u w (fresh u w s (minds w)) o.here o.locals o.more o.inside (no_locals u w 0 s o.here.mind (to w).mind es o.more o.behind) in
        (ap locals o.parts ∙ l.0, ap behind o.parts ∙ l.1)

    pub first_are : (w : ℕ) → locals (parts w) ≡ (split w).locals
    first_are w = (cut_here w).0

    pub rest_are : (w : ℕ) → behind (parts w) ≡ (split w).more
    rest_are w = (cut_here w).1

    -- where the first records of these actors lead
    record FirstsPass (ws : List ℕ) (now : ℕ → M) : Type 0 where
      after : ℕ → M
      among : (w : ℕ) → has w ws ≡ true → after w ≡ (split w).here.mind
      others : (w : ℕ) → has w ws ≡ false → after w ≡ now w
      passes : Passes u (record { state = s; minds = now }) (record { state = s; minds = after }) (firsts ws parts)

    firsts_pass : (ws : List ℕ) (now : ℕ → M) → Rises ws → ((w : ℕ) → has w ws ≡ true → now w ≡ minds w) → FirstsPass ws now
    firsts_pass [] now rises same = record {
      after = now;
      among = λ w h. absurd (not_both false h refl);
      others = λ w h. refl;
      passes = passes_none u (record { state = s; minds = now });
    }
    firsts_pass (w ∷ ws) now rises same =
        let o = split w in
        let v : World S M = record { state = s; minds = now } in
        let go = locals_pass u w (fresh u w s (minds w)) o.here o.locals v o.inside (same w (has_here w ws)) refl in
        let absent = has_not w ws rises.0 in
        let differs : (k : ℕ) → has k ws ≡ true → w ≢ k = λ k h p. not_both (has w ws) (ap (λ x. has x ws) p ∙ h) absent in
        let next = firsts_pass ws go.minds rises.1 (λ k h. go.others k (differs k h) ∙ same k (has_else k w ws (differs k h) ∙ h)) in
        let all_first : Passes u v (record { state = s; minds = next.after }) (o.locals ++ firsts ws parts)
        = passes_more v (record { state = s; minds = go.minds }) (record { state = s; minds = next.after }) o.locals (firsts ws parts) go.passes next.passes in
        record {
          after = next.after;
          among = λ k h. dite (ℕ_discrete w k)
              (λ p. subst (λ x. next.after x ≡ (split x).here.mind) p (next.others w absent ∙ go.own))
              (λ p. next.among k (sym (has_else k w ws p) ∙ h));
          others = λ k h.
              let other : w ≢ k = λ p. not_both (has w (w ∷ ws)) (has_here w ws) (ap (λ x. has x (w ∷ ws)) p ∙ h) in
              next.others k (sym (has_else k w ws other) ∙ h) ∙ go.others k other;
          passes = subst (λ (l : List (Record N R C A T)). Passes u v (record { state = s; minds = next.after }) (l ++ firsts ws parts)) (sym (first_are w)) all_first;
        }

    nothing_first : (w : ℕ) (ls more : List (Record N R C A T)) (here : Stand M H) → ls ++ more ≡ [] → AreLocals u w (fresh u w s (minds w)) ls here → here.mind ≡ minds w
    nothing_first w [] more here p a = ap (λ (x : Stand M H). x.mind) a
    nothing_first w (r ∷ rs) more here p a = absurd cc

    -- what each actor has left behind its first records is blocks
    pub blocks_there : (now : ℕ → M) → ((w : ℕ) → now w ≡ (split w).here.mind) → AllBlocks u 0 s now es (λ w. behind (parts w)) (λ w. (to w).mind)
    blocks_there now same w =
        subst (λ (l : List (Record N R C A T)). Blocks u w 0 s (now w) es l (to w).mind) (sym (rest_are w))
        (subst (λ m. Blocks u w 0 s m es (split w).more (to w).mind) (sym (same w)) (split w).behind)

    -- one thread makes the whole walk, each call when it is due, and leaves the state of the history and what each actor has in mind
    pub whole_runs : (actors : List ℕ) → Rises actors → ((w : ℕ) → has w actors ≡ false → parts w ≡ []) → IsLegal u.step s es
        → Runs u (record { state = s; minds = minds }) (firsts actors parts ++ walk_from es (λ w. behind (parts w))) (replay u.step s es) (λ w. (to w).mind)
    whole_runs actors rises known legal =
        let f = firsts_pass actors minds rises (λ w h. refl) in
        let now : (w : ℕ) → f.after w ≡ (split w).here.mind = λ w. by_bool (has w actors)
        (λ h. f.among w h)
        (λ h. f.others w h ∙ sym (nothing_first w (split w).locals (split w).more (split w).here (sym (split w).parts ∙ known w h) (split w).inside)) in
        passes_runs u (record { state = s; minds = minds }) (record { state = s; minds = f.after }) (firsts actors parts) (walk_from es (λ w. behind (parts w)))
        (replay u.step s es) (λ w. (to w).mind) f.passes
        (walk_runs u 0 s f.after es (λ w. behind (parts w)) (λ w. (to w).mind) legal (blocks_there f.after now))
