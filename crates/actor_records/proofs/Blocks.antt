-- The records of an actor as blocks: first those before its first core record; then each core record with those up to the next.
use Rattle.std.proofs.Common.{◌≡◌, ℕ, ◌+◌, Bool, true, false, List, [], ◌∷◌, ◌++◌, if◌then◌else◌, eqb, sym, refl, ap, ◌∙◌, subst, append-nil}
use Rattle.std.specs.Prelude.{Option, is_none}
use Rattle.std.specs.Bool.{MatchBool}
use Rattle.turn_hall.specs.declared.entry.Entry.{Entry}
use Rattle.actor_records.specs.declared.record.Record.{Record}
use Rattle.actor_records.specs.declared.record.Did.TheVariants.{Core}
use Rattle.actor_records.specs.Records.{core_record}
use Rattle.actor_records.specs.Rules.{Rules}
use Rattle.actor_records.specs.Agreement.{Stand, AreLocals, Reaches, Agrees, after_local, after_core}
use Rattle.actor_records.specs.Walk.{locals, behind}
use Rattle.actor_records.proofs.Agreement.{Behind}

module _ {S N R C A T M H : Type 0} (u : Rules S N R C A T M H) where
  -- where an actor stands right after a core record, with the mind m before it
  abbrev pub stand_at : ℕ → ℕ → S → M → Entry N R → Stand M H
  stand_at w n t m e = record { after = n; index = 0; held = u.holds t w; mind = u.told m e.note e.reply }

  -- a core record, the records up to the next one, and what goes on from there
  pub record IsBlock (w n : ℕ) (t : S) (m : M) (e : Entry N R) (rs : List (Record N R C A T)) (GoesOn : M → List (Record N R C A T) → Type 0) : Type 0 where
    pub locals : List (Record N R C A T)
    pub more : List (Record N R C A T)
    pub here : Stand M H
    pub parts : rs ≡ core_record n e ∷ (locals ++ more)
    pub due : u.Due n m (Core e.note e.reply)
    pub inside : AreLocals u w (stand_at w n t m e) locals here
    pub behind : GoesOn here.mind more

  -- a block for each entry of the actor, which lead from one mind to another
  abbrev pub Blocks : ℕ → ℕ → S → M → List (Entry N R) → List (Record N R C A T) → M → Type 0
  Blocks w n s m [] rs last = (rs ≡ []) × (last ≡ m)
  Blocks w n s m (e ∷ es) rs last =
      let t = (u.step s e.who e.note).1 in
      MatchBool (eqb e.who w) (IsBlock w (n + 1) t m e rs (λ m more. Blocks w (n + 1) t m es more last)) (Blocks w (n + 1) t m es rs last)

  -- what goes on behind a block
  abbrev pub Onward : ℕ → ℕ → S → List (Entry N R) → M → M → List (Record N R C A T) → Type 0
  Onward w n t es last m more = Blocks w n t m es more last

  -- the records before the first core record, and what goes on from there
  pub record Parted (w : ℕ) (at : Stand M H) (rs : List (Record N R C A T)) (GoesOn : M → List (Record N R C A T) → Type 0) : Type 0 where
    pub locals : List (Record N R C A T)
    pub more : List (Record N R C A T)
    pub here : Stand M H
    pub parts : rs ≡ locals ++ more
    pub inside : AreLocals u w at locals here
    pub behind : GoesOn here.mind more

  either_parted : (b : Bool) (w : ℕ) (at : Stand M H) (rs : List (Record N R C A T)) (P Q : Type 0) (P' Q' : M → List (Record N R C A T) → Type 0)
      → (P → Parted w at rs P') → (Q → Parted w at rs Q') → MatchBool b P Q → Parted w at rs (λ m more. MatchBool b (P' m more) (Q' m more))
  either_parted true w at rs P Q P' Q' f g x = f x
  either_parted false w at rs P Q P' Q' f g x = g x

  -- records that agree with a history are blocks
  pub parted : (w n : ℕ) (s : S) (at to : Stand M H) (es : List (Entry N R)) (rs : List (Record N R C A T)) → Agrees u w n s at es rs to
      → Parted w at rs (Onward w n s es to.mind)
  parted w n s at to [] rs a = record { locals = rs; more = []; here = to; parts = sym (append-nil rs); inside = a; behind = (refl, refl) }
  parted w n s at to (e ∷ es) rs a =
      let t = (u.step s e.who e.note).1 in
      let own : Reaches u w (n + 1) at e rs (Behind u w (n + 1) t e es to) → Parted w at rs (λ m more. IsBlock w (n + 1) t m e more (Onward w (n + 1) t es to.mind))
      = λ o. let p = parted w (n + 1) t (after_core u w (n + 1) t o.here e) to es o.more o.behind in
      record {
        locals = o.locals;
        more = core_record (n + 1) e ∷ o.more;
        here = o.here;
        parts = o.parts;
        inside = o.before;
        behind = record { locals = p.locals; more = p.more; here = p.here; parts = ap (λ l. core_record (n + 1) e ∷ l) p.parts; due = o.due; inside = p.inside; behind = p.behind };
      } in
      either_parted (eqb e.who w) w at rs
      (Reaches u w (n + 1) at e rs (Behind u w (n + 1) t e es to)) (Agrees u w (n + 1) t at es rs to)
      (λ m more. IsBlock w (n + 1) t m e more (Onward w (n + 1) t es to.mind)) (Onward w (n + 1) t es to.mind)
      own (λ o. parted w (n + 1) t at to es rs o) a

  block_first : (b : Bool) (w n : ℕ) (t : S) (m : M) (e : Entry N R) (rs : List (Record N R C A T)) (GoesOn : M → List (Record N R C A T) → Type 0) (Q : Type 0)
      → (Q → (locals rs ≡ []) × (behind rs ≡ rs)) → MatchBool b (IsBlock w n t m e rs GoesOn) Q → (locals rs ≡ []) × (behind rs ≡ rs)
  block_first true w n t m e rs GoesOn Q go o = subst (λ (l : List (Record N R C A T)). (locals l ≡ []) × (behind l ≡ l)) (sym o.parts) (refl, refl)
  block_first false w n t m e rs GoesOn Q go o = go o

  -- blocks begin with a core record, if there are any
  pub no_locals : (w n : ℕ) (s : S) (m last : M) (es : List (Entry N R)) (rs : List (Record N R C A T)) → Blocks w n s m es rs last → (locals rs ≡ []) × (behind rs ≡ rs)
  no_locals w n s m last [] rs o = subst (λ (l : List (Record N R C A T)). (locals l ≡ []) × (behind l ≡ l)) (sym o.0) (refl, refl)
  no_locals w n s m last (e ∷ es) rs o =
      let t = (u.step s e.who e.note).1 in
      block_first (eqb e.who w) w (n + 1) t m e rs (Onward w (n + 1) t es last) (Blocks w (n + 1) t m es rs last) (no_locals w (n + 1) t m last es rs) o

  -- where the walk cuts records: behind those that are no core records
  pub locals_of : (w : ℕ) (at to : Stand M H) (ls more : List (Record N R C A T)) → AreLocals u w at ls to → (locals more ≡ []) × (behind more ≡ more)
      → (locals (ls ++ more) ≡ ls) × (behind (ls ++ more) ≡ more)
  locals_of w at to [] more a h = h
  locals_of w at to (r ∷ rs) more a h =
      let go = locals_of w (after_local u at r.did) to rs more a.1 h in (
        ap (λ (o : Option ℕ). if is_none o then (r ∷ locals (rs ++ more)) else []) a.0.number ∙ ap (λ l. r ∷ l) go.0,
        ap (λ (o : Option ℕ). if is_none o then behind (rs ++ more) else (r ∷ (rs ++ more))) a.0.number ∙ go.1,
      )
