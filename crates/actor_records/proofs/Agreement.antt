-- Agreement is kept call by call.
use Rattle.std.proofs.Common.{◌≡◌, ℕ, ◌+◌, Bool, true, false, List, [], ◌∷◌, ◌++◌, length, if◌then◌else◌, eqb, eq-eqb, sym, refl, ap, ◌∙◌, subst, append_assoc, arith}
use Rattle.turn_hall.specs.declared.entry.Entry.{Entry}
use Rattle.turn_hall.specs.Replay.{entries_of, replay}
use Rattle.actor_records.specs.declared.record.Record.{Record}
use Rattle.actor_records.specs.declared.record.Did.TheVariants.{Core}
use Rattle.actor_records.specs.Records.{core_record}
use Rattle.actor_records.specs.Rules.{Rules}
use Rattle.actor_records.specs.Agreement.{Stand, IsLocal, AreLocals, Reaches, Agrees, after_local, after_core}
use Rattle.actor_records.proofs.Choice.{either_turned, choose_first, choose_second}

module _ {S N R C A T M H : Type 0} (u : Rules S N R C A T M H) where
  -- the records behind the core record of an entry, which stands at the place n and left the state t, agree with what comes then
  abbrev pub Behind : ℕ → ℕ → S → Entry N R → List (Entry N R) → Stand M H → Stand M H → List (Record N R C A T) → Type 0
  Behind w n t e es to here more = Agrees u w n t (after_core u w n t here e) es more to

  -- the records behind the first core record become others
  pub reach_on : (w n : ℕ) (at : Stand M H) (e : Entry N R) (rs extra : List (Record N R C A T))
      (P Q : Stand M H → List (Record N R C A T) → Type 0) → ((here : Stand M H) (more : List (Record N R C A T)) → P here more → Q here (more ++ extra))
      → Reaches u w n at e rs P → Reaches u w n at e (rs ++ extra) Q
  reach_on w n at e rs extra P Q turn o = record {
    locals = o.locals;
    more = o.more ++ extra;
    here = o.here;
    parts = ap (λ l. l ++ extra) o.parts ∙ append_assoc o.locals (core_record n e ∷ o.more) extra;
    before = o.before;
    due = o.due;
    behind = turn o.here o.more o.behind;
  }

  -- the same records agree with another history
  pub reach_same : (w n : ℕ) (at : Stand M H) (e : Entry N R) (rs : List (Record N R C A T))
      (P Q : Stand M H → List (Record N R C A T) → Type 0) → ((here : Stand M H) (more : List (Record N R C A T)) → P here more → Q here more)
      → Reaches u w n at e rs P → Reaches u w n at e rs Q
  reach_same w n at e rs P Q turn o = record {
    locals = o.locals;
    more = o.more;
    here = o.here;
    parts = o.parts;
    before = o.before;
    due = o.due;
    behind = turn o.here o.more o.behind;
  }

  pub locals_more : (w : ℕ) (at to : Stand M H) (rs : List (Record N R C A T)) (r : Record N R C A T) → AreLocals u w at rs to → IsLocal u w to r
      → AreLocals u w at (rs ++ r ∷ []) (after_local u to r.did)
  locals_more w at to [] r a b = (subst (λ x. IsLocal u w x r) a b, ap (λ x. after_local u x r.did) a)
  locals_more w at to (q ∷ rs) r a b = (a.0, locals_more w (after_local u at q.did) to rs r a.1 b)

  -- one more record that is no core record
  pub agrees_local : (w n : ℕ) (s : S) (at to : Stand M H) (es : List (Entry N R)) (rs : List (Record N R C A T)) (r : Record N R C A T)
      → Agrees u w n s at es rs to → IsLocal u w to r → Agrees u w n s at es (rs ++ r ∷ []) (after_local u to r.did)
  agrees_local w n s at to [] rs r a b = locals_more w at to rs r a b
  agrees_local w n s at to (e ∷ es) rs r a b =
      let t = (u.step s e.who e.note).1 in let next = after_local u to r.did in
      either_turned (eqb e.who w)
      (reach_on w (n + 1) at e rs (r ∷ []) (Behind w (n + 1) t e es to) (Behind w (n + 1) t e es next)
      (λ here more o. agrees_local w (n + 1) t (after_core u w (n + 1) t here e) to es more r o b))
      (λ o. agrees_local w (n + 1) t at to es rs r o b)
      a

  -- the core record of the first entry of a history that is the actor's own
  first_core : (w n k : ℕ) (s : S) (at to : Stand M H) (rs : List (Record N R C A T)) (e : Entry N R) → k ≡ n + 1 → e.who ≡ w
      → AreLocals u w at rs to → u.Due k to.mind (Core e.note e.reply)
      → Agrees u w n s at (e ∷ []) (rs ++ core_record k e ∷ []) (after_core u w k (u.step s e.who e.note).1 to e)
  first_core w n k s at to rs e place own a due =
      let t = (u.step s e.who e.note).1 in
      subst (λ (k : ℕ). u.Due k to.mind (Core e.note e.reply) → Agrees u w n s at (e ∷ []) (rs ++ core_record k e ∷ []) (after_core u w k t to e)) (sym place)
      (λ due. choose_first (Agrees u w (n + 1) t at [] (rs ++ core_record (n + 1) e ∷ []) (after_core u w (n + 1) t to e)) (eq-eqb e.who w own)
      (record { locals = rs; more = []; here = to; parts = refl; before = a; due = due; behind = refl }))
      due

  -- one more entry of the actor, with its core record
  pub agrees_core : (w n : ℕ) (s : S) (at to : Stand M H) (es : List (Entry N R)) (rs : List (Record N R C A T)) (e : Entry N R) → e.who ≡ w
      → Agrees u w n s at es rs to → u.Due (n + length es + 1) to.mind (Core e.note e.reply)
      → Agrees u w n s at (es ++ e ∷ []) (rs ++ core_record (n + length es + 1) e ∷ []) (after_core u w (n + length es + 1) (replay u.step s (es ++ e ∷ [])) to e)
  agrees_core w n s at to [] rs e own a due = first_core w n (n + length {A = Entry N R} [] + 1) s at to rs e (omega arith) own a due
  agrees_core w n s at to (f ∷ es) rs e own a due =
      let t = (u.step s f.who f.note).1 in
      let k = n + length (f ∷ es) + 1 in
      let last = replay u.step t (es ++ e ∷ []) in
      let next = after_core u w k last to e in
      let same : (n + 1) + length es + 1 ≡ k = omega arith in
      let move : (at : Stand M H) (more : List (Record N R C A T)) → Agrees u w (n + 1) t at es more to → Agrees u w (n + 1) t at (es ++ e ∷ []) (more ++ core_record k e ∷ []) next
      = λ at more o. subst (λ (k : ℕ). Agrees u w (n + 1) t at (es ++ e ∷ []) (more ++ core_record k e ∷ []) (after_core u w k last to e)) same
      (agrees_core w (n + 1) t at to es more e own o (subst (λ (k : ℕ). u.Due k to.mind (Core e.note e.reply)) (sym same) due)) in
      either_turned (eqb f.who w)
      (reach_on w (n + 1) at f rs (core_record k e ∷ []) (Behind w (n + 1) t f es to) (Behind w (n + 1) t f (es ++ e ∷ []) next)
      (λ here more o. move (after_core u w (n + 1) t here f) more o))
      (λ o. move at rs o)
      a

  own_or_none : (b : Bool) (e : Entry N R) (es : List (Entry N R)) → (if b then (e ∷ es) else es) ≡ [] → (b ≡ false) × (es ≡ [])
  own_or_none true e es h = absurd cc
  own_or_none false e es h = (refl, h)

  -- records without a core record agree with every history that has no entry of the actor
  pub locals_other : (w n : ℕ) (s : S) (at to : Stand M H) (es : List (Entry N R)) (rs : List (Record N R C A T)) → entries_of w es ≡ []
      → AreLocals u w at rs to → Agrees u w n s at es rs to
  locals_other w n s at to [] rs none a = a
  locals_other w n s at to (e ∷ es) rs none a =
      let t = (u.step s e.who e.note).1 in
      let other = own_or_none (eqb e.who w) e (entries_of w es) none in
      choose_second (Reaches u w (n + 1) at e rs (Behind w (n + 1) t e es to)) other.0 (locals_other w (n + 1) t at to es rs other.1 a)

  -- records agree with every history that begins with this one and has no further entry of the actor
  pub agrees_other : (w n : ℕ) (s : S) (at to : Stand M H) (es more : List (Entry N R)) (rs : List (Record N R C A T)) → entries_of w more ≡ []
      → Agrees u w n s at es rs to → Agrees u w n s at (es ++ more) rs to
  agrees_other w n s at to [] more rs none a = locals_other w n s at to more rs none a
  agrees_other w n s at to (e ∷ es) more rs none a =
      let t = (u.step s e.who e.note).1 in
      either_turned (eqb e.who w)
      (reach_same w (n + 1) at e rs (Behind w (n + 1) t e es to) (Behind w (n + 1) t e (es ++ more) to)
      (λ here behind o. agrees_other w (n + 1) t (after_core u w (n + 1) t here e) to es more behind none o))
      (λ o. agrees_other w (n + 1) t at to es more rs none o)
      a
